-- The rosters of a sound rack are its levels, and so are those of the last rack of any list of changes. Assumes nothing.
use mathlib.Core.Path.{◌≡◌, refl, sym, ◌∙◌, subst}
use mathlib.Core.Logic.{◌↔◌, inl, inr}
use mathlib.Core.List.{List}
use Prim.Native.Nat.{ℕ, suc, ◌≤◌, ◌<◌}
use native.Mathlib.Omega.{arith}
use lib.Dec.{T, eqb, eqb→eq}
use Rattle.model.specs.Counting.{sum, bit, count}
use Rattle.model.specs.Shape.{Shape, GoodShape, low}
use Rattle.model.specs.Bytes.{size_at, rank_at, roster_at}
use Rattle.model.specs.Sound.{sound}
use Rattle.model.specs.Valid.{IsBytes}
use Rattle.model.specs.Change.{Change}
use Rattle.model.specs.Calls.{sized}
use Rattle.model.specs.Ledger.{Ledger, ledger_of, entered_all}
use Rattle.model.proofs.Tests.{le?, true-T, eqb_yes}
use Rattle.model.proofs.Counting.{sum-eq, count-all, count-single}
use Rattle.model.proofs.Sums.{sum-swap}
use Rattle.model.proofs.Shapes.{low-good}
use Rattle.model.proofs.Facts.{Facts as Tested, sound-says}
use Rattle.model.proofs.Rosters.{roster-size}
use Rattle.theory.specs.Demand.{told_all, last_rack, Facts}
use Rattle.theory.specs.Rosters.{Rosters}
use Rattle.theory.proofs.ListTheorem.{demand-three}

-- n numbers below m, sorted by their value: each is counted once
sorted : (f : ℕ → ℕ) (m n : ℕ) → ((v : ℕ) → v < n → f v < m) → sum (λ r. count (λ v. eqb (f v) r) n) m ≡ n
unfolding count
sorted f m n h =
    let single : (v : ℕ) → v < n → sum (λ r. bit (eqb (f v) r)) m ≡ 1 =
    λ v l. count-single (eqb (f v)) (f v) m (h v l) (true-T (eqb_yes (f v) (f v) refl)) (λ r t. sym (eqb→eq (f v) r t)) in
    sum-swap (λ r v. bit (eqb (f v) r)) m n ∙ sum-eq _ (λ v. 1) n single ∙ count-all n

module _ {S : Shape} {l : Ledger} {bs : List ℕ} (F : Facts S l bs) where
  tested : Tested S bs
  tested = (sound-says S bs).fact F.is-sound

  -- a vertex's rank has a roster
  ranked : (v : ℕ) → v < l.n → rank_at bs v < suc S.levels
  ranked v b = omega (arith, tested.settings.room, tested.ranks v (omega (arith, F.size)))

  in-roster : (r v : ℕ) → r ≤ S.levels → v < S.most → T (roster_at S bs r v) ↔ ((v < l.n) × (rank_at bs v ≡ r))
  in-roster r v h b = (
    λ t. elim (le? l.n v) [
      | inl past ↦ absurd (tested.clear r (omega arith) v b (omega (arith, F.size)) t)
      | inr below ↦ (below, eqb→eq (rank_at bs v) r (subst T (tested.rosters v (omega (arith, F.size)) r (omega arith)) t))
    ],
    λ k. subst T (sym (tested.rosters v (omega (arith, F.size, k.0)) r (omega arith))) (true-T (eqb_yes (rank_at bs v) r k.1)),
  )

  pub rosters-of : Rosters S l bs
  rosters-of = record {
    level = in-roster;
    listed = λ v b.
        let h : rank_at bs v ≤ S.levels = omega (arith, ranked v b) in
        (h, (in-roster (rank_at bs v) v h (omega (arith, F.size, tested.size))).1 (b, refl));
    once = λ q r v h k b t u. sym ((in-roster q v h b).0 t).1 ∙ ((in-roster r v k b).0 u).1;
    together =
        sum-eq _ (λ r. count (λ v. eqb (rank_at bs v) r) (size_at bs)) (suc S.levels) (λ r h. roster-size tested r h)
        ∙ sorted (rank_at bs) (suc S.levels) (size_at bs) (λ v b. ranked v (omega (arith, F.size))) ∙ F.size;
    free = λ v b. (
      λ t. let k = (in-roster 0 v (omega arith) b).0 t in (k.0, F.low_free v k.0 k.1),
      λ k. (in-roster 0 v (omega arith) b).1 (k.0, F.free-low v k.0 k.1),
    );
  }

-- After any list of changes, from any sound rack of any good shape.
pub rosters-after : (S : Shape) → GoodShape S → (bs : List ℕ) → IsBytes bs → T (sized S bs) → T (sound S bs)
    → (cs : List Change) → Rosters S (entered_all (ledger_of S bs) (told_all S bs cs)) (last_rack S bs cs)
rosters-after S good bs by sz so cs = rosters-of (demand-three S good bs by sz so cs).last

-- The rack of the papers, of 10,152 bytes.
pub rosters-low : (bs : List ℕ) → IsBytes bs → T (sized low bs) → T (sound low bs) → (cs : List Change)
    → Rosters low (entered_all (ledger_of low bs) (told_all low bs cs)) (last_rack low bs cs)
rosters-low = rosters-after low low-good
