-- What the bytes of a valid state say, with its edges as the ledger's: every fact of demand 3 about the last rack. Assumes nothing.
use mathlib.Core.Path.{◌≡◌, sym, ap, ◌∙◌, subst}
use mathlib.Core.Logic.{◌≢◌, inl, inr}
use mathlib.Core.Bool.{not, ◌&&◌}
use Prim.Native.Nat.{ℕ, ◌*◌, ◌^◌, ◌≤◌, ◌<◌}
use native.Mathlib.Omega.{arith}
use lib.Dec.{T, leb, ltb, eqb}
use lib.ListN.{length}
use Rattle.model.specs.State.{Rules, rules, State, edge, near, below, phi}
use Rattle.model.specs.Shape.{Shape, GoodShape}
use Rattle.model.specs.Bytes.{no_mate, top_at, rank_at, mate_at, phi_at, write}
use Rattle.model.specs.Valid.{Valid}
use Rattle.model.proofs.Shapes.{thr-one}
use Rattle.model.proofs.Tests.{eq?, eqb_yes, eqb_no, leb_yes, leb_no}
use Rattle.model.proofs.Prefix.{count-ext}
use Rattle.model.proofs.Fields.{size-write, growth-write, top-write, rank-write, mate-write, entry-write, phi-write}
use Rattle.model.proofs.Limits.{phi-above, phi-zero, size_few, edge-inside, edge-loop, mate-inside, mate_entry-free, mate_entry-mate, phi_entry-above}
use Rattle.model.proofs.Reading.{read-write}
use Rattle.theory.specs.Demand.{pairs_of, mated_of, neighbours_below, Mates, Facts}
use Rattle.theory.proofs.ChangeStep.{ledger}
use Rattle.theory.proofs.Matching.{maximal, twice, cover, ranked-pairs}
use Rattle.theory.proofs.OnBytes.{Rack, write-sized, write-good, pairs_of_lem}

module _ (s : State) (rack : Rack s) where
  abbrev of : Shape
  of = s.kind.shape

  abbrev R : Rules
  R = rules s.kind

  abbrev good : GoodShape of
  good = rack.kind.shape

  abbrev ok : Valid R s
  ok = rack.valid

  few : s.n ≤ of.most
  few = size_few ok

  -- the entry of a vertex, by its mate
  entry_free : (v : ℕ) → v < s.n → s.mate v ≡ v → mate_at of (write s) v ≡ no_mate
  entry_free v l e = mate-write s good v (omega (arith, few)) ∙ mate_entry-free s v e

  entry-mate : (v : ℕ) → v < s.n → s.mate v ≢ v → mate_at of (write s) v ≡ s.mate v
  entry-mate v l e = mate-write s good v (omega (arith, few)) ∙ mate_entry-mate s v e

  free-entry : (v : ℕ) → v < s.n → mate_at of (write s) v ≡ no_mate → s.mate v ≡ v
  free-entry v l e = elim (eq? (s.mate v) v) [
    | inl p ↦ p
    | inr p ↦ absurd (omega (arith, few, good.named, mate-inside ok v p, entry-mate v l p))
  ]

  rank_is : (v : ℕ) → v < s.n → rank_at (write s) v ≡ s.rank v
  rank_is v l = rank-write s good v (omega (arith, few))

  mates-of : (v w : ℕ) → v < s.n → s.mate v ≢ v → s.mate v ≡ w → Mates of (ledger s) (write s) v w
  mates-of v w l d e =
      let m : s.mate v < s.n = mate-inside ok v d in
      let back : s.mate w ≡ v = ap s.mate (sym e) ∙ ok.mates-back v in
      let ne : s.mate w ≢ w = λ f. d (e ∙ sym f ∙ back) in
      let lw : w < s.n = omega arith in
      let r : rank_at (write s) v ≡ s.rank v = rank_is v l in
      let pos : s.rank v ≢ 0 = λ z. d (ok.low_free v z) in
      record {
        back = entry-mate w lw ne ∙ back;
        linked = subst (λ (x : ℕ). T (edge s v x)) e (ok.mates-linked v d);
        level = rank_is w lw ∙ ap s.rank (sym e) ∙ ok.mates-level v ∙ sym r;
        at_least_0 = omega arith;
        at-most-top = omega (arith, top-write s good, ok.ranks v);
      }

  -- the neighbours below a level, read from the bytes
  below-is : (v j : ℕ) → below s v j ≡ neighbours_below (ledger s) (write s) v j
  unfolding below near neighbours_below
  below-is v j = count-ext _ _ s.n (λ w l. ap (λ (x : ℕ). edge s v w && leb x j) (sym (rank_is w l)))

  -- a count
  phi-at : (v j : ℕ) → v < s.n → j ≤ top_at (write s) → phi_at of (write s) v j ≡ phi s v j
  phi-at v j l h =
      phi-write s good v j (omega (arith, few)) (omega (arith, top-write s good, rack.kind.range.room)) (omega (arith, top-write s good))

  phi-below : (v j : ℕ) → v < s.n → j ≤ top_at (write s) → rank_at (write s) v ≤ j → phi_at of (write s) v j ≡ below s v j
  phi-below v j l h k = phi-at v j l h ∙ phi-above s v j (omega (arith, rank_is v l))

  -- the mated vertices are those at level 0 or more
  mated-is : (v : ℕ) → v < s.n → not (eqb (mate_at of (write s) v) no_mate) ≡ ltb 0 (s.rank v)
  mated-is v l = elim (eq? (s.rank v) 0) [
    | inl z ↦ ap not (eqb_yes (mate_at of (write s) v) no_mate (entry_free v l (ok.low_free v z))) ∙ sym (leb_no 1 (s.rank v) (omega arith))
    | inr z ↦
        ap not (eqb_no (mate_at of (write s) v) no_mate (λ e. z (ok.free-low v (free-entry v l e)))) ∙ sym (leb_yes 1 (s.rank v) (omega arith))
  ]

  twice-mated : mated_of of (ledger s) (write s) ≡ 2 * pairs_of of (ledger s) (write s)
  unfolding mated_of
  twice-mated = count-ext _ _ s.n mated-is ∙ ranked-pairs R s ok ∙ ap (λ (x : ℕ). 2 * x) (pairs_of_lem s rack)

  pub last-facts : Facts of (ledger s) (write s)
  last-facts = record {
    is-sized = write-sized s rack;
    is-sound = write-good s rack;
    size = size-write s good;
    links = λ v w. ap (λ (x : State). edge x v w) (read-write R s good ok);
    no_loop = edge-loop ok;
    inside = edge-inside ok;
    maximal = λ v w t a b.
        let i = edge-inside ok v w t in
        maximal R (thr-one s.kind) s ok v w t (free-entry v i.0 a) (free-entry w i.1 b);
    mates = λ v l d.
        let ne : s.mate v ≢ v = λ e. d (entry_free v l e) in
        mates-of v (mate_at of (write s) v) l ne (sym (entry-mate v l ne));
    free-low = λ v l e. rank_is v l ∙ ok.free-low v (free-entry v l e);
    low_free = λ v l e. entry_free v l (ok.low_free v (sym (rank_is v l) ∙ e));
    counts = λ v j l h k. phi-below v j l h k ∙ below-is v j;
    counts-low = λ v j l h k.
        omega (
          arith,
          phi-at v j l h,
          ok.phi-low v j (omega (arith, top-write s good)),
          phi-below v j l h k,
          below-is v j,
          ap (λ (g : ℕ). g ^ j) (growth-write s good),
        );
    counts_zero = λ v j l h k.
        phi-at v j l h ∙ phi-zero s v j (omega (arith, rank_is v l));
    counts-above = λ v j l h k.
        entry-write s good v j (omega (arith, few)) k ∙ phi_entry-above s v j (omega (arith, top-write s good));
    twice = λ m d. subst (λ (x : ℕ). length m ≤ 2 * x) (pairs_of_lem s rack) (twice R (thr-one s.kind) s ok m d);
    cover = λ c t. subst (λ (x : ℕ). x ≤ length c) (pairs_of_lem s rack) (cover R s ok c t);
    mated-twice = twice-mated;
    mated-cover = λ c t. omega (arith, twice-mated, pairs_of_lem s rack, cover R s ok c t);
  }
