-- Of any sound rack: how many boards a roster has, that a board is counted at its own level alone, and that none stands at a level that has no
-- roster. Assumes nothing.
use mathlib.Core.Path.{◌≡◌, refl, sym, ap, subst, ◌∙◌}
use mathlib.Core.Logic.{◌↔◌}
use mathlib.Core.List.{List}
use Prim.Native.Nat.{ℕ, zero, suc, ◌<◌}
use native.Mathlib.Omega.{arith}
use lib.Dec.{T, eqb, eqb→eq}
use lib.IntN.{ℤ, pos, negsuc, pred_ℤ}
use Rattle.model.specs.Counting.{count}
use Rattle.model.specs.Shape.{Shape}
use Rattle.model.specs.Bytes.{size_at, top_at, rank_at, roster_at}
use Rattle.model.specs.Calls.{at_level}
use Rattle.model.proofs.Tests.{true-T, eqb_yes}
use Rattle.model.proofs.Counting.{count_none}
use Rattle.model.proofs.Prefix.{count-ext, count-skip}
use Rattle.model.proofs.Facts.{Facts}

-- a vertex is counted at a level exactly if it is the one that the level query would answer
own-level : (r : ℕ) → T (at_level (pred_ℤ (pos r)) r)
unfolding at_level
own-level zero = tt
own-level (suc r) = true-T (eqb_yes (suc r) (suc r) refl)

no_other : (level : ℤ) (r : ℕ) → T (at_level level r) → level ≡ pred_ℤ (pos r)
unfolding at_level
no_other (pos j) r t = ap (λ (x : ℕ). pred_ℤ (pos x)) (sym (eqb→eq r (suc j) t))
no_other (negsuc zero) r t = ap (λ (x : ℕ). pred_ℤ (pos x)) (sym (eqb→eq r 0 t))
no_other (negsuc (suc j)) r t = absurd t

pub at_level_lem : (level : ℤ) (r : ℕ) → T (at_level level r) ↔ (level ≡ pred_ℤ (pos r))
at_level_lem level r = (no_other level r, λ e. subst (λ (l : ℤ). T (at_level l r)) (sym e) (own-level r))

-- "0 for a level outside -1 to 3": with no board above the top, and none below -1
abbrev pub Outside : ℕ → ℤ → Type 0
Outside top (pos j) = top < j
Outside top (negsuc zero) = ⊥
Outside top (negsuc (suc j)) = Unit

module _ {S : Shape} {bs : List ℕ} (f : Facts S bs) where
  no-rank : (level : ℤ) → Outside (top_at bs) level → (v : ℕ) → v < size_at bs → T (at_level level (rank_at bs v)) → ⊥
  unfolding at_level
  no-rank (pos j) out v l t = omega (arith, eqb→eq (rank_at bs v) (suc j) t, f.ranks v l)
  no-rank (negsuc zero) out v l t = out
  no-rank (negsuc (suc j)) out v l t = t

  -- no board stands there
  pub outside-none : (level : ℤ) → Outside (top_at bs) level → count (λ v. at_level level (rank_at bs v)) (size_at bs) ≡ 0
  outside-none level out = count_none (λ v. at_level level (rank_at bs v)) (size_at bs) (no-rank level out)

  -- a roster has as many bits as there are boards of its rank
  pub roster-size : (r : ℕ) → r < suc S.levels → count (roster_at S bs r) S.most ≡ count (λ v. eqb (rank_at bs v) r) (size_at bs)
  roster-size r h =
      sym (count-skip (roster_at S bs r) (size_at bs) S.most f.size.1 (λ v past l. f.clear r h v l past))
      ∙ count-ext (roster_at S bs r) (λ v. eqb (rank_at bs v) r) (size_at bs) (λ v l. f.rosters v l r h)
