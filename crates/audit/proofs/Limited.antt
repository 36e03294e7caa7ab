-- The counts, against the thresholds and against the levels that stand: what is tested of a count, and that it is what is asked of it. Assumes nothing.
use mathlib.Core.Path.{◌≡◌, sym, ap, ◌∙◌}
use mathlib.Core.Logic.{inl, inr}
use mathlib.Core.List.{List}
use Prim.Native.Nat.{ℕ, ◌*◌, ◌≤◌, ◌<◌}
use native.Mathlib.Omega.{arith}
use lib.ListN.{get_or}
use Rattle.model.specs.Counting.{bit}
use Rattle.model.specs.Shape.{Shape, GoodShape}
use Rattle.model.specs.Bytes.{top_at, kind_at, phi_at}
use Rattle.model.proofs.Shapes.{thr-one, thr-pos}
use Rattle.model.proofs.Tests.{le?, leb_yes, leb_no}
use Rattle.audit.specs.Parts.{Count, Limits}

module _ {S : Shape} {bs bars standing : List ℕ} (limits : Limits S bs bars standing) (total j : ℕ) (h : j < S.levels) where
  -- what the count is to be: the total, or 0 above the top
  held_low : j ≤ top_at bs → total * get_or standing j 0 ≡ total
  held_low l = omega (arith, ap (λ (x : ℕ). total * x) (limits.levels.1 j h ∙ ap bit (leb_yes j (top_at bs) l)))

  held-above : top_at bs < j → total * get_or standing j 0 ≡ 0
  held-above a = omega (arith, ap (λ (x : ℕ). total * x) (limits.levels.1 j h ∙ ap bit (leb_no j (top_at bs) a)))

  pub held_small : total * get_or standing j 0 ≤ total
  held_small = elim (le? j (top_at bs)) [ inl l ↦ omega (arith, held_low l) | inr a ↦ omega (arith, held-above a) ]

  module _ (v : ℕ) where
    pub count-tested : phi_at S bs v j ≡ total * get_or standing j 0 → phi_at S bs v j < get_or bars j 0 → Count S bs v j total
    count-tested e b = record {
      right = λ l. e ∙ held_low l;
      low = λ l. omega (arith, b, limits.thresholds.1 j h);
      above = λ a. e ∙ held-above a;
    }

    -- and back; no threshold is 0, so that a count of 0 is below it
    pub count_held : Count S bs v j total → phi_at S bs v j ≡ total * get_or standing j 0
    count_held c = elim (le? j (top_at bs)) [ inl l ↦ c.right l ∙ sym (held_low l) | inr a ↦ c.above a ∙ sym (held-above a) ]

    pub count-below : GoodShape S → Count S bs v j total → phi_at S bs v j < get_or bars j 0
    count-below good c = elim (le? j (top_at bs)) [
      | inl l ↦ omega (arith, c.low l, limits.thresholds.1 j h)
      | inr a ↦
          let some = thr-pos {K = kind_at S bs} (record { shape = good; range = limits.range }) j in
          omega (arith, c.above a, limits.thresholds.1 j h, some)
    ]

-- the threshold of level 0 is 1, so that its count is 0
module _ (S : Shape) (bs : List ℕ) (v total : ℕ) where
  pub count_none : phi_at S bs v 0 ≡ 0 → total ≡ 0 → Count S bs v 0 total
  count_none e z = record {
    right = λ l. e ∙ sym z;
    low = λ l. omega (arith, e, thr-one (kind_at S bs));
    above = λ a. absurd (omega arith);
  }

  pub none-counted : Count S bs v 0 total → (phi_at S bs v 0 ≡ 0) × (total ≡ 0)
  none-counted c =
      let z : phi_at S bs v 0 ≡ 0 = omega (arith, c.low (omega arith), thr-one (kind_at S bs)) in
      (z, sym (c.right (omega arith)) ∙ z)
