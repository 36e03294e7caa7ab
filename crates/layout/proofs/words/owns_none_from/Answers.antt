-- `layout::words::owns_none_from` meets its contract: the word in which n stands has only places below n, and the words after it have none.
-- Assumes nothing.
use mathlib.Core.Path.{◌≡◌, subst}
use mathlib.Core.Logic.{inl, inr}
use Prim.Native.Nat.{ℕ, ◌+◌, ◌-◌, ◌*◌, ◌/◌}
use native.Mathlib.Omega.{arith}
use lib.Dec.{T, ltb→lt, lt→ltb}
use Rattle.model.specs.Shape.{low}
use Rattle.model.specs.Bytes.{owns_at}
use Rattle.model.proofs.Tests.{le?}
use Rattle.bitset.proofs.Sets.{among-fact, among-test}
use Rattle.layout.proofs.Said.{says-no, says-by}
use Rattle.layout.proofs.words.owns_none_from.Goals as goal

pub returns-then-x-below : goal.returns-then-x-below
returns-then-x-below c = let a = c.args in
    let x = c.word-x in
    let b = c.below in
    says-no (λ none. c.if-x-below.true
    (among-test x.ensures b.ensures
    (λ j l t. elim (le? a.n (64 * (a.n / 64) + j)) [
      | inl past ↦ absurd (none (64 * (a.n / 64) + j) (omega (arith, c.if-k-ge-WORDS.false)) past t)
      | inr under ↦ lt→ltb (64 * (a.n / 64) + j) a.n under
    ])))

pub returns : goal.returns
returns c = let a = c.args in
    let k = a.n / 64 in
    let x = c.word-x in
    let b = c.below in
    says-by
    (λ none w l past t. elim (le? (64 * (k + 1)) w) [
      | inl after ↦ none w l after t
      | inr here ↦
          let at : w ≡ 64 * k + (w - 64 * k) = omega arith in
          let under = among-fact x.ensures b.ensures c.if-x-below.false (w - 64 * k) (omega arith)
          (subst (λ (i : ℕ). T (owns_at low a.rack.now a.v i)) at t) in
          omega (arith, ltb→lt (64 * k + (w - 64 * k)) a.n under)
    ])
    (λ none w l after. none w l (omega arith))
    c.empty_from.ensures
