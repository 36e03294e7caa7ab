-- `engine::rank_of` meets its contract: the level by its sign. Assumes nothing.
use mathlib.Core.Path.{◌≡◌, refl, ap, ◌∙◌, subst}
use mathlib.Core.Logic.{◌≢◌}
use mathlib.Core.Bool.{false}
use Prim.Native.Nat.{ℕ, zero, suc, ◌+◌}
use native.Mathlib.Omega.{arith}
use lib.Dec.{eqb}
use lib.IntN.{ℤ, pos, negsuc}
use mir.Syntax.{w32}
use mir.Val.{SFits, of_z}
use mir.ValLaws.{to_z-of_z}
use Rattle.std.specs.Prelude.{None, Some, Result, Ok, Err, OkIff, unsigned_abs}
use Rattle.std.specs.Result.{result_ok}
use Rattle.std.specs.Int.{FitsUnsignedBits}
use Rattle.model.specs.Calls.{at_level}
use Rattle.model.proofs.Tests.{eqb_no}
use Rattle.engine.proofs.rank_of.Goals.{After-try_from}
use Rattle.engine.proofs.rank_of.Goals as goal

-- the level that is idle's
minus_one : (z : ℤ) → SFits w32 z → of_z w32 z ≡ 4294967295 → (x : ℕ) → at_level z x ≡ eqb x 0
unfolding at_level
minus_one (pos n) f d x = absurd (omega (arith, d, f.sfits))
minus_one (negsuc zero) f d x = refl
minus_one (negsuc (suc n)) f d x = absurd (omega (arith, d, f.sfits))

-- the level as a number from 0 on, if it is one
abbrev Above : {E : Type 0} → ℤ → Result ℕ E → Type 0
Above z r = OkIff r (FitsUnsignedBits 64 z) (unsigned_abs z)

-- any other below 0 has no rank
no-rank : {E : Type 0} (z : ℤ) (r : Result ℕ E) → Above z r → None ≡ result_ok r → SFits w32 z → of_z w32 z ≢ 4294967295 → (x : ℕ) → at_level z x ≡ false
unfolding at_level
no-rank z (Ok y) i e f d x = (cc)
no-rank (pos n) (Err w) i e f d x = absurd (i (omega (arith, f.sfits)))
no-rank (negsuc zero) (Err w) i e f d x = absurd (d refl)
no-rank (negsuc (suc n)) (Err w) i e f d x = refl

-- a level from 0 on
from_zero : {E : Type 0} (z : ℤ) (r : Result ℕ E) {y : ℕ} → Above z r → Some y ≡ result_ok r → (x : ℕ) → at_level z x ≡ eqb x (y + 1)
unfolding at_level
from_zero z (Err w) i e x = (cc)
from_zero (pos n) (Ok w) {y} i e x = let same : y ≡ w = cc in ap (eqb x) (omega (arith, i.1))
from_zero (negsuc n) (Ok w) i e x = absurd i.0

above : (c : After-try_from) → Above c.args.level c.try_from.result
above c = subst (λ (z : ℤ). Above z c.try_from.result) (to_z-of_z w32 c.args.level c.ranges.level) c.try_from.ensures

pub returns-then-level-eqminus1 : goal.returns-then-level-eqminus1
returns-then-level-eqminus1 c = (omega arith, minus_one c.args.level c.ranges.level c.if-level-eqminus1.true)

pub returns-in_err-above : goal.returns-in_err-above
returns-in_err-above c = rw c.from_residual.ensures
    (λ x l. no-rank c.args.level _ (above (goal.at.returns-in_err-above c).After-try_from) c.in_err-above.ensures.value c.ranges.level
    c.if-level-eqminus1.false x)

pub returns-then-above-ge-LEVELS : goal.returns-then-above-ge-LEVELS
returns-then-above-ge-LEVELS c = λ x l.
    from_zero c.args.level _ (above (goal.at.returns-then-above-ge-LEVELS c).After-try_from) c.in_ok-above.ensures.value x
    ∙ eqb_no x _ (λ q. omega (arith, c.if-above-ge-LEVELS.true))

pub returns : goal.returns
returns c = (
  omega (arith, c.if-above-ge-LEVELS.false),
  from_zero c.args.level _ (above (goal.at.returns c).After-try_from) c.in_ok-above.ensures.value,
)
