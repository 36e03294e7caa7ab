-- `bitset::nth_one` meets its contract. The loop's invariant: `at` is the place of a one of the byte with as many ones below it as turns passed.
-- Assumes nothing.
use Prim.Native.Nat.{◌<◌, ◌+◌, ◌^◌, ◌/◌}
use native.Mathlib.Nat.{add_assoc}
use native.Mathlib.Omega.{arith}
use lib.Count.{count_trailing_zeros}
use Rattle.bitset.proofs.Digits.{OneAt, digit-bit_of, next, first}
use Rattle.bitset.proofs.nth_one.Goals.{In-loop-i}
use Rattle.bitset.proofs.nth_one.Goals as goal

pub loop-i-init : goal.loop-i-init
loop-i-init c = first c.args.b c.ranges.b.fits (omega arith)

-- a turn leads to the next one
turn : (c : In-loop-i) →
    let at = c.loop-i.at in
    (at + 1 < 8) × OneAt c.args.b (c.loop-i._i + 1) (at + (1 + count_trailing_zeros 8 (c.args.b / 2 ^ (at + 1))))
turn c =
    let at = c.loop-i.at in
    let b = c.args.b in
    rw (← add_assoc at 1 (count_trailing_zeros 8 (b / 2 ^ (at + 1)))) (next b at c.loop-i._i c.ranges.b.fits c.loop-i.invariant (omega arith))

pub overflow_shr-at : goal.overflow_shr-at
overflow_shr-at c = (turn c).0

pub overflow_add-at : goal.overflow_add-at
overflow_add-at c = omega (arith, (turn c).1.0)

pub loop-i-preserved : goal.loop-i-preserved
loop-i-preserved c = (turn c).1

pub returns : goal.returns
returns c = let l = c.loop-i.invariant in (l.0, digit-bit_of _ _ l.1, omega arith)
