-- `bitset::nth_one` meets its contract. The loop's invariant: `at` is the place of a one of the byte with as many ones below it as turns passed.
-- Assumes nothing.
use Rattle.bitset.proofs.Digits.{OneAt}
use Rattle.bitset.proofs.nth_one.Given as goal

abbrev pub invariant-loop-i : goal.invariant-loop-i
invariant-loop-i l = OneAt l.b l._i l.at
