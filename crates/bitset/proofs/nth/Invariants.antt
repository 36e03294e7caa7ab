-- `bitset::nth` meets its contract. The loop's invariant: `left` members are still to pass. Assumes nothing.
use mathlib.Core.Path.{◌≡◌}
use Prim.Native.Nat.{◌+◌, ◌*◌}
use Rattle.model.specs.Counting.{count}
use Rattle.bitset.specs.Row.{member}
use Rattle.bitset.proofs.nth.Given as goal

abbrev pub invariant-loop-i : goal.invariant-loop-i
invariant-loop-i l = l.left + count (member l.row) (8 * l.i) ≡ l.k
