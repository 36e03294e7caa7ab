-- `bitset::size` meets its contract. The loop's invariant: the sum is the count of the members in the bytes passed. Assumes nothing.
use mathlib.Core.Path.{◌≡◌}
use Prim.Native.Nat.{◌*◌}
use Rattle.model.specs.Counting.{count}
use Rattle.bitset.specs.Row.{member}
use Rattle.bitset.proofs.size.Given as goal

abbrev pub invariant-loop-b : goal.invariant-loop-b
invariant-loop-b l = l.sum ≡ count (member l.row) (8 * l.b-index)
