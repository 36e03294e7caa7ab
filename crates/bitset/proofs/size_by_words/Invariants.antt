-- `bitset::size_by_words` meets its contract. The loop's invariant: the sum is the count of the members in the words passed. Assumes nothing.
use mathlib.Core.Path.{◌≡◌}
use Prim.Native.Nat.{◌*◌}
use Rattle.model.specs.Counting.{count}
use Rattle.bitset.specs.Row.{member}
use Rattle.bitset.proofs.size_by_words.Given as goal

abbrev pub invariant-loop-bytes : goal.invariant-loop-bytes
invariant-loop-bytes l = l.sum ≡ count (member l.row) (8 * (8 * l.bytes-index))
