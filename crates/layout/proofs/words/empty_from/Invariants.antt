-- `layout::words::empty_from` meets its contract: the words of the row are gathered in one, which is empty exactly if they all are. Assumes nothing.
use Prim.Native.Nat.{◌*◌}
use Rattle.model.specs.Shape.{low}
use Rattle.model.specs.Bytes.{owns_at}
use Rattle.bitset.proofs.Sets.{Merged}
use Rattle.layout.proofs.words.empty_from.Given as goal

abbrev pub invariant-loop-k : goal.invariant-loop-k
invariant-loop-k l = Merged (owns_at low l.rack l.v) (64 * l.from) l.k l.all
