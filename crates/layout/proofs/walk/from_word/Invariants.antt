-- `layout::walk::from_word` meets its contract. The loop's invariant: no word before this one has an edge. Assumes nothing.
use Prim.Native.Nat.{◌*◌}
use Rattle.model.specs.Shape.{low}
use Rattle.model.specs.Bytes.{owns_at}
use Rattle.layout.proofs.Walks.{Passed}
use Rattle.layout.proofs.walk.from_word.Given as goal

abbrev pub invariant-loop-word : goal.invariant-loop-word
invariant-loop-word l = Passed low.most (owns_at low l.rack l.v) (64 * l.k) (64 * l.word)
