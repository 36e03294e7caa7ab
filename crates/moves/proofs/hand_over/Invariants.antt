-- `moves::hand_over` meets its contract. The loop's invariant: the words before word k are done. Assumes nothing.
use Rattle.model.specs.Shape.{low}
use Rattle.model.specs.Bytes.{read}
use Rattle.moves.proofs.HandWords.{Over}
use Rattle.moves.proofs.hand_over.Given as goal

abbrev pub invariant-loop-k : goal.invariant-loop-k
invariant-loop-k l = Over (read low l.initial.rack) l.i l.v l.rack l.split l.k
