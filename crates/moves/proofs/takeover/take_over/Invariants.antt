-- `moves::takeover::take_over` meets its contract. The loop's invariant: u has taken what the vertices of a rank below q owed it, and as many edges as
-- are missing are still owed. Assumes nothing.
use Rattle.model.specs.Shape.{low}
use Rattle.model.specs.Bytes.{read}
use Rattle.moves.proofs.Owed.{TakeOver}
use Rattle.moves.proofs.takeover.take_over.Given as goal

abbrev pub invariant-loop-q : goal.invariant-loop-q
invariant-loop-q l = TakeOver (read low l.initial.rack) l.i l.u l.rack l.missing l.q
