-- `moves::lower_counts` meets its contract. The loop's invariant: the vertices of u's row that the walk has passed have their new counts.
-- Assumes nothing.
use Prim.Native.Nat.{◌-◌}
use Rattle.model.specs.Shape.{low}
use Rattle.model.specs.Bytes.{read}
use Rattle.moves.specs.Counts.{lowered_counts}
use Rattle.layout.proofs.Reached.{reached}
use Rattle.moves.proofs.CountWalk.{RowCounted}
use Rattle.moves.proofs.lower_counts.Given as goal

abbrev pub invariant-loop-at : goal.invariant-loop-at
invariant-loop-at l = RowCounted low (read low l.initial.rack) (lowered_counts (read low l.initial.rack) l.i l.u) l.u l.rack l.at

abbrev pub decreases-loop-at : goal.decreases-loop-at
decreases-loop-at l = low.most - reached low.most l.at
