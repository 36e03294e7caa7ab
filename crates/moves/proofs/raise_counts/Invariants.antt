-- `moves::raise_counts` meets its contract. The loop's invariant: the vertices of v's row that the walk has passed have their new counts, and
-- `low` says that these are below the bar. Assumes nothing.
use Prim.Native.Nat.{◌-◌}
use Rattle.model.specs.Shape.{low}
use Rattle.model.specs.Bytes.{read}
use Rattle.model.proofs.Facts.{Says}
use Rattle.moves.specs.Counts.{raised_counts}
use Rattle.layout.proofs.Reached.{reached}
use Rattle.moves.proofs.CountWalk.{RowCounted, LowTo}
use Rattle.moves.proofs.raise_counts.Given as goal

abbrev pub invariant-loop-at : goal.invariant-loop-at
invariant-loop-at l = let s = read low l.initial.rack in RowCounted low s (raised_counts s l.i l.v) l.v l.rack l.at × Says l.low
    (LowTo l.bar s l.i l.v (reached low.most l.at))

abbrev pub decreases-loop-at : goal.decreases-loop-at
decreases-loop-at l = low.most - reached low.most l.at
