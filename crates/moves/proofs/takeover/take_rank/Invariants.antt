-- `moves::takeover::take_rank` meets its contract. The loop's invariant: u has taken its edges from the owners in the words before word k, and an edge
-- is missing. Assumes nothing.
use Prim.Native.Nat.{◌<◌}
use Rattle.model.specs.Shape.{low}
use Rattle.model.specs.Bytes.{read}
use Rattle.moves.proofs.TakeRank.{TakeRank}
use Rattle.moves.proofs.takeover.take_rank.Given as goal

abbrev pub invariant-loop-k : goal.invariant-loop-k
invariant-loop-k l = (0 < l.left) × TakeRank (read low l.initial.rack) l.q l.u l.missing l.rack l.left l.k
