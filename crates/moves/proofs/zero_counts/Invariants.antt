-- `moves::zero_counts` meets its contract. The loop's invariant: the counts below level j are 0. Assumes nothing.
use mathlib.Core.Path.{◌≡◌}
use Rattle.model.specs.Shape.{low}
use Rattle.moves.specs.Counts.{recounted, none}
use Rattle.moves.proofs.zero_counts.Given as goal

abbrev pub invariant-loop-j : goal.invariant-loop-j
invariant-loop-j l = l.rack ≡ recounted low none l.initial.rack l.u 0 l.j
