-- `moves::step_counts` meets its contract. The loop's invariant: the counts at the first x levels have been stepped. Assumes nothing.
use mathlib.Core.Path.{◌≡◌}
use Rattle.model.specs.Shape.{low}
use Rattle.moves.specs.Counts.{step, recounted}
use Rattle.moves.proofs.step_counts.Given as goal

abbrev pub invariant-loop-x : goal.invariant-loop-x
invariant-loop-x l = l.rack ≡ recounted low (step l.more) l.initial.rack l.w l.j l.x
