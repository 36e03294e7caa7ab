-- `moves::zero_counts` meets its contract: one level more at each turn. Assumes nothing.
use mathlib.Core.Path.{refl}
use native.Mathlib.Omega.{arith}
use Rattle.model.specs.Shape.{low}
use Rattle.moves.specs.Counts.{recounted, none}
use Rattle.moves.proofs.CountSteps.{next_level}
use Rattle.moves.proofs.zero_counts.Goals as goal

pub loop-j-init : goal.loop-j-init
unfolding recounted
loop-j-init c = refl

pub loop-j-preserved : goal.loop-j-preserved
loop-j-preserved c = let l = c.loop-j in
    next_level low none c.args.rack.now c.args.u 0 l.j l.invariant _ _ (omega arith) refl c.set_phi.ensures
