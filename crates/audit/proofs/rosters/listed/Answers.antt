-- `audit::rosters::listed` meets its contract. The loop's invariant: x is who is in a roster of a rank below q. Assumes nothing.
use Prim.Native.Nat.{◌*◌}
use Rattle.model.specs.Shape.{low}
use Rattle.audit.proofs.Enrolled.{listed-none, listed_more}
use Rattle.audit.proofs.rosters.listed.Goals as goal

pub loop-q-init : goal.loop-q-init
loop-q-init c = listed-none low c.args.rack.now (64 * c.args.k)

pub loop-q-preserved : goal.loop-q-preserved
loop-q-preserved c = listed_more low c.args.rack.now (64 * c.args.k) c.loop-q.q c.loop-q.invariant c.word-x.ensures
