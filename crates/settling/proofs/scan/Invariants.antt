-- `settling::scan` meets its contract. The loop's invariant: the turns of the vertices before the place of the walk are done. Assumes nothing.
use Prim.Native.Nat.{◌-◌}
use Rattle.model.specs.Shape.{low}
use Rattle.layout.proofs.Reached.{reached}
use Rattle.settling.proofs.Scans.{Scanning}
use Rattle.settling.proofs.scan.Given as goal

abbrev pub invariant-loop-at : goal.invariant-loop-at
invariant-loop-at l = Scanning low l.words l.i l.v l.initial.rack l.initial.progress l.rack l.progress l.at

abbrev pub decreases-loop-at : goal.decreases-loop-at
decreases-loop-at l = low.most - reached low.most l.at
