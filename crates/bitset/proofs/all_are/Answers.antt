-- `bitset::all_are` meets its contract. Assumes nothing.
use native.Mathlib.Omega.{arith}
use Rattle.bitset.proofs.Gathered.{gathered-none, gathered-more, gathered-says}
use Rattle.bitset.proofs.all_are.Goals as goal

pub loop-i-init : goal.loop-i-init
loop-i-init g c = (omega arith, omega arith, gathered-none _ _ _)

pub loop-i-preserved : goal.loop-i-preserved
loop-i-preserved g c = let l = c.loop-i.invariant in (l.0, l.1, gathered-more l.2)

pub returns : goal.returns
returns g c = let l = c.loop-i.invariant in gathered-says l.2 (omega arith) (omega arith)
