-- `settling::rejoin` meets its contract. Assumes nothing.
use mathlib.Core.Path.{◌∙◌}
use native.Mathlib.Omega.{arith}
use Rattle.settling.proofs.Requeuing.{join-low, join-high}
use Rattle.settling.proofs.rejoin.Goals as goal

pub returns-then-i-gt0 : goal.returns-then-i-gt0
returns-then-i-gt0 c = c.join.ensures ∙ join-high c.args.v c.args.i _ (omega (arith, c.if-i-gt0.true))

pub returns-else-i-gt0 : goal.returns-else-i-gt0
returns-else-i-gt0 c = join-low c.args.v c.args.i _ (omega (arith, c.if-i-gt0.false))
