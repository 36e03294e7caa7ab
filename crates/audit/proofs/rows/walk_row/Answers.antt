-- `audit::rows::walk_row` meets its contract. The loop's invariant: the row is walked as far as word k. Assumes nothing.
use mathlib.Core.Path.{◌≡◌, subst}
use Prim.Native.Nat.{◌*◌}
use native.Mathlib.Omega.{arith}
use Rattle.model.specs.Shape.{low}
use Rattle.audit.specs.Parts.{Walked}
use Rattle.audit.proofs.Walk.{walked_start, walked_end}
use Rattle.audit.proofs.rows.walk_row.Goals as goal

pub loop-k-init : goal.loop-k-init
loop-k-init c = walked_start low c.args.rack.now c.args.tally.now c.args.v c.requires.holds

pub returns-clause-holds_2 : goal.returns-clause-holds_2
returns-clause-holds_2 c = let l = c.loop-k in
    let e : 64 * l.k ≡ low.most = omega (arith, c.loop-k-test.false, l.auto.k-end) in
    λ _. walked_end low c.args.rack.now l.tally c.args.v (subst (Walked low c.args.rack.now l.tally c.args.v) e l.invariant)
