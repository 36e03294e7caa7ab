-- `audit::rows::row` meets its contract. Assumes nothing.
use Prim.Native.Nat.{◌≤◌}
use native.Mathlib.Omega.{arith}
use Rattle.model.specs.Shape.{low}
use Rattle.model.specs.Bytes.{rank_at}
use Rattle.audit.proofs.Walk.{highest-adds-none}
use Rattle.audit.proofs.rows.row.Goals as goal

pub returns-else-r-lt-LEVELS-clause-holds_2 : goal.returns-else-r-lt-LEVELS-clause-holds_2
returns-else-r-lt-LEVELS-clause-holds_2 c = let bs = c.args.rack.now in
    let high : low.levels ≤ rank_at bs c.args.v = omega (arith, c.if-r-lt-LEVELS.false, c.rank-r.ensures) in
    λ _. highest-adds-none low bs c.args.tally.now c.args.v high c.requires.holds
