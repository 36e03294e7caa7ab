-- `layout::nth_owned` meets its contract: the row is lent on as a part of the bytes. Assumes nothing.
use native.Mathlib.Omega.{arith}
use Rattle.model.proofs.Shapes.{low-good}
use Rattle.layout.proofs.Rows.{row-degree, row-nth}
use Rattle.layout.proofs.nth_owned.Goals as goal

pub nth-requires-clause-k_bound : goal.nth-requires-clause-k_bound
nth-requires-clause-k_bound c =
    omega (arith, row-degree low-good c.args.rack.now c.told-rack c.row_at-at.ensures, c.requires.k_bound)

pub returns : goal.returns
returns c = row-nth low-good c.args.rack.now c.told-rack c.row_at-at.ensures c.args.k c.nth.result c.nth.ensures
