-- `layout::owns` meets its contract: the row is lent on as a part of the bytes. Assumes nothing.
use mathlib.Core.Path.{◌∙◌}
use Rattle.model.proofs.Shapes.{low-good}
use Rattle.layout.proofs.Rows.{row-owns}
use Rattle.layout.proofs.owns.Goals as goal

pub returns : goal.returns
returns c = c.test.ensures ∙ row-owns low-good c.args.rack.now c.told-rack c.row_at-at.ensures c.args.w c.requires.w_lt_most
