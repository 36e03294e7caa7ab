-- `layout::rosters::size` meets its contract: it is the size of the roster as a row. Assumes nothing.
use mathlib.Core.Path.{◌∙◌}
use Rattle.model.specs.Bytes.{roster_at}
use Rattle.layout.proofs.Rows.{row_count}
use Rattle.layout.proofs.rosters.size.Goals as goal

pub returns : goal.returns
unfolding roster_at
returns c = c.size_of_row.ensures ∙ row_count c.args.rack.now c.roster_at.ensures
