-- `layout::degree` meets its contract: it is the size of the row. Assumes nothing.
use mathlib.Core.Path.{◌∙◌}
use Rattle.model.specs.Bytes.{owns_at}
use Rattle.layout.specs.Rows.{degree_at}
use Rattle.layout.proofs.Rows.{row_count}
use Rattle.layout.proofs.degree.Goals as goal

pub returns : goal.returns
unfolding degree_at owns_at
returns c = c.size_of_row.ensures ∙ row_count c.args.rack.now c.row_at.ensures
