-- `layout::degrees` meets its contract: the rows are lent on as one part of the bytes. Assumes nothing.
use mathlib.Core.Path.{◌∙◌}
use Rattle.model.proofs.Shapes.{low-good}
use Rattle.layout.proofs.Spans.{size-rows}
use Rattle.layout.proofs.degrees.Goals as goal

pub returns : goal.returns
returns c = c.size_by_words.ensures ∙ size-rows low-good c.args.rack.now c.args.n c.told-rack c.requires.n_le_most
