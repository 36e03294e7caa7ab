-- `layout::unused::spare_zero` meets its contract: the spare bytes are one stretch. Assumes nothing.
use native.Mathlib.Omega.{arith}
use Rattle.model.specs.Shape.{low}
use Rattle.layout.proofs.Said.{says-by}
use Rattle.layout.proofs.Spans.{cut-says}
use Rattle.layout.proofs.unused.spare_zero.Goals as goal

pub returns : goal.returns
returns c = says-by (λ f k h. f k h (omega arith)) (λ f k h l. f k h)
    (cut-says c.args.rack.now 6 0 low.spare 6 8 0 (omega arith) (omega arith) (omega arith) (omega (arith, c.told-rack)) c.all_are.ensures)
