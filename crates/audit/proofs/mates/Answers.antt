-- `audit::mates` meets its contract. Assumes nothing.
use Rattle.std.proofs.Common.{rules, tests}
use mathlib.Core.Path.{refl}
use Rattle.model.specs.Shape.{low}
use Rattle.audit.specs.Parts.{Mate}
use Rattle.audit.proofs.Each.{each-says}
use Rattle.audit.proofs.mates.Goals as goal

pub returns : goal.returns
returns c = each-says _ _ _ c.args.n (Mate low c.args.rack.now) c.all.ensures.ran refl (λ x b q k. search (rules, tests))
