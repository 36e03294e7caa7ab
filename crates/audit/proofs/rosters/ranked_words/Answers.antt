-- `audit::rosters::ranked_words` meets its contract. Assumes nothing.
use mathlib.Core.Path.{refl}
use Rattle.std.proofs.Common.{rules, tests}
use Rattle.model.specs.Shape.{low}
use Rattle.audit.specs.Parts.{RankedIn}
use Rattle.audit.proofs.Each.{each-says}
use Rattle.audit.proofs.rosters.ranked_words.Goals as goal

pub returns : goal.returns
returns c = each-says _ _ _ 5 (λ r. RankedIn low c.args.rack.now r c.args.k) c.all.ensures.ran refl (λ x b q k. search (rules, tests))
