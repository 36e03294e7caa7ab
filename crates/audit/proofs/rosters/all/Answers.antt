-- `audit::rosters::all` meets its contract. Assumes nothing.
use mathlib.Core.Path.{refl}
use Rattle.std.proofs.Common.{rules, tests}
use Rattle.model.specs.Shape.{low}
use Rattle.layout.proofs.Said.{says-by}
use Rattle.audit.specs.Parts.{RostersIn}
use Rattle.audit.proofs.Each.{each-says}
use Rattle.audit.proofs.Enrolled.{words-right, right-words}
use Rattle.audit.proofs.rosters.all.Goals as goal

pub returns : goal.returns
returns c = says-by (words-right 4 refl) (right-words 4 refl)
    (each-says _ _ _ 4 (RostersIn low c.args.rack.now c.args.n) c.all.ensures.ran refl (λ x b q k. search (rules, tests)))
