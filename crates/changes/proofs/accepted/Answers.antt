-- `changes::accepted` meets its contract. Assumes nothing.
use mathlib.Core.Path.{ap, ◌∙◌}
use Rattle.model.specs.Shape.{low}
use Rattle.model.specs.Bytes.{read}
use Rattle.model.specs.Change.{Change}
use native.Mathlib.Omega.{arith}
use Rattle.calls.specs.Terms.{code_of}
use Rattle.changes.specs.Sounded.{brought, Acceptable}
use Rattle.changes.proofs.Numbers.{min-lower, max-upper}
use Rattle.changes.proofs.Answered.{in_order, adds_run, drops-run}
use Rattle.changes.proofs.accepted.Goals.{After-max-high, Start}
use Rattle.changes.proofs.accepted.Goals as goal

abbrev given : Start → Change
given d = brought (code_of d.args.kind) d.args.a d.args.b d.args.words.now

-- with its ends in order
ordered : (c : After-max-high) →
    let a = c.args in
    Acceptable (read low a.rack.now) (code_of a.kind) c.min-low.result c.max-high.result
ordered c = in_order _ (given (goal.at.After-max-high c).Start)
    (c.min-low.ensures ∙ min-lower c.args.a c.args.b) (c.max-high.ensures ∙ max-upper c.args.a c.args.b) c.requires.acceptable

pub add-requires : goal.add-requires
add-requires c = let q = ordered (goal.at.add-requires c).After-max-high in
    record { sounded = c.requires.sounded; a_bound = (q.inside.0, q.inside.1, q.apart, q.adds (ap code_of c.in-Add.is)) }

pub returns-in-Add : goal.returns-in-Add
returns-in-Add c = adds_run _ (given (goal.at.returns-in-Add c).Start) (c.min-low.ensures ∙ min-lower c.args.a c.args.b)
    (c.max-high.ensures ∙ max-upper c.args.a c.args.b) _ (ap code_of c.in-Add.is) c.add.ensures

pub drop-requires : goal.drop-requires
drop-requires c = let q = ordered (goal.at.drop-requires c).After-max-high in
    record {
      sounded = c.requires.sounded;
      a_bound = (q.inside.0, q.inside.1, q.apart, q.drops (λ z. omega (arith, ap code_of c.in-Drop.is)));
    }

pub returns-in-Drop : goal.returns-in-Drop
returns-in-Drop c = drops-run _ (given (goal.at.returns-in-Drop c).Start) (c.min-low.ensures ∙ min-lower c.args.a c.args.b)
    (c.max-high.ensures ∙ max-upper c.args.a c.args.b) _ (λ z. omega (arith, ap code_of c.in-Drop.is)) c.drop.ensures
