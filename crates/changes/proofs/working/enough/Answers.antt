-- `changes::working::enough` meets its contract. Assumes nothing.
use mathlib.Core.Path.{◌∙◌, subst}
use mathlib.Core.Logic.{inr}
use mathlib.Core.Bool.{Bool, true}
use native.Mathlib.Omega.{arith}
use Rattle.model.specs.Shape.{low}
use Rattle.model.specs.Bytes.{read}
use Rattle.drawing.specs.Sure.{Sure}
use Rattle.moves.proofs.Held.{held-size, held-edges, held-few}
use Rattle.changes.proofs.Trials.{sure-enough, lower-enough}
use Rattle.changes.proofs.working.enough.Goals as goal

-- at level 0, with a word for each that can draw
pub returns-then-sure : goal.returns-then-sure
returns-then-sure c = let a = c.args in
    sure-enough (read low a.rack.now) a.i a.k a.words.now a.k true (held-few c.requires)
    (inr (inr (omega arith, omega arith)))
    (subst (λ (x : Bool). Sure x a.words.now a.k) c.if-sure.true c.sure.ensures)

pub returns : goal.returns
returns c = let a = c.args in
    let half = c.size-half.ensures ∙ held-size c.requires in
    let links = c.edges-edges.ensures ∙ held-edges c.requires in
    lower-enough (read low a.rack.now) a.i a.k a.words.now c.sure-2.result (held-few c.requires) (omega (arith, half))
    (omega (arith, links)) c.min.ensures c.sure-2.ensures
