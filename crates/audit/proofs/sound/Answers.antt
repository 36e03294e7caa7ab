-- `audit::sound` meets its contract: each part that fails refutes the facts of a sound rack, and all parts together are those facts.
-- Assumes nothing.
use mathlib.Core.Path.{sym, ap, ◌∙◌, subst}
use mathlib.Core.Bool.{false}
use Prim.Native.Nat.{◌≤◌}
use native.Mathlib.Omega.{arith}
use Rattle.model.specs.Counting.{sum}
use Rattle.model.specs.Shape.{low}
use Rattle.model.proofs.Shapes.{low-good}
use Rattle.layout.specs.Rows.{degree_at}
use Rattle.layout.proofs.Said.{said, unsaid, says-no, says-by}
use Rattle.audit.specs.Parts.{Edges, Rosters}
use Rattle.audit.proofs.Enrolled.{enrolled-rank}
use Rattle.audit.proofs.Whole.{answer, whole, facts-rosters, facts-edges, facts-degrees, facts-mates}
use Rattle.audit.proofs.sound.Goals.{Else-not-all}
use Rattle.audit.proofs.sound.Goals as goal

pub returns-then-n-lt1 : goal.returns-then-n-lt1
returns-then-n-lt1 c = let bs = c.args.rack.now in
    answer low false bs (says-no (λ f. omega (arith, f.size.0, c.if-n-lt1.true, c.size-n.ensures)))

pub returns-then-n-gt-MOST : goal.returns-then-n-gt-MOST
returns-then-n-gt-MOST c = let bs = c.args.rack.now in
    answer low false bs (says-no (λ f. omega (arith, f.size.1, c.if-n-gt-MOST.true, c.size-n.ensures)))

pub returns-then-not-spare_zero : goal.returns-then-not-spare_zero
returns-then-not-spare_zero c = let bs = c.args.rack.now in
    answer low false bs (says-no (λ f. unsaid c.spare_zero.ensures c.if-not-spare_zero.true f.spare))

pub returns-then-not-unused_from : goal.returns-then-not-unused_from
returns-then-not-unused_from c = let bs = c.args.rack.now in
    answer low false bs (says-no (λ f. unsaid c.unused_from.ensures c.if-not-unused_from.true
    (λ v h l. f.unused v h (omega (arith, c.size-n.ensures)))))

pub returns-then-degrees-edges : goal.returns-then-degrees-edges
returns-then-degrees-edges c = let bs = c.args.rack.now in
    answer low false bs
    (says-no (λ f. c.if-degrees-edges.true
    (c.degrees.ensures ∙ ap (sum (degree_at low bs)) c.size-n.ensures
    ∙ facts-degrees low low-good bs f ∙ sym c.edges.ensures)))

pub returns-then-not-all : goal.returns-then-not-all
returns-then-not-all c = let bs = c.args.rack.now in
    answer low false bs
    (says-no (λ f. unsaid c.all.ensures c.if-not-all.true
    (subst (Rosters low bs) (sym c.size-n.ensures) (facts-rosters low low-good bs f))))

-- the rosters are right once they are tested
rosters : (c : Else-not-all) →
    Rosters low c.args.rack.now c.size-n.result
rosters c = said c.all.ensures c.if-not-all.false

pub edges-requires-2 : goal.edges-requires-2
edges-requires-2 c = let few : c.size-n.result ≤ low.most = omega (arith, c.if-n-gt-MOST.false) in
    record { n_le_most = few; by_index = enrolled-rank few (rosters c) }

pub returns-then-not-edges : goal.returns-then-not-edges
returns-then-not-edges c = let bs = c.args.rack.now in
    answer low false bs
    (says-no (λ f. unsaid c.edges-2.ensures c.if-not-edges.true
    (subst (Edges low bs) (sym c.size-n.ensures) (facts-edges low low-good bs f))))

pub returns : goal.returns
returns c = let bs = c.args.rack.now in
    let e = c.size-n.ensures in
    answer low c.mates.result bs
    (says-by
    (λ m. whole low low-good bs
    (omega (arith, e, c.if-n-lt1.false))
    (omega (arith, e, c.if-n-gt-MOST.false))
    (said c.spare_zero.ensures c.if-not-spare_zero.false)
    (λ v h l. said c.unused_from.ensures c.if-not-unused_from.false v h (omega (arith, e)))
    (subst (Rosters low bs) e (rosters (goal.at.returns c).Else-not-all))
    (subst (Edges low bs) e (said c.edges-2.ensures c.if-not-edges.false))
    (sym c.edges.ensures ∙ sym c.if-degrees-edges.false ∙ c.degrees.ensures ∙ ap (sum (degree_at low bs)) e)
    (λ v h. m v (omega (arith, e))))
    (λ f v h. facts-mates low low-good bs f v (omega (arith, e)))
    c.mates.ensures)
