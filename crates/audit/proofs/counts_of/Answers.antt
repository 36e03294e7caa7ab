-- `audit::counts_of` meets its contract. The loop's invariant: the counts below j are right by the tally, and the total is the sum of the entries
-- below j. Assumes nothing.
use mathlib.Core.Path.{◌≡◌, sym, ap, ◌∙◌}
use Prim.Native.Nat.{ℕ, suc, ◌+◌, ◌*◌, ◌<◌}
use native.Mathlib.Omega.{arith}
use lib.ListN.{get_or}
use borrow.Author.Count.{below_more}
use Rattle.model.specs.Shape.{low}
use Rattle.model.proofs.Shapes.{low-good}
use Rattle.layout.proofs.Said.{says-no}
use Rattle.audit.specs.Tally.{up_to}
use Rattle.audit.specs.Parts.{Limits}
use Rattle.audit.proofs.Phi.{up_to-one, up_to-suc, up_to-more}
use Rattle.audit.proofs.Limited.{held_small, count-tested, count_held, count-below, count_none, none-counted}
use Rattle.audit.proofs.counts_of.Goals.{In-loop-j}
use Rattle.audit.proofs.counts_of.Goals as goal

pub returns-then-tally-v-ne0 : goal.returns-then-tally-v-ne0
returns-then-tally-v-ne0 c = let a = c.args in
    says-no (λ g. c.if-tally-v-ne0.true (sym (up_to-one low a.tally.now a.v) ∙ (none-counted low a.rack.now a.v _ (g 0 (omega arith))).1))

pub loop-j-init : goal.loop-j-init
loop-j-init c = let a = c.args in
    let none = up_to-one low a.tally.now a.v ∙ c.if-tally-v-ne0.false in
    let first = count_none low a.rack.now a.v _ (sym c.phi.ensures ∙ c.if-phi-ne0.false) none in
    (sym none, below_more _ 0 (λ i h. absurd (omega arith)) first)

-- the total, with the entry of j
more : (c : In-loop-j) →
    let a = c.args in
    let l = c.loop-j in
    l.total + get_or a.tally.now (low.levels * a.v + l.j) 0 ≡ up_to low a.tally.now a.v (suc l.j)
more c =
    let a = c.args in
    let l = c.loop-j in
    omega (arith, up_to-suc low a.tally.now a.v l.j, l.invariant.0)

limits : (c : In-loop-j) →
    let a = c.args in
    Limits low a.rack.now a.bars.now a.standing.now
limits c = c.requires.limits

fits : (c : In-loop-j) →
    let a = c.args in
    let l = c.loop-j in
    l.total + get_or a.tally.now (low.levels * a.v + l.j) 0 < 65536
fits c =
    omega (arith, more c, c.requires.sums_fit (suc c.loop-j.j) c.loop-j-test.true)

pub overflow_add-total-in-loop-j : goal.overflow_add-total-in-loop-j
overflow_add-total-in-loop-j c = record { fits = omega (arith, fits (goal.at.overflow_add-total-in-loop-j c).In-loop-j) }

pub overflow_mul-total-in-loop-j : goal.overflow_mul-total-in-loop-j
overflow_mul-total-in-loop-j c = let a = c.args in
    let l = c.loop-j in
    let total = l.total + get_or a.tally.now (low.levels * a.v + l.j) 0 in
    record {
      fits = omega (
        arith,
        fits (goal.at.overflow_mul-total-in-loop-j c).In-loop-j,
        held_small
            (limits (goal.at.overflow_mul-total-in-loop-j c).In-loop-j) total l.j c.loop-j-test.true,
      );
    }

pub returns-then-x-total : goal.returns-then-x-total
returns-then-x-total c = let a = c.args in
    let l = c.loop-j in
    let h = c.loop-j-test.true in
    says-no (λ g. c.if-x-total.true (c.phi-x.ensures ∙ count_held (limits (goal.at.returns-then-x-total c).In-loop-j) _ l.j h a.v (g l.j h)
    ∙ ap (λ (x : ℕ). x * get_or a.standing.now l.j 0) (sym (more (goal.at.returns-then-x-total c).In-loop-j))))

pub returns-then-bars-j : goal.returns-then-bars-j
returns-then-bars-j c = let a = c.args in
    let l = c.loop-j in
    let h = c.loop-j-test.true in
    says-no (λ g. omega (
      arith,
      c.if-bars-j.true,
      c.phi-x.ensures,
      count-below (limits (goal.at.returns-then-bars-j c).In-loop-j) _ l.j h a.v low-good (g l.j h),
    ))

pub loop-j-preserved : goal.loop-j-preserved
loop-j-preserved c = let a = c.args in
    let l = c.loop-j in
    let h = c.loop-j-test.true in
    let phi = c.phi-x.ensures in
    let held = sym phi ∙ c.if-x-total.false ∙ ap (λ (x : ℕ). x * get_or a.standing.now l.j 0) (more (goal.at.loop-j-preserved c).In-loop-j) in (
      omega (arith, up_to-more low a.tally.now a.v l.j, l.invariant.0),
      below_more _ _ l.invariant.1 (count-tested (limits (goal.at.loop-j-preserved c).In-loop-j) _ l.j h a.v held (omega (arith, phi, c.if-bars-j.false))),
    )
