-- `text::literal_at` meets its contract. The invariant: the first fours of p stand at `at`.
-- Assumes nothing.
use Rattle.std.proofs.Common.{◌≡◌, ℕ, ◌+◌, ◌*◌, ◌/◌, length, subst, arith}
use Rattle.text.specs.Literal.{Starts}
use Rattle.text.proofs.Standing.{literal-start, literal-short}
use Rattle.text.proofs.Fours.{AreBytes, four-turn, four-differs}
use Rattle.text.proofs.literal_at.Goals as goal

pub returns-then-s-at : goal.returns-then-s-at
returns-then-s-at c = let a = c.args in
    λ rest e. literal-short a.s.now a.at a.p.now rest (omega (arith, c.requires)) e

pub returns-then-s-at-2 : goal.returns-then-s-at-2
returns-then-s-at-2 c = let a = c.args in
    λ rest e. literal-short a.s.now a.at a.p.now rest (omega arith) e

pub loop-i-init : goal.loop-i-init
loop-i-init c = literal-start c.args.s.now c.args.at c.args.p.now

pub returns-then-four : goal.returns-then-four
returns-then-four c = let a = c.args in
    λ rest e. four-differs a.s.now a.at a.p.now _ _ _ rest c.four.ensures c.four-in-loop-i.ensures c.if-four.true (omega arith) e

pub loop-i-preserved : goal.loop-i-preserved
loop-i-preserved c = let a = c.args in
    let l = c.loop-i in
    let k = 4 * l.i in
    let small : AreBytes a.s.now = λ i. omega (arith, c.type_inv.s i) in
    let few : AreBytes a.p.now = λ i. omega (arith, c.type_inv.p i) in
    let next : k + 4 ≡ 4 * (l.i + 1) = omega arith in
    subst (Starts a.s.now a.at a.p.now) next
    (four-turn a.s.now a.at a.p.now k _ _ small few l.invariant (omega arith) (omega arith) c.four.ensures c.four-in-loop-i.ensures c.if-four.false)

pub rest_at-requires : goal.rest_at-requires
rest_at-requires c = let a = c.args in
    let over : c.loop-i.i ≡ length a.p.now / 4 = omega arith in
    let starts = subst (λ (i : ℕ). Starts a.s.now a.at a.p.now (4 * i)) over c.loop-i.invariant in
    record { p_in_bounds = omega arith; from_in_bounds = omega arith; starts = starts }
