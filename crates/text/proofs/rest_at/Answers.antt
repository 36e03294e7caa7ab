-- `text::rest_at` meets its contract: a byte that differs refutes p. Assumes nothing.
use Rattle.std.proofs.Common.{◌≡◌, ℕ, ◌+◌, ◌<◌, List, ◌++◌, length, drop, ap, ◌∙◌, subst, arith, take_all}
use Rattle.text.specs.Literal.{Starts}
use Rattle.text.proofs.Standing.{literal-turn, literal-differs}
use Rattle.text.proofs.rest_at.Goals as goal

pub loop-k-init : goal.loop-k-init
loop-k-init c = c.requires.starts

pub returns-then-s-at : goal.returns-then-s-at
returns-then-s-at c = let a = c.args in
    λ rest e. literal-differs a.s.now a.at a.p.now c.loop-k.k rest (omega arith) c.if-s-at.true e

pub loop-k-preserved : goal.loop-k-preserved
loop-k-preserved c = let a = c.args in
    let l = c.loop-k in
    let inside : a.at + l.k < length a.s.now = omega (arith, c.requires.p_in_bounds) in
    literal-turn a.s.now a.at a.p.now l.k l.invariant (omega arith) inside c.if-s-at.false

pub returns : goal.returns
returns c = let a = c.args in
    let l = c.loop-k in
    let n = length a.p.now in
    let over : l.k ≡ n = omega (arith, c.requires.from_in_bounds) in
    let starts = subst (Starts a.s.now a.at a.p.now) over l.invariant in
    (c.requires.p_in_bounds, starts ∙ ap (λ (u : List ℕ). u ++ drop (a.at + n) a.s.now) (take_all n a.p.now (omega arith)))
