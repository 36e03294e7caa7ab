-- `text::number_at` meets its contract. The invariant: the digits up to i are the decimal form of v. Each answer is one law of `Begun`.
-- Assumes nothing.
use Rattle.std.proofs.Common.{◌≡◌, ℕ, ◌++◌, length, drop, subst, arith}
use Rattle.model.specs.Text.{decimal}
use Rattle.text.proofs.Decimals as decimals
use Rattle.text.proofs.Standing.{ends-out}
use Rattle.text.proofs.Begun as begun
use Rattle.text.proofs.number_at.Goals as goal

pub returns-then-s-at : goal.returns-then-s-at
returns-then-s-at c = let a = c.args in
    λ n rest h. decimals.no_digit (ends-out a.s.now a.at (omega arith)) h

pub returns-then-first-gt9 : goal.returns-then-first-gt9
returns-then-first-gt9 c = let a = c.args in
    λ n rest h. decimals.no_digit (begun.ends_at a.s.now a.at _ c.digit-first.ensures c.if-first-gt9.true) h

pub loop-i-init : goal.loop-i-init
loop-i-init c = let a = c.args in
    (omega arith, begun.one-digit a.s.now a.at _ (omega arith) c.digit-first.ensures (omega arith))

pub returns-then-d-gt9 : goal.returns-then-d-gt9
returns-then-d-gt9 c = let a = c.args in
    let l = c.loop-i in
    let ends = begun.ends_at a.s.now l.i _ c.digit-d.ensures c.if-d-gt9.true in
    (omega arith, record { written = l.invariant.1; ends = ends; small = l.invariant.0 })

pub returns-then-v-eq0 : goal.returns-then-v-eq0
returns-then-v-eq0 c = let a = c.args in
    let l = c.loop-i in
    begun.zero-first a.s.now a.at l.i l.v _ l.invariant.1 (omega arith) (omega arith) c.digit-d.ensures (omega arith)

pub returns-then-v-gt4294967295 : goal.returns-then-v-gt4294967295
returns-then-v-gt4294967295 c = let a = c.args in
    let l = c.loop-i in
    let d = c.digit-d.ensures in
    let more = begun.next-digit a.s.now a.at l.i l.v _ l.invariant.1 (omega arith) (omega arith) d (omega arith) in
    λ n rest h. decimals.too_large _ _ more (omega arith) h

pub loop-i-preserved : goal.loop-i-preserved
loop-i-preserved c = let a = c.args in
    let l = c.loop-i in
    let d = c.digit-d.ensures in
    (omega arith, begun.next-digit a.s.now a.at l.i l.v _ l.invariant.1 (omega arith) (omega arith) d (omega arith))

pub returns : goal.returns
returns c = let a = c.args in
    let l = c.loop-i in
    let over : l.i ≡ length a.s.now = omega arith in
    let stands = subst (λ (i : ℕ). drop a.at a.s.now ≡ decimal l.v ++ drop i a.s.now) over l.invariant.1 in
    (omega arith, record { written = stands; ends = ends-out a.s.now (length a.s.now) (omega arith); small = l.invariant.0 })
