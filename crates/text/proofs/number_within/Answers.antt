-- `text::number_within` meets its contract. The invariant: the first k digits are the decimal form of v, which has k digits.
-- Assumes nothing.
use Rattle.std.proofs.Common.{◌≡◌, ℕ, ◌+◌, subst, arith}
use Rattle.text.specs.Number.{Begins}
use Rattle.text.proofs.Decimals as decimals
use Rattle.text.proofs.Begun as begun
use Rattle.text.proofs.number_within.Goals as goal

pub returns-then-first-gt9 : goal.returns-then-first-gt9
returns-then-first-gt9 c = let a = c.args in
    λ n rest h. decimals.no_digit (begun.ends_at a.s.now a.at _ c.digit-first.ensures c.if-first-gt9.true) h

pub returns-then-second-gt9 : goal.returns-then-second-gt9
returns-then-second-gt9 c = let a = c.args in
    let room = c.requires in (
      omega (arith, room),
      record {
        written = begun.one-digit a.s.now a.at _ (omega (arith, room)) c.digit-first.ensures (omega arith);
        ends = begun.ends_at a.s.now (a.at + 1) _ c.digit-second.ensures c.if-second-gt9.true;
        small = omega arith;
      },
    )

pub returns-then-first-eq0 : goal.returns-then-first-eq0
returns-then-first-eq0 c = let a = c.args in
    let room = c.requires in
    let first = begun.one-digit a.s.now a.at _ (omega (arith, room)) c.digit-first.ensures (omega arith) in
    let second = c.digit-second.ensures in
    begun.zero-first a.s.now a.at (a.at + 1) _ _ first (omega (arith, room)) (omega arith) second (omega arith)

pub loop-k-init : goal.loop-k-init
loop-k-init c = let a = c.args in
    let room = c.requires in
    let first = c.digit-first.ensures in
    let second = c.digit-second.ensures in
    (begun.begins-two a.s.now a.at _ _ (omega (arith, room)) first (omega arith) (omega arith) second (omega arith))

pub returns-then-d-gt9 : goal.returns-then-d-gt9
returns-then-d-gt9 c = let a = c.args in
    let l = c.loop-k in (
      omega (arith, c.requires),
      record {
        written = l.invariant.stands;
        ends = begun.ends_at a.s.now (a.at + l.k) _ c.digit-d.ensures c.if-d-gt9.true;
        small = omega (arith, begun.begins-fits l.invariant (omega arith));
      },
    )

pub overflow_mul-v-in-loop-k : goal.overflow_mul-v-in-loop-k
overflow_mul-v-in-loop-k c = omega (arith, begun.begins-short c.loop-k.invariant (omega arith))

pub overflow_add-v-in-loop-k : goal.overflow_add-v-in-loop-k
overflow_add-v-in-loop-k c = omega (arith, begun.begins-short c.loop-k.invariant (omega arith))

pub loop-k-preserved : goal.loop-k-preserved
loop-k-preserved c = let a = c.args in
    let l = c.loop-k in
    let room = c.requires in
    (begun.begins-more a.s.now a.at l.k l.v _ l.invariant (omega (arith, room)) c.digit-d.ensures (omega arith))

pub tenth-requires : goal.tenth-requires
tenth-requires c = let a = c.args in
    let l = c.loop-k in
    let nine : l.k ≡ 9 = omega (arith, c.loop-k-test.false) in
    record { at_in_bounds = c.requires; begins = subst (λ (k : ℕ). Begins a.s.now a.at k l.v) nine l.invariant }
