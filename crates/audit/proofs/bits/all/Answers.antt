-- `audit::bits::all` meets its contract. The loop's invariant: the test passes as far as some place of the word, and what is left holds the places
-- from there on. Assumes nothing.
use mathlib.Core.Path.{◌≡◌, subst}
use mathlib.Core.Bool.{Bool}
use Prim.Native.Nat.{ℕ, ◌<◌}
use native.Mathlib.Omega.{arith}
use lib.Count.{count_trailing_zeros}
use Rattle.audit.proofs.Walk.{midway-first, midway-next, midway_end, each-skips, each-add}
use Rattle.audit.proofs.bits.all.Goals as goal

-- what the test answered at a place, at the place and the answer as they are named elsewhere
answered : (A : ℕ → Bool → Type 0) {p q : ℕ} {a b : Bool} → p ≡ q → a ≡ b → A p a → A q b
answered A {q = q} {a = a} e f x = subst (A q) f (subst (λ (i : ℕ). A i a) e x)

pub returns-then-not-test : goal.returns-then-not-test
returns-then-not-test g c = let n = midway-first c.loop-rest.invariant (each-skips _ _) (omega (arith, c.loop-rest-test.true)) in
    let no = answered (goal.F-post g c.args.test) c.place-place.ensures c.if-not-test.true c.test.ensures in
    record { pass = λ z. absurd z; fail = λ _. (count_trailing_zeros 64 c.loop-rest.rest, n.0, n.1, no) }

pub loop-rest-preserved : goal.loop-rest-preserved
loop-rest-preserved g c = let some : 0 < c.loop-rest.rest = omega (arith, c.loop-rest-test.true) in
    midway-next c.loop-rest.invariant some (each-add _ _ (midway-first c.loop-rest.invariant (each-skips _ _) some).2
    (answered (goal.F-post g c.args.test) c.place-place.ensures c.if-not-test.false c.test.ensures))

pub returns : goal.returns
returns g c = record { pass = λ _. midway_end c.loop-rest.invariant (each-skips _ _) c.loop-rest-test.false; fail = λ z. absurd z }
