-- `audit::rows::walk_word` meets its contract. The loop's invariant: the row is walked as far as some place of the word, and x holds the places
-- from there on. Assumes nothing.
use mathlib.Core.Path.{◌≡◌, subst}
use mathlib.Core.List.{List}
use Prim.Native.Nat.{ℕ, ◌+◌, ◌*◌, ◌≤◌, ◌<◌}
use native.Mathlib.Omega.{arith}
use lib.Dec.{T}
use lib.Count.{count_trailing_zeros}
use Rattle.model.specs.Shape.{low}
use Rattle.model.specs.Bytes.{owns_at}
use Rattle.layout.proofs.Said.{said, unsaid, says-yes, says-no}
use Rattle.audit.specs.Tally.{Added}
use Rattle.audit.specs.Parts.{Walked}
use Rattle.audit.proofs.Walk.{Skips, midway-first, midway-next, midway_end, skips_from, walked-skips, walked-add, walked-small}
use Rattle.audit.proofs.rows.walk_word.Goals.{After-place-w}
use Rattle.audit.proofs.rows.walk_word.Goals as goal

skips : (bs t : List ℕ) (v k : ℕ) → Skips (λ j. owns_at low bs v (64 * k + j)) (λ j. Walked low bs t v (64 * k + j))
skips bs t v k = skips_from (owns_at low bs v) (64 * k) (walked-skips low bs t v)

-- the edge that is next, as far as which the row is walked
next : (c : After-place-w) →
    let bs = c.args.rack.now in
    let w = c.place-w.result in
    (count_trailing_zeros 64 c.loop-x.x < 64) × T (owns_at low bs c.args.v w) × Walked low bs c.loop-x.tally c.args.v w
next c = rw c.place-w.ensures (midway-first c.loop-x.invariant (skips _ _ _ _) (omega (arith, c.loop-x-test.true)))

pub returns-then-not-right-clause-says : goal.returns-then-not-right-clause-says
returns-then-not-right-clause-says c = let n = next (goal.at.returns-then-not-right-clause-says c).After-place-w in
    says-no (λ g. unsaid c.right.ensures c.if-not-right.true (g _ (omega (arith, n.0, c.place-w.ensures)) n.1))

pub add-requires-clause-by_index : goal.add-requires-clause-by_index
add-requires-clause-by_index c = let n = next (goal.at.add-requires-clause-by_index c).After-place-w in
    let w : c.place-w.result ≤ low.most = omega (arith, n.0, c.place-w.ensures) in
    walked-small low c.args.rack.now c.loop-x.tally c.args.v (omega arith) _ c.args.r c.requires.v_lt_most w c.requires.r_lt_levels n.2

pub loop-x-preserved : goal.loop-x-preserved
loop-x-preserved c = let bs = c.args.rack.now in
    let v = c.args.v in
    let t = c.add.new.tally in
    let j = count_trailing_zeros 64 c.loop-x.x in
    let w = c.place-w.result in
    let n = next (goal.at.loop-x-preserved c).After-place-w in
    let right = said c.right.ensures c.if-not-right.false in
    let added = subst (λ (r : ℕ). Added low c.loop-x.tally t v w r) c.requires.r_value c.add.ensures in
    let on : w + 1 ≡ 64 * c.args.k + (j + 1) = omega (arith, c.place-w.ensures) in
    midway-next c.loop-x.invariant (omega (arith, c.loop-x-test.true))
    (subst (Walked low bs t v) on (walked-add low bs c.loop-x.tally v t w n.2 n.1 right added))

pub returns : goal.returns
returns c = let all = midway_end c.loop-x.invariant (skips _ _ _ _) c.loop-x-test.false in record { says = says-yes all.right; walked_2 = λ _. all }
