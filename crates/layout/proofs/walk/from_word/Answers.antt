-- `layout::walk::from_word` meets its contract. The loop's invariant: no word before this one has an edge. Assumes nothing.
use native.Mathlib.Omega.{arith}
use Rattle.model.proofs.Shapes.{low-good}
use Rattle.layout.proofs.Walks.{row-whole, passed-word, passed_here}
use Rattle.layout.proofs.walk.from_word.Goals as goal

pub returns-then-rest-ne0 : goal.returns-then-rest-ne0
returns-then-rest-ne0 c = let l = c.loop-word in
    passed_here l.word l.invariant (omega (arith, c.loop-word-test.true)) c.word-rest.ensures (omega (arith, c.if-rest-ne0.true))

pub loop-word-preserved : goal.loop-word-preserved
loop-word-preserved c = let l = c.loop-word in
    passed-word l.word l.invariant (omega (arith, c.loop-word-test.true)) c.word-rest.ensures (row-whole low-good) c.if-rest-ne0.false
