-- `audit::rows::all` meets its contract. The loop's invariant: the rows below v are right, and are in the tally. Assumes nothing.
use native.Mathlib.Omega.{arith}
use borrow.Author.Count.{below_more}
use Rattle.model.proofs.Tests.{true-T}
use Rattle.layout.proofs.Said.{said, says-yes}
use Rattle.audit.proofs.rows.all.Goals as goal

pub loop-v-preserved : goal.loop-v-preserved
loop-v-preserved c = let l = c.loop-v in (
  c.row.ensures.holds_2 (true-T {b = c.row.result} c.if-not-row.false),
  below_more _ _ l.invariant.1 (said c.row.ensures.says c.if-not-row.false),
)

pub returns-clause-says : goal.returns-clause-says
returns-clause-says c = says-yes (λ v h. c.loop-v.invariant.1 v (omega (arith, c.loop-v-test.false)))
