-- `text::rest_at` meets its contract. The invariant: the first k bytes of p stand at `at`.
-- Assumes nothing.
use Rattle.text.specs.Literal.{Starts}
use Rattle.text.proofs.rest_at.Given as goal

abbrev pub invariant-loop-k : goal.invariant-loop-k
invariant-loop-k l = Starts l.s l.at l.p l.k
