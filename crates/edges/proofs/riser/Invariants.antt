-- `edges::riser` meets its contract. The loop's invariant: what is left to find below j is the answer, once j is no longer above the top.
-- Assumes nothing.
use Rattle.model.specs.Shape.{low}
use Rattle.model.specs.Bytes.{rules_at, read}
use Rattle.edges.proofs.Search.{Left}
use Rattle.edges.proofs.riser.Given as goal

abbrev pub invariant-loop-j : goal.invariant-loop-j
invariant-loop-j l = Left (rules_at l.rack) l.a l.b l.j (read low l.rack)
