-- `text::number_within` meets its contract. The invariant: the first k digits are the decimal form of v, which has k digits.
-- Assumes nothing.
use Rattle.text.specs.Number.{Begins}
use Rattle.text.proofs.number_within.Given as goal

abbrev pub invariant-loop-k : goal.invariant-loop-k
invariant-loop-k l = Begins l.s l.at l.k l.v
