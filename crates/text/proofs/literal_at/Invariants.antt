-- `text::literal_at` meets its contract. The invariant: the first fours of p stand at `at`.
-- Assumes nothing.
use Rattle.std.proofs.Common.{◌*◌}
use Rattle.text.specs.Literal.{Starts}
use Rattle.text.proofs.literal_at.Given as goal

abbrev pub invariant-loop-i : goal.invariant-loop-i
invariant-loop-i l = Starts l.s l.at l.p (4 * l.i)
