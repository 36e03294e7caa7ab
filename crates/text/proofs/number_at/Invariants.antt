-- `text::number_at` meets its contract. The invariant: the digits up to i are the decimal form of v. Each answer is one law of `Begun`.
-- Assumes nothing.
use Rattle.std.proofs.Common.{◌≡◌, ◌≤◌, ◌++◌, drop}
use Rattle.model.specs.Text.{decimal, largest}
use Rattle.text.proofs.number_at.Given as goal

abbrev pub invariant-loop-i : goal.invariant-loop-i
invariant-loop-i l = (l.v ≤ largest) × (drop l.at l.s ≡ decimal l.v ++ drop l.i l.s)
