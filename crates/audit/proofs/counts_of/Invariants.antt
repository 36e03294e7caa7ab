-- `audit::counts_of` meets its contract. The loop's invariant: the counts below j are right by the tally, and the total is the sum of the entries
-- below j. Assumes nothing.
use mathlib.Core.Path.{◌≡◌}
use Prim.Native.Nat.{ℕ, suc, ◌<◌}
use Rattle.model.specs.Shape.{low}
use Rattle.audit.specs.Tally.{up_to}
use Rattle.audit.specs.Parts.{Count}
use Rattle.audit.proofs.counts_of.Given as goal

abbrev pub invariant-loop-j : goal.invariant-loop-j
invariant-loop-j l = (l.total ≡ up_to low l.tally l.v l.j) × ((i : ℕ) → i < l.j → Count low l.rack l.v i (up_to low l.tally l.v (suc i)))
