-- `audit::rows::walk_row` meets its contract. The loop's invariant: the row is walked as far as word k. Assumes nothing.
use Prim.Native.Nat.{◌*◌}
use Rattle.model.specs.Shape.{low}
use Rattle.audit.specs.Parts.{Walked}
use Rattle.audit.proofs.rows.walk_row.Given as goal

abbrev pub invariant-loop-k : goal.invariant-loop-k
invariant-loop-k l = Walked low l.rack l.tally l.v (64 * l.k)
