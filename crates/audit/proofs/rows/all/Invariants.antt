-- `audit::rows::all` meets its contract. The loop's invariant: the rows below v are right, and are in the tally. Assumes nothing.
use Prim.Native.Nat.{ℕ, ◌<◌}
use Rattle.model.specs.Shape.{low}
use Rattle.audit.specs.Tally.{tallied, Holds}
use Rattle.audit.specs.Parts.{Row}
use Rattle.audit.proofs.rows.all.Given as goal

abbrev pub invariant-loop-v : goal.invariant-loop-v
invariant-loop-v l = Holds low l.tally (tallied low l.rack l.v) × ((w : ℕ) → w < l.v → Row low l.rack l.n w)
