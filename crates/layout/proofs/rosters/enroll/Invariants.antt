-- `layout::rosters::enroll` meets its contract: word by word the vertices enter. Assumes nothing.
use mathlib.Core.Path.{◌≡◌}
use Prim.Native.Nat.{◌*◌}
use Rattle.model.specs.Shape.{low}
use Rattle.layout.specs.Setters.{enrolled}
use Rattle.layout.proofs.rosters.enroll.Given as goal

abbrev pub invariant-loop-k : goal.invariant-loop-k
invariant-loop-k l = l.rack ≡ enrolled low l.n (64 * l.k)
