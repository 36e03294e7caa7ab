-- `audit::rosters::listed` meets its contract. The loop's invariant: x is who is in a roster of a rank below q. Assumes nothing.
use Prim.Native.Nat.{◌+◌, ◌*◌}
use Rattle.model.specs.Shape.{low}
use Rattle.bitset.specs.Words.{Rest}
use Rattle.audit.specs.Parts.{listed_in}
use Rattle.audit.proofs.rosters.listed.Given as goal

abbrev pub invariant-loop-q : goal.invariant-loop-q
invariant-loop-q l = Rest (λ j. listed_in low l.rack l.q (64 * l.k + j)) 0 l.x
