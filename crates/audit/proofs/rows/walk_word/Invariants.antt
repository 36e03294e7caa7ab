-- `audit::rows::walk_word` meets its contract. The loop's invariant: the row is walked as far as some place of the word, and x holds the places
-- from there on. Assumes nothing.
use Prim.Native.Nat.{◌+◌, ◌*◌}
use Rattle.model.specs.Shape.{low}
use Rattle.model.specs.Bytes.{owns_at}
use Rattle.audit.specs.Parts.{Walked}
use Rattle.audit.proofs.Walk.{Midway}
use Rattle.audit.proofs.rows.walk_word.Given as goal

abbrev pub invariant-loop-x : goal.invariant-loop-x
invariant-loop-x l = Midway (λ j. owns_at low l.rack l.v (64 * l.k + j)) (λ j. Walked low l.rack l.tally l.v (64 * l.k + j)) l.x

abbrev pub decreases-loop-x : goal.decreases-loop-x
decreases-loop-x l = l.x
