-- `audit::bits::all` meets its contract. The loop's invariant: the test passes as far as some place of the word, and what is left holds the places
-- from there on. Assumes nothing.
use mathlib.Core.Bool.{true}
use Prim.Native.Nat.{ℕ, ◌+◌, ◌*◌, ◌<◌}
use lib.Dec.{T}
use Rattle.model.specs.Parts.{bit_of}
use Rattle.audit.proofs.Walk.{Midway}
use Rattle.audit.proofs.bits.all.Given as goal

abbrev pub invariant-loop-rest : goal.invariant-loop-rest
invariant-loop-rest g l =
    Midway (bit_of l.word) (λ p. (j : ℕ) → j < p → T (bit_of l.word j) → goal.F-post g l.test (64 * l.k + j) true) l.rest

abbrev pub decreases-loop-rest : goal.decreases-loop-rest
decreases-loop-rest g l = l.rest
