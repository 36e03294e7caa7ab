-- Handing on, a word of the row at a time: which edges go and which stay, and the state after some of them have gone. Assumes nothing.
use Rattle.std.specs.Prelude.{Bool, false, not, ◌&&◌, ℕ, suc, ◌+◌, ◌*◌, eqb, leb, ltb}
use Rattle.model.specs.State.{State}
use Rattle.model.specs.Moves.{owned_by}
use Rattle.model.specs.Change.{reown}

-- "each owned link whose other end is also at level i"
unfoldable pub same_level : State → ℕ → ℕ → ℕ → Bool
same_level s i v w = s.owns v w && eqb (s.rank w) (suc i)

-- the other links that v owns
unfoldable pub other_level : State → ℕ → ℕ → ℕ → Bool
other_level s i v w = s.owns v w && not (eqb (s.rank w) (suc i))

-- the first m places of word k of a row
unfoldable pub in_word : ℕ → ℕ → ℕ → Bool
in_word k m w = leb (64 * k) w && ltb w (64 * k + m)

-- those of these links whose other ends pass q are handed on
unfoldable pub handed_in : (ℕ → Bool) → ℕ → ℕ → State → State
handed_in q i v s = reown s (owned_by v (λ w. same_level s i v w && q w) false s.owns)
