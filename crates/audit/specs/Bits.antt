-- A test of the places of a word. Assumes nothing.
use Rattle.std.specs.Prelude.{Bool, true, false, not, ℕ, ◌<◌, T}

-- The answer r for the places of o: the test answered true at each of them, or else false at one.
pub record AllPass (o : ℕ → Bool) (answered : ℕ → Bool → Type 0) (r : Bool) : Type 0 where
  pub pass : T r → (j : ℕ) → j < 64 → T (o j) → answered j true
  pub fail : T (not r) → (j : ℕ) × (j < 64) × T (o j) × answered j false
