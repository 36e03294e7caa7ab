-- Words that are sure to suffice for a change, found by looking at the words alone: no change has more new pairs than half its vertices, nor more
-- than edges, and a word that chooses whatever the number of neighbours is never passed over. Assumes nothing.
use Rattle.std.specs.Prelude.{◌≡◌, ◌⊎◌, List, ℕ, ◌/◌, ◌≤◌, ◌<◌, T, length, get_or}
use Rattle.model.specs.Words.{chooses}

-- the first `most` words are there, and each chooses among any number of neighbours up to n
pub record Quick (n most : ℕ) (words : List ℕ) : Type 0 where
  pub many : most ≤ length words
  pub small : (j k : ℕ) → j < most → 1 ≤ k → k ≤ n → T (chooses k (get_or words j 0))

-- As many as a change of n vertices can have new pairs, if it leaves at most m edges and begins at level i. At level 0 at most k can draw: the one
-- that rises, or the two that are parted.
pub record Suffices (n m i k : ℕ) (words : List ℕ) : Type 0 where
  pub most : ℕ
  pub bound : (n / 2 ≤ most) ⊎ (m ≤ most) ⊎ ((i ≡ 0) × (k ≤ most))
  pub quick : Quick n most words
