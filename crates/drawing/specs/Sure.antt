-- Lent words of which it is sure that each chooses. Assumes nothing.
use Rattle.std.specs.Prelude.{Bool, true, false, List, ℕ, ◌+◌, ◌≤◌, ◌<◌, length, get_or}
use Rattle.model.specs.Shape.{low}
use Rattle.model.specs.Words.{all_words}

-- the answer yes says that the first h words are there, each below 2^32 - 256; the answer no says nothing
abbrev pub Sure : Bool → List ℕ → ℕ → Type 0
Sure true words h = (h ≤ length words) × ((j : ℕ) → j < h → get_or words j 0 + low.most < all_words)
Sure false words h = Unit
