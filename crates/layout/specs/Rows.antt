-- What is asked of a vertex's row: how many edges it owns, the k-th of them, and whether there is one from a vertex on. Assumes nothing.
use Rattle.std.specs.Prelude.{◌≡◌, List, ℕ, ◌≤◌, ◌<◌, T}
use Rattle.model.specs.Counting.{count}
use Rattle.model.specs.Shape.{Shape}
use Rattle.model.specs.Bytes.{owns_at}

-- "How many links a board owns is how many bits of its row are set."
unfoldable pub degree_at : Shape → List ℕ → ℕ → ℕ
degree_at S bs v = count (owns_at S bs v) S.most

-- r is the k-th vertex, from 0, to which v owns an edge
pub record NthOwned (S : Shape) (bs : List ℕ) (v k r : ℕ) : Type 0 where
  pub inside : r < S.most
  pub is : T (owns_at S bs v r)
  pub before : count (owns_at S bs v) r ≡ k

-- v owns no edge to a vertex from n on
abbrev pub OwnsNoneFrom : Shape → List ℕ → ℕ → ℕ → Type 0
OwnsNoneFrom S bs v n = (w : ℕ) → w < S.most → n ≤ w → T (owns_at S bs v w) → ⊥
