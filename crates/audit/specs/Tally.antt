-- What the audit gathers on its one way over the rows: for each vertex x and each rank r but the highest, the number of edges at x whose owner
-- has rank r. An owner's rank is at least the other end's, so the count of x at j is the sum of these for r up to j (proofs/Phi.antt).
-- Assumes nothing.
use Rattle.std.specs.Prelude.{◌≡◌, true, false, ◌&&◌, List, ℕ, ◌+◌, ◌*◌, ◌<◌, eqb, ltb, length, get_or}
use Rattle.model.specs.Counting.{sum, bit, count}
use Rattle.model.specs.Shape.{Shape}
use Rattle.model.specs.Bytes.{rank_at, owns_at}

-- Of row v, the edges to vertices below p: how many of them are at x and have an owner of rank r. Each is at both its ends, v and x.
unfoldable pub share : Shape → List ℕ → ℕ → ℕ → ℕ → ℕ → ℕ
share S bs v p x r = elim (eqb (rank_at bs v) r) [
  | true ↦ bit (ltb x p && owns_at S bs v x) + elim (eqb x v) [ true ↦ count (owns_at S bs v) p | false ↦ 0 ]
  | false ↦ 0
]

-- the same of the rows of all vertices below k
unfoldable pub tallied : Shape → List ℕ → ℕ → ℕ → ℕ → ℕ
tallied S bs k x r = sum (λ v. share S bs v S.most x r) k

-- the rows of the vertices below v, and row v as far as p
unfoldable pub partly : Shape → List ℕ → ℕ → ℕ → ℕ → ℕ → ℕ
partly S bs v p x r = tallied S bs v x r + share S bs v p x r

-- the tally t holds f: its entry for x and r is f x r
pub record Holds (S : Shape) (t : List ℕ) (f : ℕ → ℕ → ℕ) : Type 0 where
  pub long : length t ≡ S.levels * S.most
  pub at : (x r : ℕ) → x < S.most → r < S.levels → get_or t (S.levels * x + r) 0 ≡ f x r

-- the entries of x for the ranks below j, together
unfoldable pub up_to : Shape → List ℕ → ℕ → ℕ → ℕ
up_to S t x j = sum (λ r. get_or t (S.levels * x + r) 0) j

-- what an edge v-w with an owner of rank r adds at x for the rank s: one at each end
unfoldable pub ends : ℕ → ℕ → ℕ → ℕ → ℕ → ℕ
ends v w r x s = elim (eqb r s) [ true ↦ bit (eqb x w) + bit (eqb x v) | false ↦ 0 ]

-- u is the tally t with that edge added
pub record Added (S : Shape) (t u : List ℕ) (v w r : ℕ) : Type 0 where
  pub long : length u ≡ length t
  pub at : (x s : ℕ) → s < S.levels → get_or u (S.levels * x + s) 0 ≡ get_or t (S.levels * x + s) 0 + ends v w r x s
