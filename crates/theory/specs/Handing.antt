-- The two parts of a taken vertex's row, as a statement (document 02, W-204). Assumes nothing.
use Rattle.std.specs.Prelude.{◌≡◌, ◌⊎◌, Bool, ◌&&◌, ℕ, suc, ◌+◌, ◌≤◌, T}
use Rattle.model.specs.Counting.{count}
use Rattle.model.specs.State.{State, near, below}

-- "the links handed on": v owned the edge to w before, in s, and w owns it after, in t
unfoldable pub handed_on : State → State → ℕ → ℕ → Bool
handed_on s t v w = s.owns v w && t.owns w v

-- an edge from v to w that was handed on at level i: v owned it and no longer does, and w, which stands at that level, owns it now
pub record HandedOn (i v w : ℕ) (s t : State) : Type 0 where
  pub before : T (s.owns v w)
  pub level : s.rank w ≡ suc i
  pub after : T (t.owns w v)
  pub gone : T (t.owns v w) → ⊥

-- an edge from v to w, which stands below level i, that v owned and still owns
pub record StillOwned (i v w : ℕ) (s t : State) : Type 0 where
  pub before : T (s.owns v w)
  pub low : s.rank w ≤ i
  pub after : T (t.owns v w)
  pub alone : T (t.owns w v) → ⊥

-- "the links handed on and the boards below together make exactly the links that the board owned before": v hands on at level i, and s
-- becomes t
pub record Parts (i v : ℕ) (s t : State) : Type 0 where
  -- nothing else is in the two parts: what was handed on, and what leads to a vertex below, v owned before
  pub handed : (w : ℕ) → T (handed_on s t v w) → HandedOn i v w s t
  pub lower : (w : ℕ) → T (near t v i w) → StillOwned i v w s t
  -- nothing is missing: each edge that v owned before is in one of them
  pub each : (w : ℕ) → T (s.owns v w) → T (handed_on s t v w) ⊎ T (near t v i w)
  -- and none is in both
  pub apart : (w : ℕ) → T (handed_on s t v w) → T (near t v i w) → ⊥
  -- so the two numbers make the number of edges that v owned before
  pub whole : count (handed_on s t v) s.n + below t v i ≡ count (s.owns v) s.n
