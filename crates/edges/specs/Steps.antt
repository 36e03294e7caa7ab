-- What one edge more or less does to the counts, and what the search for a rise finds. Assumes nothing.
use Rattle.std.specs.Prelude.{Bool, List, Option, None, Some, ℕ, suc, ◌-◌, ◌≤◌, ◌<◌}
use Rattle.model.specs.Shape.{Shape}
use Rattle.model.specs.Bytes.{edges_at, top_at, phi_at}
use Rattle.model.specs.Moves.{Found, none, found}
use Rattle.layout.specs.Setters.{set_edges}
use Rattle.moves.specs.Counts.{step, CanStep, largest_count, largest_edges, recounted}
use Rattle.edges.specs.declared.Rise.{Rise}

-- the counts of w from level j up to the top, one more or one less
abbrev pub recounted_from : Shape → Bool → ℕ → List ℕ → ℕ → ℕ → List ℕ
recounted_from S more top bs w j = recounted S (step more) bs w j (suc top - j)

-- the edge a-b more or less, from level j up to the rack's top level: the counts of both ends, and the number of edges
abbrev pub ends_counted : Shape → Bool → List ℕ → ℕ → ℕ → ℕ → List ℕ
ends_counted S more bs a b j = recounted_from S more (top_at bs) (recounted_from S more (top_at bs) bs a j) b j

unfoldable pub edge_counted : Shape → Bool → List ℕ → ℕ → ℕ → ℕ → List ℕ
edge_counted S more bs a b j = set_edges S (ends_counted S more bs a b j) (step more (edges_at S (ends_counted S more bs a b j)))

-- there is room for it, before each step
pub record Countable (S : Shape) (more : Bool) (bs : List ℕ) (a b j : ℕ) : Type 0 where
  pub a_in : a < S.most
  pub b-in : b < S.most
  pub room : top_at bs < S.levels
  pub level : j ≤ suc (top_at bs)
  pub of-a : (x : ℕ) → j ≤ x → x ≤ top_at bs → CanStep more (largest_count S) (phi_at S bs a x)
  pub of-b : (x : ℕ) → j ≤ x → x ≤ top_at bs → CanStep more (largest_count S) (phi_at S (recounted_from S more (top_at bs) bs a j) b x)
  pub of-edges : CanStep more (largest_edges S) (edges_at S (ends_counted S more bs a b j))

-- the level reached and the riser, as the definition names them
abbrev pub reached_by : Option Rise → Found
reached_by None = none
reached_by (Some x) = found x.level x.riser
