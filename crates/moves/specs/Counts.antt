-- Counts while a vertex changes its rank: the steps on the bytes, and the counts that they lead to. Assumes nothing.
use Rattle.std.specs.Prelude.{Bool, true, false, ◌&&◌, List, ℕ, zero, suc, ◌-◌, ◌*◌, ◌^◌, ◌≤◌, ◌<◌, leb, eqb}
use Rattle.model.specs.Shape.{Shape}
use Rattle.model.specs.State.{State, phi}
use Rattle.model.specs.Bytes.{half, Fields, phi_at}
use Rattle.layout.specs.Setters.{set_phi}

-- the fields with other counts
unfoldable pub with_counts : Fields → (ℕ → ℕ → ℕ) → Fields
with_counts f c = record { kind = f.kind; n = f.n; edges = f.edges; rank = f.rank; mate = f.mate; phi = c; owns = f.owns }

-- one more, or one less, and that there is room for it up to m
abbrev pub step : Bool → ℕ → ℕ
step more x = elim more [ true ↦ suc x | false ↦ x - 1 ]

abbrev pub CanStep : Bool → ℕ → ℕ → Type 0
CanStep more m x = elim more [ true ↦ x < m | false ↦ 1 ≤ x ]

-- the largest count, and the largest number of edges, that their bytes hold
abbrev pub largest_count : Shape → ℕ
largest_count S = 256 ^ S.width - 1

abbrev pub largest_edges : Shape → ℕ
largest_edges S = half * 256 ^ (2 - S.spare) - 1

-- no more at all
abbrev pub none : ℕ → ℕ
none x = 0

-- each count of w at the k levels from j on, changed by f
unfoldable pub recounted : Shape → (ℕ → ℕ) → List ℕ → ℕ → ℕ → ℕ → List ℕ
recounted S f bs w j zero = bs
recounted S f bs w j (suc k) = recounted S f (set_phi S bs w j (f (phi_at S bs w j))) w (suc j) k

-- a rise of u to level i, from its rank on, takes 1 off the count of w at j: w's edge to u is u's
unfoldable pub hit : State → ℕ → ℕ → ℕ → ℕ → Bool
hit s i u w j = s.owns u w && (leb (s.rank u) j && (leb (s.rank w) j && leb j i))

-- the counts after that
unfoldable pub lowered_counts : State → ℕ → ℕ → ℕ → ℕ → ℕ
lowered_counts s i u w j = elim (hit s i u w j) [ true ↦ phi s w j - 1 | false ↦ phi s w j ]

-- a fall of v from level i adds 1 to the count at i of every vertex to which it owns an edge
unfoldable pub raised_counts : State → ℕ → ℕ → ℕ → ℕ → ℕ
raised_counts s i v w j = elim (s.owns v w && eqb j i) [ true ↦ suc (phi s w j) | false ↦ phi s w j ]
