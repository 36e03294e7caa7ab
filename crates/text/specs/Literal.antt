-- What it means that a fixed text stands at a position of a text. Assumes nothing.
use Rattle.std.specs.Prelude.{◌≡◌, ℕ, ◌+◌, ◌≤◌, List, ◌++◌, length, take, drop, Option, None, Some, ◌≢◌}
use Rattle.std.specs.Int.{w32, from_le_bytes}

-- the position after p, which stands at `at` of s; or that p does not stand there
abbrev pub LiteralAt : List ℕ → ℕ → List ℕ → Option ℕ → Type 0
LiteralAt s at p (Some next) = (next ≤ length s) × (drop at s ≡ p ++ drop next s)
LiteralAt s at p None = (rest : List ℕ) → drop at s ≢ p ++ rest

-- the first k bytes of p stand at `at` of s
abbrev pub Starts : List ℕ → ℕ → List ℕ → ℕ → Type 0
Starts s at p k = drop at s ≡ take k p ++ drop (at + k) s

-- r is the four bytes from i on as one number
abbrev pub FourAt : List ℕ → ℕ → ℕ → Type 0
FourAt s i r = r ≡ from_le_bytes w32 (take 4 (drop i s))
