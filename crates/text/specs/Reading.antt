-- What it means that a value's printed form stands at a position of a text, and that none does. The grammar is given by printing: `print x`
-- is the text of x, and `Good` says which values a text may hold. Assumes nothing.
use Rattle.std.specs.Prelude.{◌≡◌, ℕ, ◌≤◌, List, ◌++◌, length, drop, Option, None, Some, ◌≢◌}

-- x's text stands at `at` of s, and ends before `next`
pub record Found {A : Type 0} (print : A → List ℕ) (Good : A → Type 0) (s : List ℕ) (at : ℕ) (x : A) (next : ℕ) : Type 0 where
  pub within : next ≤ length s
  pub good : Good x
  pub stands : drop at s ≡ print x ++ drop next s

-- no good value's text stands at `at` of s
abbrev pub Absent : {A : Type 0} → (A → List ℕ) → (A → Type 0) → List ℕ → ℕ → Type 0
Absent {A} print Good s at = (x : A) (rest : List ℕ) → Good x → drop at s ≢ print x ++ rest

-- what reading such a text at `at` of s must answer: what it means is the value that stands there, which ends before `next`; or that none does
abbrev pub ReadAt : {A B : Type 0} → (A → List ℕ) → (A → Type 0) → (B → A) → List ℕ → ℕ → Option (B × ℕ) → Type 0
ReadAt print Good means s at (Some (x, next)) = Found print Good s at (means x) next
ReadAt print Good means s at None = Absent print Good s at
