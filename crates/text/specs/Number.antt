-- What it means that a number stands at a position of a text. Assumes nothing.
use Rattle.std.specs.Prelude.{◌≡◌, ℕ, ◌+◌, ◌*◌, ◌^◌, ◌<◌, ◌≤◌, Bool, false, cond, List, ◌++◌, length, drop, Option, None, Some, nat_le, slice_index}
use Rattle.model.specs.Text.{decimal, largest}

-- whether a byte is one of the digits 0 to 9
unfoldable pub is_digit : ℕ → Bool
is_digit b = cond (nat_le 48 b) (nat_le b 57) false

-- r is the digit b, or more than 9 where b is none
pub record DigitOf (b r : ℕ) : Type 0 where
  pub is : r ≤ 9 → b ≡ 48 + r
  pub none : 9 < r → is_digit b ≡ false

-- t is empty, or its first byte is no digit
abbrev pub NoDigit : List ℕ → Type 0
NoDigit t = is_digit (slice_index t 0) ≡ false

-- t is x in decimal and then rest, in which the number does not go on: 12 is no number at the start of 123
pub record NumberThen (t : List ℕ) (x : ℕ) (rest : List ℕ) : Type 0 where
  pub written : t ≡ decimal x ++ rest
  pub ends : NoDigit rest
  pub small : x ≤ largest

-- v has k digits, and they stand at `at` of s; more may follow
pub record Begins (s : List ℕ) (at k v : ℕ) : Type 0 where
  pub stands : drop at s ≡ decimal v ++ drop (at + k) s
  pub least : 10 ^ k ≤ v * 10
  pub most : v < 10 ^ k

-- what reading a number at `at` of s must answer: the number that stands there and the position after it, or that none stands there
abbrev pub NumberAt : List ℕ → ℕ → Option (ℕ × ℕ) → Type 0
NumberAt s at (Some (x, next)) = (next ≤ length s) × NumberThen (drop at s) x (drop next s)
NumberAt s at None = (x : ℕ) (rest : List ℕ) → NumberThen (drop at s) x rest → ⊥
