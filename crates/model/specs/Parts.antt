-- Bytes as a list of parts, each of so many numbers of one width: what every layout is made of. Assumes nothing.
use Rattle.std.specs.Prelude.{Bool, List, [], ◌∷◌, ◌++◌, ℕ, zero, suc, ◌+◌, ◌*◌, ◌/◌, ◌%◌, ◌^◌, eqb, get_or}
use Rattle.model.specs.Counting.{sum, bit, each}

-- "numbers low byte first": the number in the w bytes at k
unfoldable pub num_at : ℕ → List ℕ → ℕ → ℕ
num_at zero bs k = 0
num_at (suc zero) bs k = get_or bs k 0
num_at (suc (suc w)) bs k = get_or bs k 0 + 256 * num_at (suc w) bs (k + 1)

-- a number in w bytes; the last is not cut, so that it is read back whole
unfoldable pub num : ℕ → ℕ → List ℕ
num zero x = []
num (suc zero) x = x ∷ []
num (suc (suc w)) x = x % 256 ∷ num (suc w) (x / 256)

-- bit b of a byte, bit 0 lowest
unfoldable pub bit_of : ℕ → ℕ → Bool
bit_of x b = eqb (x / 2 ^ b % 2) 1

-- byte k of the row of the numbers that pass p: "Bit w mod 8 (bit 0 lowest) of byte w div 8"
unfoldable pub row_byte : (ℕ → Bool) → ℕ → ℕ
row_byte p k = sum (λ b. 2 ^ b * bit (p (8 * k + b))) 8

-- a part: so many numbers of one width, in bytes
pub record Part : Type 0 where
  pub many : ℕ
  pub width : ℕ
  pub number : ℕ → ℕ

abbrev pub numbers : ℕ → ℕ → (ℕ → ℕ) → Part
numbers many width number = record { many = many; width = width; number = number }

-- a table of rows of k entries as one list, row after row: its entry i
abbrev pub by_rows : ℕ → (ℕ → ℕ → ℕ) → ℕ → ℕ
by_rows k f i = f (i / k) (i % k)

-- the parts, one after the other
unfoldable pub bytes_of : List Part → List ℕ
bytes_of [] = []
bytes_of (p ∷ ps) = each p.many (λ i. num p.width (p.number i)) ++ bytes_of ps
