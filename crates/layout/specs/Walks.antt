-- A walk along a row of so many places at most, given by the places o that are in it: where it stands, and how it goes on. Assumes nothing.
use Rattle.std.specs.Prelude.{◌≡◌, Bool, Option, ℕ, ◌+◌, ◌-◌, ◌*◌, ◌≤◌, ◌<◌, T}
use Rattle.std.specs.Int.Bits.{bit_and}
use Rattle.std.specs.Int.Count.{count_trailing_zeros}
use Rattle.bitset.specs.Words.{Rest}
use Rattle.std.specs.Option.{MatchOption}
use Rattle.layout.specs.declared.walk.Cursor.{Cursor}

-- the first place of what is left of a word
abbrev pub place_of : ℕ → ℕ → ℕ
place_of word rest = 64 * word + count_trailing_zeros 64 rest

-- the first place of what is left of a word is taken, if there is one, and the others are left
abbrev pub Taken : Cursor → Option ℕ → Cursor → Type 0
Taken s r t = MatchOption r ((s.rest ≡ 0) × (t ≡ s))
    (λ w. (0 < s.rest) × (w ≡ place_of s.word s.rest) × (t ≡ record { word = s.word; rest = bit_and s.rest (s.rest - 1) }))

-- c stands at the first place from `from` on, and has what is left of its word
pub record Here (most : ℕ) (o : ℕ → Bool) (from : ℕ) (c : Cursor) : Type 0 where
  pub inside : 64 * c.word < most
  pub after : from ≤ place_of c.word c.rest
  pub is : T (o (place_of c.word c.rest))
  pub none : (w : ℕ) → from ≤ w → w < place_of c.word c.rest → T (o w) → ⊥
  pub left : Rest (λ j. o (64 * c.word + j)) (count_trailing_zeros 64 c.rest) c.rest

-- .. or, with nothing left, at the end of a row that has none from `from` on
pub record Stands (most : ℕ) (o : ℕ → Bool) (from : ℕ) (c : Cursor) : Type 0 where
  pub here : 0 < c.rest → Here most o from c
  pub ended : c.rest ≡ 0 → (w : ℕ) → from ≤ w → w < most → T (o w) → ⊥

-- the walk goes on from c to r: to what is left of the word without its first place, or else to the next words, as the row is now
pub record Further (most : ℕ) (o : ℕ → Bool) (c r : Cursor) : Type 0 where
  pub same : 0 < bit_and c.rest (c.rest - 1) → r ≡ record { word = c.word; rest = bit_and c.rest (c.rest - 1) }
  pub on : bit_and c.rest (c.rest - 1) ≡ 0 → Stands most o (64 * c.word + 64) r
