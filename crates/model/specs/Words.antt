-- Document 02, W-206: which word of those lent decides a draw, and which words are passed over. Assumes nothing.
use Rattle.std.specs.Prelude.{Bool, true, false, List, [], ◌∷◌, ℕ, suc, ◌+◌, ◌*◌, ◌/◌, ◌%◌, ◌^◌, ltb, get_or, drop}

-- "A draw word is 32 bits, unsigned.": there are so many words
unfoldable pub all_words : ℕ
all_words = 2 ^ 32

-- "For k neighbours let T be the largest multiple of k that is at most 2^32."
unfoldable pub limit : ℕ → ℕ
limit k = all_words / k * k

-- "A word below T chooses place word mod k"
unfoldable pub chooses : ℕ → ℕ → Bool
chooses k w = ltb w (limit k)

-- "a word of T or more is used up and the next is tried": how many words are passed over before one that chooses among k, or before the end
unfoldable pub passed : ℕ → List ℕ → ℕ
passed k [] = 0
passed k (w ∷ l) = elim (chooses k w) [ true ↦ 0 | false ↦ suc (passed k l) ]

-- the number of the word that decides among k, from 0, where `used` words were used before. If it is past the last word, the change has run
-- out of words (`runs_out` in Change.antt).
unfoldable pub deciding : List ℕ → ℕ → ℕ → ℕ
deciding words used k = used + passed k (drop used words)

-- the place that it chooses, "places from 0". Past the last word 0 stands here; that this has no say is shown (theory, proofs/Beyond.antt).
unfoldable pub place : List ℕ → ℕ → ℕ → ℕ
place words used k = get_or words (deciding words used k) 0 % k
