-- Bytes with one field of the rack set. Callers use the laws of proofs/Images.antt, and need no offset. Assumes nothing.
use Rattle.std.specs.Prelude.{◌≡◌, ◌≢◌, Option, None, Some, ◌&&◌, List, [], ◌∷◌, ◌++◌, ℕ, zero, suc, ◌+◌, ◌-◌, ◌*◌, ◌/◌, ◌%◌, ◌≤◌, ltb, length, set, replicate}
use Rattle.model.specs.Shape.{Shape, ranks_from, mates_from, phis_from, rows_from, rosters_from, rack_length}
use Rattle.model.specs.State.{Kind, empty}
use Rattle.model.specs.Parts.{row_byte, Part, numbers, by_rows, bytes_of}
use Rattle.model.specs.Bytes.{half, no_mate, rank_at, parts, roster, fields_of}
use Rattle.bitset.specs.Row.{inserted, removed}
use Rattle.bitset.specs.Words.{stored}

-- the bytes are as many as a rack has
abbrev pub Sized : Shape → List ℕ → Type 0
Sized S bs = length bs ≡ rack_length S

-- r is where number i of a part stands that begins at `from` and has numbers of w bytes; it ends within the rack
pub record NumberAt (S : Shape) (from w i r : ℕ) : Type 0 where
  pub at : r ≡ from + w * i
  pub within : r + w ≤ rack_length S

-- "65,535 if free": the entry for a mate, and whether it is the entry for this one
abbrev pub entry_of : Option ℕ → ℕ
entry_of None = no_mate
entry_of (Some m) = m

abbrev pub MateIs : ℕ → Option ℕ → Type 0
MateIs entry None = entry ≡ no_mate
MateIs entry (Some m) = (m ≡ entry) × (m ≢ no_mate)

-- the number in the w bytes at k is x, low byte first
unfoldable pub set_num : ℕ → List ℕ → ℕ → ℕ → List ℕ
set_num zero bs k x = bs
set_num (suc zero) bs k x = set bs k x
set_num (suc (suc w)) bs k x = set_num (suc w) (set bs k (x % 256)) (k + 1) (x / 256)

-- the fields, each by its place: the number of edges, and the mate and the count at j of vertex v
unfoldable pub set_edges : Shape → List ℕ → ℕ → List ℕ
set_edges S bs x = set_num (2 - S.spare) (set_num 2 bs 2 (x % half)) (6 + S.spare) (x / half)

unfoldable pub set_mate : Shape → List ℕ → ℕ → ℕ → List ℕ
set_mate S bs v x = set_num 2 bs (mates_from S + 2 * v) x

unfoldable pub set_phi : Shape → List ℕ → ℕ → ℕ → ℕ → List ℕ
set_phi S bs v j x = set_num S.width bs (phis_from S + S.width * (S.levels * v + j)) x

-- Place w of row v, where rows of bits stand from byte `from` on: as one long row of bits, a place of the whole buffer.
abbrev pub place_in : Shape → ℕ → ℕ → ℕ → ℕ
place_in S from v w = 8 * (from + S.row * v) + w

-- the rank of v is x: it leaves the roster of its old rank for that of x
unfoldable pub set_rank : Shape → List ℕ → ℕ → ℕ → List ℕ
set_rank S bs v x =
    set (inserted (removed bs (place_in S (rosters_from S) (rank_at bs v) v)) (place_in S (rosters_from S) x v)) (ranks_from + v) x

-- v owns the edge v-w, or no longer does
abbrev pub row_place : Shape → ℕ → ℕ → ℕ
row_place S = place_in S (rows_from S)

abbrev pub own : Shape → List ℕ → ℕ → ℕ → List ℕ
own S bs v w = inserted bs (row_place S v w)

abbrev pub disown : Shape → List ℕ → ℕ → ℕ → List ℕ
disown S bs v w = removed bs (row_place S v w)

-- the 64 places of row v from 64 k on become the bits of x: eight bytes
abbrev pub set_word : Shape → List ℕ → ℕ → ℕ → ℕ → List ℕ
set_word S bs v k x = stored bs (rows_from S + S.row * v + 8 * k) x

-- numbers as those of part k
abbrev pub put : ℕ → (ℕ → ℕ) → List Part → List Part
put k g [] = []
put zero g (p ∷ ps) = numbers p.many p.width g ∷ ps
put (suc k) g (p ∷ ps) = p ∷ put k g ps

-- the kind of a rack whose settings are yet to be written
abbrev pub unset : Shape → Kind
unset S = record { shape = S; growth = 0; top = 0 }

-- that rack of n vertices with no edge, of whom those below m are in their roster so far
unfoldable pub enrolled : Shape → ℕ → ℕ → List ℕ
enrolled S n m =
    let f = fields_of (empty (unset S) n) in
    bytes_of (put 10 (by_rows S.row (λ r. row_byte (λ v. ltb v m && roster f r v))) (parts f))

-- every byte zero, but for the mates' entries, which name none
unfoldable pub blanked : Shape → List ℕ
blanked S = replicate (mates_from S) 0 ++ (replicate (2 * S.most) 255 ++ replicate (rack_length S - phis_from S) 0)
