-- Document 01, "Rack bytes", with the rosters of W-205 and the settings of W-207: how a rack of a given shape lies in its bytes, and what bytes say of a rack. The
-- offsets that the papers name are those of the shape `low`. Assumes nothing.
use Rattle.std.specs.Prelude.{Bool, true, false, ◌&&◌, List, [], ◌∷◌, ℕ, suc, ◌+◌, ◌-◌, ◌*◌, ◌/◌, ◌%◌, ◌^◌, leb, ltb, eqb, get_or}
use Rattle.model.specs.Shape.{Shape, ranks_from, mates_from, phis_from, rows_from, rosters_from}
use Rattle.model.specs.State.{Rules, Kind, State, phi, edges}
use Rattle.model.specs.Parts.{num_at, bit_of, row_byte, Part, numbers, by_rows, bytes_of}

-- "65,535 if idle"
abbrev pub no_mate : ℕ
no_mate = 65535

-- what a half of the number of edges, two bytes, can tell apart
abbrev pub half : ℕ
half = 65536

-- Reading.
-- "0: n, two bytes."
unfoldable pub size_at : List ℕ → ℕ
size_at bs = num_at 2 bs 0

-- "2: number of links, two bytes.", and what of the bytes 6 and 7 is not spare
unfoldable pub edges_at : Shape → List ℕ → ℕ
edges_at S bs = num_at 2 bs 2 + half * num_at (2 - S.spare) bs (6 + S.spare)

-- W-207: "kept in bytes 4 (g) and 5 (t)"
unfoldable pub growth_at : List ℕ → ℕ
growth_at bs = get_or bs 4 0

unfoldable pub top_at : List ℕ → ℕ
top_at bs = get_or bs 5 0

-- the kind of the rack that bytes of a given shape hold, and its rules
abbrev pub kind_at : Shape → List ℕ → Kind
kind_at S bs = record { shape = S; growth = growth_at bs; top = top_at bs }

abbrev pub rules_at : List ℕ → Rules
rules_at bs = record { top = top_at bs; thr = λ j. growth_at bs ^ j }

-- "8: one byte a board, level plus 1."
unfoldable pub rank_at : List ℕ → ℕ → ℕ
rank_at bs v = get_or bs (ranks_from + v) 0

-- "264: two bytes a board, the mate, 65,535 if idle."
unfoldable pub mate_at : Shape → List ℕ → ℕ → ℕ
mate_at S bs v = num_at 2 bs (mates_from S + 2 * v)

-- "776: four bytes a board, its counts at 0, 1, 2, 3."
unfoldable pub phi_at : Shape → List ℕ → ℕ → ℕ → ℕ
phi_at S bs v j = num_at S.width bs (phis_from S + S.width * (S.levels * v + j))

-- "Bit w mod 8 (bit 0 lowest) of byte w div 8": whether w is in row v of the rows of bits that stand from byte `from` on
abbrev pub in_row : Shape → List ℕ → ℕ → ℕ → ℕ → Bool
in_row S bs from v w = bit_of (get_or bs (from + (S.row * v + w / 8)) 0) (w % 8)

-- "1,800: 32 bytes a board, its row. Bit w mod 8 (bit 0 lowest) of byte w div 8 in row v is set if v owns the link v-w."
unfoldable pub owns_at : Shape → List ℕ → ℕ → ℕ → Bool
owns_at S bs v w = in_row S bs (rows_from S) v w

-- "at offset 9,992 five rosters of 32 bytes, for levels -1 to 3, with a board's bit laid out as in a row": whether v is in the roster of rank r
unfoldable pub roster_at : Shape → List ℕ → ℕ → ℕ → Bool
roster_at S bs r v = in_row S bs (rosters_from S) r v

-- the mate that the entry m of v names: v itself, if v is free
unfoldable pub named : ℕ → ℕ → ℕ
named v m = elim (eqb m no_mate) [ true ↦ v | false ↦ m ]

-- The rack that bytes hold: the entries of its n vertices. What stands in the entries from n on is no part of it.
unfoldable pub read : Shape → List ℕ → State
read S bs = let n = size_at bs in record {
  kind = kind_at S bs;
  n = n;
  rank = λ v. elim (ltb v n) [ true ↦ rank_at bs v | false ↦ 0 ];
  mate = λ v. elim (ltb v n) [ true ↦ named v (mate_at S bs v) | false ↦ v ];
  owns = λ v w. ltb v n && (ltb w n && owns_at S bs v w);
}

-- Writing.
-- What the bytes of a rack hold, field by field: its kind, n, the number of edges, and for each vertex its rank, the entry for its mate, its counts,
-- and its row.
pub record Fields : Type 0 where
  pub kind : Kind
  pub n : ℕ
  pub edges : ℕ
  pub rank : ℕ → ℕ
  pub mate : ℕ → ℕ
  pub phi : ℕ → ℕ → ℕ
  pub owns : ℕ → ℕ → Bool

-- The roster of rank r: "each board below n is in the roster of its level and in none besides, with the other bits clear"
unfoldable pub roster : Fields → ℕ → ℕ → Bool
roster f r v = ltb v f.n && eqb (f.rank v) r

-- W-207: "counts above t are 0": the counts as they are written
unfoldable pub up_to_top : ℕ → (ℕ → ℕ → ℕ) → ℕ → ℕ → ℕ
up_to_top top counts v j = elim (leb j top) [ true ↦ counts v j | false ↦ 0 ]

-- the fields, one after the other; of the bytes 6 and 7, "zero", those that are spare; the rosters are computed
abbrev pub parts : Fields → List Part
parts f =
    let S = f.kind.shape in
    numbers 1 2 (λ i. f.n)
    ∷ numbers 1 2 (λ i. f.edges % half)
    ∷ numbers 1 1 (λ i. f.kind.growth)
    ∷ numbers 1 1 (λ i. f.kind.top)
    ∷ numbers S.spare 1 (λ i. 0)
    ∷ numbers 1 (2 - S.spare) (λ i. f.edges / half)
    ∷ numbers S.most 1 f.rank
    ∷ numbers S.most 2 f.mate
    ∷ numbers (S.most * S.levels) S.width (by_rows S.levels (up_to_top f.kind.top f.phi))
    ∷ numbers (S.most * S.row) 1 (by_rows S.row (λ v. row_byte (f.owns v)))
    ∷ numbers (suc S.levels * S.row) 1 (by_rows S.row (λ r. row_byte (roster f r)))
    ∷ []

unfoldable pub image : Fields → List ℕ
image f = bytes_of (parts f)

-- the entry for v's mate
unfoldable pub mate_entry : State → ℕ → ℕ
mate_entry s v = elim (eqb (s.mate v) v) [ true ↦ no_mate | false ↦ s.mate v ]

-- the entry for v's count at j
abbrev pub phi_entry : State → ℕ → ℕ → ℕ
phi_entry s = up_to_top s.kind.top (phi s)

-- A rack, written. The number of edges, the counts and the rosters are computed: "Counts always agree with their definition after a move."
-- "Entries of boards n to 255 are level byte 0, mate 65,535, counts 0, empty row, and no row names them."
unfoldable pub fields_of : State → Fields
fields_of s = record { kind = s.kind; n = s.n; edges = edges s; rank = s.rank; mate = mate_entry s; phi = phi s; owns = s.owns }

unfoldable pub write : State → List ℕ
write s = image (fields_of s)
