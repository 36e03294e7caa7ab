-- Each field of an image, and of a rack that is written: one law of parts, a line a field. Assumes nothing.
use mathlib.Core.Bool.{◌&&◌}
use mathlib.Core.Path.{◌≡◌, sym, ap, ◌∙◌}
use mathlib.Core.Logic.{inl, inr}
use mathlib.Core.List.{List}
use Prim.Native.Nat.{ℕ, suc, ◌+◌, ◌-◌, ◌*◌, ◌/◌, ◌%◌, ◌^◌, ◌≤◌, ◌<◌}
use native.Mathlib.Nat.{div-add-mod}
use native.Mathlib.Omega.{arith}
use lib.Dec.{ltb, eqb}
use lib.ListN.{length, get_or}
use Rattle.model.specs.Shape.{Shape, GoodShape, ranks_from, mates_from, phis_from, rows_from, rosters_from, rack_length}
use Rattle.model.specs.State.{rules, State, phi, edges}
use Rattle.model.specs.Parts.{num_at, by_rows}
use Rattle.model.specs.Bytes.{half, size_at, edges_at, growth_at, top_at, kind_at, rules_at, rank_at, mate_at, phi_at, owns_at, roster_at, Fields, roster, parts, up_to_top, image, mate_entry, phi_entry, fields_of, write}
use Rattle.model.specs.Valid.{IsBytes}
use Rattle.model.proofs.Tests.{eq?}
use Rattle.model.proofs.Chunks.{row_byte-small}
use Rattle.model.proofs.Limits.{edges_fit, up_to-low, up_to-le, phi_entry-low}
use Rattle.model.proofs.Rows.{Rows, rows-bit, bits-rows}
use Rattle.model.proofs.Parts.{rows_at, rows_inside, in_rows, bytes-length, next, Has, bytes-number, bytes-are, Fit, bytes_small}

-- the number that stands at k, which is m
pub num-at : (w : ℕ) (bs : List ℕ) (k m : ℕ) {x : ℕ} → k ≡ m → num_at w bs m ≡ x → num_at w bs k ≡ x
num-at w bs k m e p = ap (num_at w bs) e ∙ p

module _ (f : Fields) (good : GoodShape f.kind.shape) where
  abbrev shape : Shape
  shape = f.kind.shape

  pub image-length : length (image f) ≡ rack_length shape
  unfolding image
  image-length = bytes-length (parts f) ∙ omega (arith, good.spare)

  pub size-image : size_at (image f) ≡ f.n
  unfolding size_at image
  size-image = bytes-number 0 (parts f) 0 0 (omega arith) (omega arith) (omega arith)

  low-image : num_at 2 (image f) 2 ≡ f.edges % half
  unfolding image
  low-image = bytes-number 1 (parts f) 0 2 (omega arith) (omega arith) (omega arith)

  -- of the number of edges all is there, since it fits two bytes where the others are spare
  high-image : f.edges / half < 256 ^ (2 - shape.spare) → num_at (2 - shape.spare) (image f) (6 + shape.spare) ≡ f.edges / half
  unfolding image num_at
  high-image small = elim (eq? shape.spare 2) [
    | inl e ↦ ap (λ (x : ℕ). num_at (2 - x) (image f) (6 + shape.spare)) e ∙ omega (arith, ap (λ (x : ℕ). 256 ^ (2 - x)) e)
    | inr d ↦ bytes-number 5 (parts f) 0 (6 + shape.spare) (omega arith) (omega (arith, good.spare)) (omega arith)
  ]

  pub edges-image : f.edges / half < 256 ^ (2 - shape.spare) → edges_at shape (image f) ≡ f.edges
  unfolding edges_at
  edges-image small = omega (arith, low-image, high-image small)

  pub growth-image : growth_at (image f) ≡ f.kind.growth
  unfolding growth_at image num_at
  growth-image = bytes-number 2 (parts f) 0 4 (omega arith) (omega arith) (omega arith)

  pub top-image : top_at (image f) ≡ f.kind.top
  unfolding top_at image num_at
  top-image = bytes-number 3 (parts f) 0 5 (omega arith) (omega arith) (omega arith)

  pub spare-image : (k : ℕ) → k < shape.spare → get_or (image f) (6 + k) 0 ≡ 0
  unfolding image num_at
  spare-image k l = bytes-number 4 (parts f) k (6 + k) l (omega arith) (omega arith)

  pub rank-image : (v : ℕ) → v < shape.most → rank_at (image f) v ≡ f.rank v
  unfolding rank_at image num_at
  rank-image v l = bytes-number 6 (parts f) v (ranks_from + v) l (omega arith) (omega (arith, good.spare))

  pub mate-image : (v : ℕ) → v < shape.most → mate_at shape (image f) v ≡ f.mate v
  unfolding mate_at image
  mate-image v l = bytes-number 7 (parts f) v (mates_from shape + 2 * v) l (omega arith) (omega (arith, good.spare))

  pub entry-image : (v j : ℕ) → v < shape.most → j < shape.levels → phi_at shape (image f) v j ≡ up_to_top f.kind.top f.phi v j
  unfolding phi_at image
  entry-image v j l h =
      let i : ℕ = shape.levels * v + j in
      bytes-number 8 (parts f) i (phis_from shape + shape.width * i) (rows_inside shape.most shape.levels v j l h) good.wide
      (omega (arith, good.spare))
      ∙ rows_at (up_to_top f.kind.top f.phi) shape.levels v j h

  pub phi-image : (v j : ℕ) → v < shape.most → j < shape.levels → j ≤ f.kind.top → phi_at shape (image f) v j ≡ f.phi v j
  phi-image v j l h k = entry-image v j l h ∙ up_to-low f.kind.top f.phi v j k

  rows-image : Rows shape (image f) (rows_from shape) shape.most f.owns
  unfolding image num_at
  rows-image i l = bytes-number 9 (parts f) i (rows_from shape + i) l (omega arith) (omega (arith, good.spare))

  pub owns-image : (v w : ℕ) → v < shape.most → w < shape.most → owns_at shape (image f) v w ≡ f.owns v w
  unfolding owns_at
  owns-image = rows-bit good (image f) (rows_from shape) shape.most f.owns rows-image

  rosters-image : Rows shape (image f) (rosters_from shape) (suc shape.levels) (roster f)
  unfolding image num_at
  rosters-image i l = bytes-number 10 (parts f) i (rosters_from shape + i) l (omega arith) (omega (arith, good.spare))

  pub roster-image : (r v : ℕ) → r < suc shape.levels → v < shape.most → roster_at shape (image f) r v ≡ roster f r v
  unfolding roster_at
  roster-image = rows-bit good (image f) (rosters_from shape) (suc shape.levels) (roster f) rosters-image

-- ---- bytes that show the fields are their image

pub record Shows (f : Fields) (bs : List ℕ) : Type 0 where
  pub size : size_at bs ≡ f.n
  pub edges : edges_at f.kind.shape bs ≡ f.edges
  pub growth : growth_at bs ≡ f.kind.growth
  pub top : top_at bs ≡ f.kind.top
  pub spare : (k : ℕ) → k < f.kind.shape.spare → get_or bs (6 + k) 0 ≡ 0
  pub rank : (v : ℕ) → v < f.kind.shape.most → rank_at bs v ≡ f.rank v
  pub mate : (v : ℕ) → v < f.kind.shape.most → mate_at f.kind.shape bs v ≡ f.mate v
  pub phi : (v j : ℕ) → v < f.kind.shape.most → j < f.kind.shape.levels → phi_at f.kind.shape bs v j ≡ up_to_top f.kind.top f.phi v j
  pub owns : (v w : ℕ) → v < f.kind.shape.most → w < f.kind.shape.most → owns_at f.kind.shape bs v w ≡ f.owns v w
  pub roster : (r v : ℕ) → r < suc f.kind.shape.levels → v < f.kind.shape.most → roster_at f.kind.shape bs r v ≡ roster f r v

module _ (f : Fields) (good : GoodShape f.kind.shape) (bs : List ℕ) (bytes : IsBytes bs) (shows : Shows f bs) where
  abbrev S : Shape
  S = f.kind.shape

  -- both halves of the number of edges
  low_small : num_at 2 bs 2 < half
  unfolding num_at
  low_small = omega (arith, bytes 2, bytes 3)

  shown-phi : (i : ℕ) → i < S.most * S.levels → num_at S.width bs (phis_from S + S.width * i) ≡ by_rows S.levels (up_to_top f.kind.top f.phi) i
  unfolding phi_at
  shown-phi i l =
      let p = in_rows S.most S.levels i l in
      let e : i ≡ S.levels * (i / S.levels) + i % S.levels = sym (div-add-mod i S.levels) in
      ap (λ (x : ℕ). num_at S.width bs (phis_from S + S.width * x)) e ∙ shows.phi (i / S.levels) (i % S.levels) p.0 p.1

  shown-row : Rows S bs (rows_from S) S.most f.owns
  unfolding owns_at
  shown-row = bits-rows good bs (rows_from S) S.most f.owns bytes shows.owns

  shown-roster : Rows S bs (rosters_from S) (suc S.levels) (roster f)
  unfolding roster_at
  shown-roster = bits-rows good bs (rosters_from S) (suc S.levels) (roster f) bytes shows.roster

  pub image-is : length bs ≡ rack_length S → bs ≡ image f
  unfolding image Has size_at edges_at growth_at top_at rank_at mate_at num_at
  image-is e =
      bytes-are (parts f) bs bytes (omega (arith, good.spare))
      (next (λ i l w. num-at 2 bs _ 0 (omega arith) shows.size)
      (next (λ i l w. num-at 2 bs _ 2 (omega arith) (omega (arith, shows.edges, low_small)))
      (next (λ i l w. num-at 1 bs _ 4 (omega arith) shows.growth)
      (next (λ i l w. num-at 1 bs _ 5 (omega arith) shows.top)
      (next (λ i l w. num-at 1 bs _ (6 + i) (omega arith) (shows.spare i l))
      (next (λ i l w.
      let z : i ≡ 0 = omega arith in
      num-at (2 - S.spare) bs _ (6 + S.spare) (omega (arith, ap (λ (x : ℕ). (2 - S.spare) * x) z)) (omega (arith, shows.edges, low_small)))
      (next (λ i l w. num-at 1 bs _ (ranks_from + i) (omega (arith, good.spare)) (shows.rank i l))
      (next (λ i l w. num-at 2 bs _ (mates_from S + 2 * i) (omega (arith, good.spare)) (shows.mate i l))
      (next (λ i l w. num-at S.width bs _ (phis_from S + S.width * i) (omega (arith, good.spare)) (shown-phi i l))
      (next (λ i l w. num-at 1 bs _ (rows_from S + i) (omega (arith, good.spare)) (shown-row i l))
      (next (λ i l w. num-at 1 bs _ (rosters_from S + i) (omega (arith, good.spare)) (shown-roster i l)) tt)))))))))))

-- ---- when what is written is bytes

-- fields that fit their places
pub record Fits (f : Fields) : Type 0 where
  pub n : f.n < half
  pub edges : f.edges / half < 256 ^ (2 - f.kind.shape.spare)
  pub growth : f.kind.growth < 256
  pub top : f.kind.top < 256
  pub rank : (v : ℕ) → v < f.kind.shape.most → f.rank v < 256
  pub mate : (v : ℕ) → v < f.kind.shape.most → f.mate v < half
  pub phi : (v j : ℕ) → v < f.kind.shape.most → j < f.kind.shape.levels → f.phi v j < 256 ^ f.kind.shape.width

pub image-bytes : (f : Fields) → GoodShape f.kind.shape → Fits f → IsBytes (image f)
unfolding image Fit
image-bytes f good h =
    let S : Shape = f.kind.shape in
    bytes_small (parts f)
    (next (λ i l. h.n)
    (next (λ i l. omega arith)
    (next (λ i l. h.growth)
    (next (λ i l. h.top)
    (next (λ i l. omega arith)
    (next (λ i l. h.edges)
    (next h.rank
    (next h.mate
    (next (λ i l. let p = in_rows S.most S.levels i l in
    omega (arith, up_to-le f.kind.top f.phi (i / S.levels) (i % S.levels), h.phi (i / S.levels) (i % S.levels) p.0 p.1))
    (next (λ i l. row_byte-small (f.owns (i / S.row)) (i % S.row))
    (next (λ i l. row_byte-small (roster f (i / S.row)) (i % S.row)) tt)))))))))))

-- ---- a rack, written

module _ (s : State) (good : GoodShape s.kind.shape) where
  abbrev of : Shape
  of = s.kind.shape

  pub write-length : length (write s) ≡ rack_length of
  unfolding write fields_of
  write-length = image-length (fields_of s) good

  pub size-write : size_at (write s) ≡ s.n
  unfolding write fields_of
  size-write = size-image (fields_of s) good

  pub edges-write : s.n ≤ of.most → edges_at of (write s) ≡ edges s
  unfolding write fields_of
  edges-write few = edges-image (fields_of s) good (edges_fit s good few)

  pub growth-write : growth_at (write s) ≡ s.kind.growth
  unfolding write fields_of
  growth-write = growth-image (fields_of s) good

  pub top-write : top_at (write s) ≡ s.kind.top
  unfolding write fields_of
  top-write = top-image (fields_of s) good

  pub kind-write : kind_at of (write s) ≡ s.kind
  kind-write i = record { shape = of; growth = growth-write i; top = top-write i }

  pub rules-write : rules_at (write s) ≡ rules s.kind
  rules-write = ap rules kind-write

  pub spare-write : (k : ℕ) → k < of.spare → get_or (write s) (6 + k) 0 ≡ 0
  unfolding write fields_of
  spare-write = spare-image (fields_of s) good

  pub rank-write : (v : ℕ) → v < of.most → rank_at (write s) v ≡ s.rank v
  unfolding write fields_of
  rank-write = rank-image (fields_of s) good

  pub mate-write : (v : ℕ) → v < of.most → mate_at of (write s) v ≡ mate_entry s v
  unfolding write fields_of
  mate-write = mate-image (fields_of s) good

  pub entry-write : (v j : ℕ) → v < of.most → j < of.levels → phi_at of (write s) v j ≡ phi_entry s v j
  unfolding write fields_of
  entry-write = entry-image (fields_of s) good

  pub phi-write : (v j : ℕ) → v < of.most → j < of.levels → j ≤ s.kind.top → phi_at of (write s) v j ≡ phi s v j
  phi-write v j l h k = entry-write v j l h ∙ phi_entry-low s v j k

  pub owns-write : (v w : ℕ) → v < of.most → w < of.most → owns_at of (write s) v w ≡ s.owns v w
  unfolding write fields_of
  owns-write = owns-image (fields_of s) good

  pub roster-write : (r v : ℕ) → r < suc of.levels → v < of.most → roster_at of (write s) r v ≡ (ltb v s.n && eqb (s.rank v) r)
  unfolding write fields_of roster
  roster-write = roster-image (fields_of s) good
