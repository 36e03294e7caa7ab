-- The shape of document 01 has what is asked of a shape; and bytes of another shape, computed, with what `low` has no use for: counts of two
-- bytes, and more edges than two bytes can tell. Assumes nothing.
use mathlib.Core.Path.{◌≡◌, refl}
use mathlib.Core.Bool.{◌&&◌}
use mathlib.Core.List.{[], ◌∷◌}
use Prim.Native.Nat.{ℕ, ◌+◌, ◌*◌, ◌%◌, ◌≤◌, ◌<◌}
use native.Mathlib.Nat.{one-le-pow, pow-zero}
use native.Mathlib.Omega.{arith}
use lib.Dec.{eqb}
use lib.ListN.{take, drop}
use Rattle.model.specs.Counting.{sum, each_onto, each}
use Rattle.model.specs.Parts.{num_at, num, row_byte, bytes_of}
use Rattle.model.specs.Shape.{Shape, GoodShape, low, mates_from, phis_from, rows_from, rosters_from, rack_length}
use Rattle.model.specs.State.{Kind, rules, GoodKind, low_with, least_growth, most_growth}
use Rattle.model.specs.Bytes.{edges_at, mate_at, phi_at, Fields, roster, up_to_top, image}

pub low-good : GoodShape low
low-good = record {
  some = omega arith;
  rows = refl;
  named = omega arith;
  wide = omega arith;
  counts = omega arith;
  high = omega arith;
  ranks = omega arith;
  words = refl;
  spare = omega arith;
  edges = λ _. omega arith;
  figures = omega arith;
}

-- and so has its kind with any settings in their ranges
pub low-kind : (growth top : ℕ) → least_growth ≤ growth → growth ≤ most_growth → top < low.levels → GoodKind (low_with growth top)
low-kind growth top a b c = record { shape = low-good; range = record { least = a; most = b; room = c } }

-- every threshold of a good kind is at least 1, and that of level 0 is 1
pub thr-pos : {K : Kind} → GoodKind K → (j : ℕ) → 1 ≤ (rules K).thr j
thr-pos {K} good j = one-le-pow j K.growth (omega (arith, good.range.least))

pub thr-one : (K : Kind) → (rules K).thr 0 ≡ 1
thr-one K = pow-zero K.growth

-- "8: one byte a board", "264: two bytes a board", "776: four bytes a board", "1,800: 32 bytes a board"; "at offset 9,992 five rosters", "Its
-- length becomes 10,152"
pub low-places : (mates_from low ≡ 264) × (phis_from low ≡ 776) × (rows_from low ≡ 1800) × (rosters_from low ≡ 9992) × (rack_length low ≡ 10152)
low-places = (refl, refl, refl, refl, refl)

-- ---- another shape

unfoldable pub other : Shape
other = record { most = 64; levels = 3; width = 2; row = 8; spare = 0 }

pub other-good : GoodShape other
unfolding other
other-good = record {
  some = omega arith;
  rows = refl;
  named = omega arith;
  wide = omega arith;
  counts = omega arith;
  high = omega arith;
  ranks = omega arith;
  words = refl;
  spare = omega arith;
  edges = λ h. absurd (omega arith);
  figures = omega arith;
}

-- fields, no rack's: but for the ranks, a number in each place that tells where it stands
unfoldable pub marked : Fields
unfolding other
marked = record {
  kind = record { shape = other; growth = 5; top = 1 };
  n = 5;
  edges = 70000;
  rank = λ v. v % 3;
  mate = λ v. 1000 + v;
  phi = λ v j. 300 * v + j;
  owns = λ v w. eqb v 2 && eqb w 13;
}

-- n, the settings, and the number of edges: 70,000 is 4,464, which is 112 and 256 times 17, and 65,536 once
pub marked-head : take 8 (image marked) ≡ 5 ∷ 0 ∷ 112 ∷ 17 ∷ 5 ∷ 1 ∷ 1 ∷ 0 ∷ []
unfolding marked other image bytes_of each each_onto num
marked-head = refl

-- the counts of vertex 1, two bytes each: 300, 301, and 0 for 302, which is above the top
pub marked-counts : take 6 (drop (phis_from other + 6) (image marked)) ≡ 44 ∷ 1 ∷ 45 ∷ 1 ∷ 0 ∷ 0 ∷ []
unfolding marked other image up_to_top bytes_of each each_onto num
marked-counts = refl

-- row 2, where bit 5 of the second byte is set, ends as the rows do
pub marked_row : take 8 (drop (rows_from other + 16) (image marked)) ≡ 0 ∷ 32 ∷ 0 ∷ 0 ∷ 0 ∷ 0 ∷ 0 ∷ 0 ∷ []
unfolding marked other image bytes_of each each_onto num row_byte sum
marked_row = refl

-- the roster of rank 2: of the five vertices 2 alone has it, and 5, which has it too, is none
pub marked-roster : take 8 (drop (rosters_from other + 16) (image marked)) ≡ 4 ∷ 0 ∷ 0 ∷ 0 ∷ 0 ∷ 0 ∷ 0 ∷ 0 ∷ []
unfolding marked other image bytes_of each each_onto num row_byte roster sum
marked-roster = refl

-- and they are read where they were written
pub marked-read : (edges_at other (image marked) ≡ 70000) × (mate_at other (image marked) 63 ≡ 1063) × (phi_at other (image marked) 4 1 ≡ 1201)
unfolding marked other image up_to_top bytes_of each each_onto num num_at edges_at mate_at phi_at
marked-read = (refl, refl, refl)
