-- How large a rack is, and where each part of its bytes stands. Document 01 has one shape, `low`; the rosters are W-205's. Assumes nothing.
use Rattle.std.specs.Prelude.{◌≡◌, ℕ, suc, ◌+◌, ◌*◌, ◌%◌, ◌^◌, ◌≤◌, ◌<◌}

-- What differs from one kind of rack to another. All places follow from it.
pub record Shape : Type 0 where
  -- the most vertices that a rack has
  pub most : ℕ
  -- the levels from 0 on: a vertex has a count at each
  pub levels : ℕ
  -- the bytes of a count
  pub width : ℕ
  -- the bytes of a row of bits, one for each vertex; a roster is such a row
  pub row : ℕ
  -- how many of the bytes 6 and 7 are zero in every rack; the others hold what of the number of edges two bytes don't
  pub spare : ℕ

-- "n from 1 to 256", "a level from -1 to 3", "four bytes a board, its counts at 0, 1, 2, 3", "32 bytes a board, its row", "6 and 7 stay zero"
abbrev pub low : Shape
low = record { most = 256; levels = 4; width = 1; row = 32; spare = 2 }

-- Where the parts begin, one after the other: ranks, mates, counts, rows, rosters. Before them stand the numbers of vertices and edges.
abbrev pub ranks_from : ℕ
ranks_from = 8

abbrev pub mates_from : Shape → ℕ
mates_from S = ranks_from + S.most

abbrev pub phis_from : Shape → ℕ
phis_from S = mates_from S + 2 * S.most

abbrev pub rows_from : Shape → ℕ
rows_from S = phis_from S + S.width * (S.most * S.levels)

-- "The rack gains at offset 9,992 five rosters of 32 bytes, for levels -1 to 3": one for each rank
abbrev pub rosters_from : Shape → ℕ
rosters_from S = rows_from S + S.most * S.row

-- "Its length becomes 10,152"
abbrev pub rack_length : Shape → ℕ
rack_length S = rosters_from S + suc S.levels * S.row

-- What is asked of a shape.
pub record GoodShape (S : Shape) : Type 0 where
  -- a row has a bit for each vertex, and no other
  pub some : 1 ≤ S.row
  pub rows : S.most ≡ 8 * S.row
  -- no vertex is the marker of a free one
  pub named : S.most ≤ 65535
  -- a count, which is below `most`, fits its bytes
  pub wide : 1 ≤ S.width
  pub counts : S.most ≤ 256 ^ S.width
  -- a rank, which is at most the number of levels, fits a byte
  pub high : 1 ≤ S.levels
  pub ranks : S.levels ≤ 255
  -- a row is whole words of eight bytes
  pub words : S.row % 8 ≡ 0
  -- where a byte is spare, the number of edges fits the two bytes before
  pub spare : S.spare ≤ 2
  pub edges : 1 ≤ S.spare → S.most ≤ 256
  -- a settling takes at most one vertex for each vertex and level, and draws at most once for each vertex and once more in each taking: figures
  -- of four bytes count that far
  pub figures : suc S.most * (S.most * S.levels) < 4294967295
