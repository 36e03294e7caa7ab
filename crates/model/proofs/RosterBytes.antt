-- The rosters of three racks, computed to the byte. Assumes nothing.
use mathlib.Core.Path.{◌≡◌, refl}
use mathlib.Core.List.{◌∷◌, ◌++◌}
use lib.ListN.{drop, replicate}
use Rattle.model.specs.Counting.{sum, each_onto, each}
use Rattle.model.specs.Shape.{low, rosters_from}
use Rattle.model.specs.Parts.{num, row_byte, bytes_of}
use Rattle.model.specs.State.{rules, low_kind, empty}
use Rattle.model.specs.Bytes.{roster, image, fields_of, write}
use Rattle.model.specs.Record.{after}
use Rattle.model.proofs.Table.{built, computed}
use Rattle.model.proofs.Bench.{zeros, hub}
use Rattle.model.proofs.Example.{example}

-- A fresh rack of ten boards: all of them at level -1.
pub fresh-rosters : drop (rosters_from low) (write (empty low_kind 10)) ≡ 255 ∷ 3 ∷ replicate 158 0
unfolding write fields_of empty image bytes_of each each_onto num row_byte roster sum
fresh-rosters = refl

-- The last rack of the worked example, where 2 and 3 are paired at level 0, and the others idle.
pub example-rosters : drop (rosters_from low) (write (after (rules low_kind) (empty low_kind 4) example.changes)) ≡ 3 ∷ (replicate 31 0 ++ (12 ∷ replicate 127 0))
unfolding example zeros write fields_of image bytes_of num row_byte roster computed
example-rosters = refl

-- P4: 0 and 3 are paired at level 1, whose roster stands behind those of -1 and 0; board 1 has fallen.
pub hub-rosters : drop (rosters_from low) (write (built 5 hub)) ≡ 22 ∷ (replicate 63 0 ++ (9 ∷ replicate 95 0))
unfolding hub zeros write fields_of image bytes_of num row_byte roster computed
hub-rosters = refl
