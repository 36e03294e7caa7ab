-- W-207: cases at growth 2, growth 8, top level 0 and top level 3, computed from the definitions as the bench cases are; the bytes of the settings and
-- of counts above the top; line 1 in both its forms; and which of 5 and 13 comes first. Assumes nothing.
use mathlib.Core.Path.{◌≡◌, refl}
use mathlib.Core.List.{List, [], ◌∷◌, map}
use lib.ListN.{take, drop}
use Rattle.model.specs.Counting.{sum, each_onto, each}
use Rattle.model.specs.Shape.{low, phis_from}
use Rattle.model.specs.Parts.{num, bytes_of}
use Rattle.model.specs.State.{low_kind, low_with, edges, empty}
use Rattle.model.specs.Bytes.{up_to_top, image, mate_entry, fields_of, write}
use Rattle.model.specs.Sound.{size_good, settings_good}
use Rattle.model.specs.Change.{Change}
use Rattle.model.specs.Calls.{asked_number}
use Rattle.model.specs.Text.{bytes, decimal_in, decimal}
use Rattle.model.specs.Trace.{short, long, settings_text, rack_line}
use Rattle.model.proofs.Table.{Row, built_as, made_as, computed, expected, adds, drops, pair}
use Rattle.model.proofs.Bench.{zeros, star}

-- seven links of board 0
unfoldable pub seven : List Change
seven =
    adds 0 1 zeros ∷ adds 0 2 zeros ∷ adds 0 3 zeros ∷ adds 0 4 zeros ∷ adds 0 5 zeros ∷ adds 0 6 zeros ∷ adds 0 7 zeros ∷ []

unfoldable pub settings : List Row
settings =
    -- growth 2, "base 2": two neighbours reach level 1, and 0 rises, draws 2 and leaves 1, which falls ..
    made_as (low_with 2 3) 3 (adds 0 1 zeros ∷ []) (adds 0 2 (1 ∷ zeros)) 0 1 1 (pair 0 2 1 ∷ []) (2 ∷ 0 ∷ 2 ∷ []) ∷
    -- .. where at 4 nobody rises
    made_as low_kind 3 (adds 0 1 zeros ∷ []) (adds 0 2 (1 ∷ zeros)) 0 0 0 (pair 0 1 0 ∷ []) (1 ∷ 1 ∷ 0 ∷ []) ∷
    -- growth 8: the fourth link of P4 raises nobody ..
    made_as (low_with 8 3) 5 star (adds 0 4 (2 ∷ 0 ∷ [])) 0 0 0 (pair 0 1 0 ∷ []) (1 ∷ 1 ∷ 0 ∷ 0 ∷ 0 ∷ []) ∷
    -- .. and the eighth does: 0 draws 4 at level 1
    made_as (low_with 8 3) 9 seven (adds 0 8 (3 ∷ 0 ∷ [])) 0 1 1 (pair 0 4 1 ∷ []) (2 ∷ 0 ∷ 0 ∷ 0 ∷ 2 ∷ 0 ∷ 0 ∷ 0 ∷ 0 ∷ []) ∷
    -- top 0: there is no level 1 to rise to ..
    made_as (low_with 4 0) 5 star (adds 0 4 (2 ∷ 0 ∷ [])) 0 0 0 (pair 0 1 0 ∷ []) (1 ∷ 1 ∷ 0 ∷ 0 ∷ 0 ∷ []) ∷
    -- .. and a pair parted there is settled at level 0
    made_as (low_with 4 0) 5 star (drops 0 1 zeros) 0 1 1 (pair 0 2 0 ∷ []) (1 ∷ 0 ∷ 1 ∷ 0 ∷ 0 ∷ []) ∷
    -- top 3: by growth 2 the eighth link leads to level 3 ..
    made_as (low_with 2 3) 9 seven (adds 0 8 zeros) 0 1 0 (pair 0 1 3 ∷ []) (4 ∷ 4 ∷ 0 ∷ 0 ∷ 0 ∷ 0 ∷ 0 ∷ 0 ∷ 0 ∷ []) ∷
    -- .. and with top 2 the levels stop one lower
    made_as (low_with 2 2) 9 seven (adds 0 8 zeros) 0 0 0 (pair 0 1 2 ∷ []) (3 ∷ 3 ∷ 0 ∷ 0 ∷ 0 ∷ 0 ∷ 0 ∷ 0 ∷ 0 ∷ []) ∷ []

pub settings-hold : map computed settings ≡ map expected settings
unfolding settings seven star zeros computed
settings-hold = refl

-- "kept in bytes 4 (g) and 5 (t)", "6 and 7 stay zero"
pub settings-bytes : take 8 (write (empty (low_with 2 1) 10)) ≡ 10 ∷ 0 ∷ 0 ∷ 0 ∷ 2 ∷ 1 ∷ 0 ∷ 0 ∷ []
unfolding write fields_of empty edges image bytes_of each each_onto num sum computed
settings-bytes = refl

-- "counts above t are 0": those of board 0 with three neighbours below, at top 3 and at top 1
pub counts-bytes : (take 4 (drop (phis_from low) (write (built_as low_kind 5 star))) ≡ 0 ∷ 3 ∷ 3 ∷ 3 ∷ [])
    × (take 4 (drop (phis_from low) (write (built_as (low_with 4 1) 5 star))) ≡ 0 ∷ 3 ∷ 0 ∷ 0 ∷ [])
unfolding star zeros write fields_of image up_to_top bytes_of num mate_entry computed
counts-bytes = (refl, refl)

-- line 1 in its short and in its long form
pub lines : (rack_line 4 short ≡ bytes "(rack (boards 4))\n") × (rack_line 4 (long 2 3) ≡ bytes "(rack (boards 4) (growth 2) (top 3))\n")
unfolding rack_line settings_text decimal decimal_in
lines = (refl, refl)

-- "A setting outside its range is number 13, looked at just after 5"
pub asked : (asked_number (low_with 9 4) 0 ≡ 5) × (asked_number (low_with 1 3) 4 ≡ 13) × (asked_number (low_with 9 3) 4 ≡ 13)
    × (asked_number (low_with 2 4) 4 ≡ 13) × (asked_number (low_with 2 0) 1 ≡ 0) × (asked_number (low_with 8 3) 256 ≡ 0)
unfolding asked_number size_good settings_good
asked = (refl, refl, refl, refl, refl, refl)
