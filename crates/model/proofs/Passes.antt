-- Document 02, W-206: rows in which a word is passed over, and in which the words run out. Computed from the definitions, as the bench cases
-- are. Assumes nothing.
use mathlib.Core.Path.{◌≡◌, refl}
use mathlib.Core.List.{List, [], ◌∷◌, map}
use Rattle.model.specs.Change.{Change}
use Rattle.model.proofs.Table.{Row, made, computed, expected, adds, drops, pair}
use Rattle.model.proofs.Bench.{zeros}

-- 0 and 1 are mates on level 1, and 0 has five neighbours more, so that T is 2^32 - 1
unfoldable pub wheel : List Change
wheel = adds 0 1 zeros ∷ adds 0 2 [] ∷ adds 0 3 [] ∷ adds 0 4 (0 ∷ []) ∷ adds 0 5 [] ∷ adds 0 6 [] ∷ []

-- 0 and 1 are mates on level 0, each with a neighbour more
unfoldable pub path : List Change
path = adds 0 1 zeros ∷ adds 0 2 [] ∷ adds 1 3 [] ∷ []

unfoldable pub passes : List Row
passes =
    -- "a word of T or more is used up and the next is tried", and counted: 2^32 - 1 is passed over, and 7 chooses 4, at place 2 among 2 to 6
    made 7 wheel (drops 0 1 (4294967295 ∷ 7 ∷ [])) 0 2 2 (pair 0 4 1 ∷ []) (2 ∷ 0 ∷ 0 ∷ 0 ∷ 2 ∷ 0 ∷ 0 ∷ []) ∷
    -- "A word below T chooses place word mod k": 2^32 - 2 does, and chooses 6, at place 4
    made 7 wheel (drops 0 1 (4294967294 ∷ [])) 0 1 2 (pair 0 6 1 ∷ []) (2 ∷ 0 ∷ 0 ∷ 0 ∷ 0 ∷ 0 ∷ 2 ∷ []) ∷
    -- "Words beyond them are ignored."
    made 7 wheel (drops 0 1 (7 ∷ 4294967295 ∷ 3 ∷ [])) 0 1 2 (pair 0 4 1 ∷ []) (2 ∷ 0 ∷ 0 ∷ 0 ∷ 2 ∷ 0 ∷ 0 ∷ []) ∷
    -- "A change is carried out only if its words suffice, and otherwise the rack keeps its bytes.": the one word is passed over
    made 7 wheel (drops 0 1 (4294967295 ∷ [])) 12 0 0 (pair 0 1 1 ∷ []) (2 ∷ 2 ∷ 0 ∷ 0 ∷ 0 ∷ 0 ∷ 0 ∷ []) ∷
    -- .. and here the first of two draws is made before the words run out
    made 4 path (drops 0 1 (0 ∷ [])) 12 0 0 (pair 0 1 0 ∷ []) (1 ∷ 1 ∷ 0 ∷ 0 ∷ []) ∷
    made 4 path (drops 0 1 zeros) 0 2 0 (pair 0 2 0 ∷ pair 1 3 0 ∷ []) (1 ∷ 1 ∷ 1 ∷ 1 ∷ []) ∷
    -- a change that draws nothing needs no word
    made 7 wheel (drops 0 6 []) 0 0 0 (pair 0 1 1 ∷ []) (2 ∷ 2 ∷ 0 ∷ 0 ∷ 0 ∷ 0 ∷ 0 ∷ []) ∷
    -- 12 "remains last"
    made 7 wheel (adds 0 6 []) 10 0 0 (pair 0 1 1 ∷ []) (2 ∷ 2 ∷ 0 ∷ 0 ∷ 0 ∷ 0 ∷ 0 ∷ []) ∷
    made 7 wheel (drops 1 2 []) 11 0 0 (pair 0 1 1 ∷ []) (2 ∷ 2 ∷ 0 ∷ 0 ∷ 0 ∷ 0 ∷ 0 ∷ []) ∷ []

pub passes-hold : map computed passes ≡ map expected passes
unfolding passes wheel path zeros computed
passes-hold = refl
