-- Document 01, "Where hands go wrong": a row for each slip, in which it would show. Computed from the definitions, as the bench cases are.
-- Assumes nothing.
use mathlib.Core.Path.{◌≡◌, refl}
use mathlib.Core.Bool.{◌&&◌, ◌||◌, cond}
use mathlib.Core.List.{List, [], ◌∷◌, map}
use Prim.Native.Nat.{ℕ, ◌+◌, ◌-◌, ◌%◌}
use native.Mathlib.Omega.{arith}
use lib.Dec.{T, eqb, leb}
use Rattle.model.specs.Counting.{sum, count, every}
use Rattle.model.specs.Shape.{low}
use Rattle.model.specs.State.{State, edge, near, below, phi}
use Rattle.model.specs.Bytes.{write}
use Rattle.model.specs.Sound.{sound}
use Rattle.model.specs.Change.{Change}
use Rattle.model.proofs.Tested.{tested, laid, laid-sound}
use Rattle.model.proofs.Table.{Row, from, made, computed, expected, adds, drops, pair}
use Rattle.model.proofs.Bench.{zeros, star, hub}

-- Vertex 0 is paired with 1 on level 0 and has two free neighbours, 2 and 3; its other neighbours, 5 to 16, are paired on level 1 and
-- own their links to 0. So a fifth neighbour makes its count 4 at level 1 and 16 at level 2 at once.
unfoldable pub crowd : State
crowd = laid 4 3 17
    (λ v. cond (leb v 1) 1 (cond (leb v 4) 0 2))
    (λ v. cond (eqb v 0) 1 (cond (eqb v 1) 0 (cond (leb v 4) v (cond (eqb (v % 2) 1) (v + 1) (v - 1)))))
    (λ v w. eqb v 0 && (leb 1 w && leb w 3) || leb 5 v && (eqb w 0 || eqb (v % 2) 1 && eqb w (v + 1)))

pub crowd-sound : T (sound low (write crowd))
unfolding crowd
crowd-sound = laid-sound 4 3 17 _ _ _ (omega arith) (omega arith) (omega arith) (omega arith) (omega arith) (unfold laid tested every sum count edge near below phi in tt)

words : List ℕ
words = 1 ∷ 0 ∷ 0 ∷ 0 ∷ 0 ∷ 0 ∷ 0 ∷ 0 ∷ []

-- 3 owns its links to 4 alone, and not those to 0 and 2, which stand on its level
tied : List Change
tied = adds 0 1 (0 ∷ zeros) ∷ adds 2 3 (0 ∷ zeros) ∷ adds 0 3 (0 ∷ zeros) ∷ adds 3 4 (0 ∷ zeros) ∷ []

unfoldable pub hands : List Row
unfolding words tied
hands =
    -- "Forgetting the riser's own former mate.": 1, the mate of 0, waits and falls
    made 5 star (adds 0 4 (2 ∷ 0 ∷ [])) 0 1 1 (pair 0 3 1 ∷ []) (2 ∷ 0 ∷ 0 ∷ 2 ∷ 0 ∷ []) ∷
    -- "Counting neighbours of equal level in the fall test.": 1 falls, though 2, which stands on its level, is its neighbour
    made 4 (adds 0 1 zeros ∷ adds 1 2 zeros ∷ adds 2 3 zeros ∷ []) (drops 0 1 zeros) 0 0 2 (pair 2 3 0 ∷ []) (0 ∷ 0 ∷ 1 ∷ 1 ∷ []) ∷
    -- "Lowering a board because a loose link went (P7)."
    made 5 hub (drops 0 1 zeros) 0 0 0 (pair 0 3 1 ∷ []) (2 ∷ 0 ∷ 0 ∷ 2 ∷ 0 ∷ []) ∷
    -- "Rising to the lowest level reached in place of the highest.": 0 rises to 2, not to 1
    from crowd (adds 0 4 words) 0 1 1
    (pair 0 2 2 ∷ pair 5 6 1 ∷ pair 7 8 1 ∷ pair 9 10 1 ∷ pair 11 12 1 ∷ pair 13 14 1 ∷ pair 15 16 1 ∷ [])
    (3 ∷ 0 ∷ 3 ∷ 0 ∷ 0 ∷ 2 ∷ 2 ∷ 2 ∷ 2 ∷ 2 ∷ 2 ∷ 2 ∷ 2 ∷ 2 ∷ 2 ∷ 2 ∷ 2 ∷ []) ∷
    -- "Testing "more than 4^j".": four neighbours below level 1 are enough
    made 5 star (adds 0 4 (4 ∷ 0 ∷ [])) 0 1 0 (pair 0 1 1 ∷ []) (2 ∷ 2 ∷ 0 ∷ 0 ∷ 0 ∷ []) ∷
    -- "Drawing only among the links that the riser owned before it rose.": 3 draws 0, the first of 0, 2, 4, 5
    made 6 tied (adds 3 5 (0 ∷ zeros)) 0 1 2 (pair 0 3 1 ∷ []) (2 ∷ 0 ∷ 0 ∷ 2 ∷ 0 ∷ 0 ∷ []) ∷ []

pub hands-hold : map computed hands ≡ map expected hands
unfolding hands crowd laid star hub zeros computed
hands-hold = refl
