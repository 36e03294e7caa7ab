-- Document 02, W-203: a row for each of its rules, in which another order would show. Computed from the definitions, as the bench cases are.
-- Assumes nothing.
use mathlib.Core.Path.{◌≡◌, refl}
use mathlib.Core.Bool.{◌&&◌, ◌||◌}
use mathlib.Core.List.{List, [], ◌∷◌, map}
use native.Mathlib.Omega.{arith}
use lib.Dec.{T, eqb, leb}
use lib.ListN.{get_or}
use Rattle.model.specs.Counting.{sum, count, every}
use Rattle.model.specs.Shape.{low}
use Rattle.model.specs.State.{State, edge, near, below, phi}
use Rattle.model.specs.Bytes.{write}
use Rattle.model.specs.Sound.{sound}
use Rattle.model.specs.Change.{Change}
use Rattle.model.proofs.Tested.{tested, laid, laid-sound}
use Rattle.model.proofs.Table.{Row, from, made, computed, expected, adds, drops, pair}
use Rattle.model.proofs.Bench.{zeros}

-- 0 has the mate 4, and 1 has 3; all four stand on level 0, and 2, a neighbour of 3 and of 4, is free
unfoldable pub rivals : List Change
rivals = adds 0 4 zeros ∷ adds 1 3 zeros ∷ adds 0 2 zeros ∷ adds 2 4 zeros ∷ adds 0 1 zeros ∷ adds 2 3 zeros ∷ []

-- 5 and 6 are mates on level 1, and 0 and 1 on level 0; 0 has three neighbours below level 1, and 5 besides; 4, a neighbour of 1 and of 5,
-- is free
unfoldable pub ledge : State
ledge = laid 4 3 7
    (λ v. get_or (1 ∷ 1 ∷ 0 ∷ 0 ∷ 0 ∷ 2 ∷ 2 ∷ []) v 0)
    (λ v. get_or (1 ∷ 0 ∷ 2 ∷ 3 ∷ 4 ∷ 6 ∷ 5 ∷ []) v v)
    (λ v w. eqb v 0 && (leb 1 w && leb w 3) || (eqb v 1 && eqb w 4 || eqb v 5 && (eqb w 0 || (eqb w 4 || eqb w 6))))

-- 0 and 2 are mates on level 1, and 1 and 5 on level 0; 0 is linked to all, and 5 to 1, 2 and 3
unfoldable pub shelf : State
shelf = laid 4 3 6
    (λ v. get_or (2 ∷ 1 ∷ 2 ∷ 0 ∷ 0 ∷ 1 ∷ []) v 0)
    (λ v. get_or (2 ∷ 5 ∷ 0 ∷ 3 ∷ 4 ∷ 1 ∷ []) v v)
    (λ v w. eqb v 0 && leb 1 w || (eqb v 2 && eqb w 5 || eqb v 5 && (eqb w 1 || eqb w 3)))

-- 1 and 4 are mates on level 1, and 3 and 5 on level 0; 3 and 5 have the neighbours 1, 4 and 6, and 0 or 2
unfoldable pub perch : State
perch = laid 4 3 7
    (λ v. get_or (0 ∷ 2 ∷ 0 ∷ 1 ∷ 2 ∷ 1 ∷ 0 ∷ []) v 0)
    (λ v. get_or (0 ∷ 4 ∷ 2 ∷ 5 ∷ 1 ∷ 3 ∷ 6 ∷ []) v v)
    (λ v w. eqb v 1 && (leb 3 w && leb w 5) || (eqb v 4 && (eqb w 3 || eqb w 5) || (eqb v 3 && (eqb w 0 || leb 5 w) || eqb v 5 && (eqb w 2 || eqb w 6))))

pub ledge-sound : T (sound low (write ledge))
unfolding ledge
ledge-sound = laid-sound 4 3 7 _ _ _ (omega arith) (omega arith) (omega arith) (omega arith) (omega arith) (unfold laid tested every sum count edge near below phi in tt)

pub shelf-sound : T (sound low (write shelf))
unfolding shelf
shelf-sound = laid-sound 4 3 6 _ _ _ (omega arith) (omega arith) (omega arith) (omega arith) (omega arith) (unfold laid tested every sum count edge near below phi in tt)

pub perch-sound : T (sound low (write perch))
unfolding perch
perch-sound = laid-sound 4 3 7 _ _ _ (omega arith) (omega arith) (omega arith) (omega arith) (omega arith) (unfold laid tested every sum count edge near below phi in tt)

unfoldable pub order : List Row
order =
    -- "Parting by a drop puts the lower number first.": 0 draws 2, and 1 falls
    made 3 (adds 0 1 zeros ∷ adds 0 2 zeros ∷ adds 1 2 zeros ∷ []) (drops 0 1 zeros) 0 1 1 (pair 0 2 0 ∷ []) (1 ∷ 0 ∷ 1 ∷ []) ∷
    -- "A riser's former mate comes before the chosen board's former mate.": 4, and not the lower number 3, draws 2
    made 5 rivals (adds 0 3 zeros) 0 2 1 (pair 0 1 1 ∷ pair 2 4 0 ∷ []) (2 ∷ 2 ∷ 1 ∷ 0 ∷ 1 ∷ []) ∷
    -- "A board that falls joins the end of its new level before any rise that follows the fall.": 5 falls, then 0 rises and leaves 1; 5
    -- draws 4
    from ledge (drops 5 6 (1 ∷ zeros)) 0 2 4 (pair 0 2 1 ∷ pair 4 5 0 ∷ []) (2 ∷ 0 ∷ 2 ∷ 0 ∷ 1 ∷ 1 ∷ 0 ∷ []) ∷
    -- It is the end that it joins, however long it waited one level higher: 0 draws 1, which leaves 5; then 2 falls, and 5 is taken before it
    -- and draws 3
    from shelf (drops 0 2 (0 ∷ 4 ∷ 2 ∷ [])) 0 2 2 (pair 0 1 1 ∷ pair 3 5 0 ∷ []) (2 ∷ 2 ∷ 0 ∷ 1 ∷ 0 ∷ 1 ∷ []) ∷
    -- A waiting board that is drawn waits no more: 0 rises, leaves 1, and draws it again.
    from ledge (drops 5 6 (0 ∷ zeros)) 0 2 3 (pair 0 1 1 ∷ pair 4 5 0 ∷ []) (2 ∷ 2 ∷ 0 ∷ 0 ∷ 1 ∷ 1 ∷ 0 ∷ []) ∷
    -- Nor does one that rises: 3 rises and leaves 5, which waits; then 4 falls, and 5 rises itself.
    from perch (drops 1 4 (0 ∷ 1 ∷ 0 ∷ [])) 0 2 4 (pair 0 3 1 ∷ pair 2 5 1 ∷ []) (2 ∷ 0 ∷ 2 ∷ 2 ∷ 0 ∷ 2 ∷ 0 ∷ []) ∷ []

pub order-holds : map computed order ≡ map expected order
unfolding order rivals ledge shelf perch laid zeros computed
order-holds = refl
