-- Document 01, "A rack is sound if ..", W-205, "A rack is sound only if ..", and W-207, "The audit tests both bytes": a test for each condition, in the papers' order, for any
-- bytes at all. Assumes nothing.
use Rattle.std.specs.Prelude.{Bool, true, false, not, ◌&&◌, ◌||◌, List, ℕ, suc, ◌+◌, ◌^◌, leb, ltb, eqb, get_or}
use Rattle.model.specs.Counting.{every}
use Rattle.model.specs.Shape.{Shape}
use Rattle.model.specs.State.{Kind, least_growth, most_growth, edge, edges}
use Rattle.model.specs.Bytes.{no_mate, size_at, edges_at, growth_at, top_at, kind_at, rank_at, mate_at, phi_at, owns_at, roster_at, read, phi_entry}

-- W-207: "6 and 7 stay zero": those of them that are spare
unfoldable pub spare_zero : Shape → List ℕ → Bool
spare_zero S bs = every (λ k. eqb (get_or bs (6 + k) 0) 0) S.spare

-- W-207: "growth g from 2 to 8 and top level t from 0 to 3"
unfoldable pub settings_good : Kind → Bool
settings_good K = leb least_growth K.growth && (leb K.growth most_growth && ltb K.top K.shape.levels)

-- "the entries of boards n to 255 are [..] level byte 0, mate 65,535, counts 0, empty row"
unfoldable pub unused : Shape → List ℕ → ℕ → Bool
unused S bs v =
    eqb (rank_at bs v) 0 && (eqb (mate_at S bs v) no_mate && (every (λ j. eqb (phi_at S bs v j) 0) S.levels && every (λ w. not (owns_at S bs v w)) S.most))

unfoldable pub past_unused : Shape → List ℕ → Bool
past_unused S bs = every (λ v. ltb v (size_at bs) || unused S bs v) S.most

-- "and no row names them"
unfoldable pub past_unnamed : Shape → List ℕ → Bool
past_unnamed S bs = every (λ v. every (λ w. ltb w (size_at bs) || not (owns_at S bs v w)) S.most) S.most

-- "n is 1 to 256": as many as the shape has room for
unfoldable pub size_good : Shape → ℕ → Bool
size_good S n = leb 1 n && leb n S.most

-- W-207: "level bytes are 0 to t plus 1"
unfoldable pub ranks_good : List ℕ → Bool
ranks_good bs = every (λ v. leb (rank_at bs v) (suc (top_at bs))) (size_at bs)

-- "no row names its own board"
unfoldable pub no_loop : Shape → List ℕ → Bool
no_loop S bs = every (λ v. not (owns_at S bs v v)) (size_at bs)

-- "no link has both bits set"
unfoldable pub owned_once : Shape → List ℕ → Bool
owned_once S bs = every (λ v. every (λ w. not (owns_at S bs v w && owns_at S bs w v)) (size_at bs)) (size_at bs)

-- "the link number [..] right"
unfoldable pub edges_right : Shape → List ℕ → Bool
edges_right S bs = eqb (edges_at S bs) (edges (read S bs))

-- "counts are right"; W-207: "counts above t are 0"
unfoldable pub phi_right : Shape → List ℕ → Bool
phi_right S bs = every (λ v. every (λ j. eqb (phi_at S bs v j) (phi_entry (read S bs) v j)) S.levels) (size_at bs)

-- "an owner's level is at least the other end's"
unfoldable pub owner_high : Shape → List ℕ → Bool
owner_high S bs = every (λ v. every (λ w. not (owns_at S bs v w) || leb (rank_at bs w) (rank_at bs v)) (size_at bs)) (size_at bs)

-- "mates name each other and are linked on one level": v's mate is w
unfoldable pub mated : Shape → List ℕ → ℕ → ℕ → Bool
mated S bs v w = eqb (mate_at S bs w) v && (edge (read S bs) v w && eqb (rank_at bs w) (rank_at bs v))

unfoldable pub mates_good : Shape → List ℕ → Bool
mates_good S bs = every (λ v. eqb (mate_at S bs v) no_mate || mated S bs v (mate_at S bs v)) (size_at bs)

-- "a board is idle exactly when its level is -1"
unfoldable pub free_low : Shape → List ℕ → Bool
free_low S bs = every (λ v. (not (eqb (mate_at S bs v) no_mate) || eqb (rank_at bs v) 0) && (not (eqb (rank_at bs v) 0) || eqb (mate_at S bs v) no_mate)) (size_at bs)

-- "each count at j is below" the threshold, "g to the power j"
unfoldable pub phi_low : Shape → List ℕ → Bool
phi_low S bs = every (λ v. every (λ j. ltb (phi_at S bs v j) (growth_at bs ^ j)) (suc (top_at bs))) (size_at bs)

-- whether both hold or neither
unfoldable pub agree : Bool → Bool → Bool
agree true b = b
agree false b = not b

-- "A rack is sound only if each board below n is in the roster of its level and in none besides"
unfoldable pub rosters_right : Shape → List ℕ → Bool
rosters_right S bs = every (λ v. every (λ r. agree (roster_at S bs r v) (eqb (rank_at bs v) r)) (suc S.levels)) (size_at bs)

-- "with the other bits clear"
unfoldable pub rosters_clear : Shape → List ℕ → Bool
rosters_clear S bs = every (λ r. every (λ v. ltb v (size_at bs) || not (roster_at S bs r v)) S.most) (suc S.levels)

-- "A rack is sound if" bytes 6 and 7 "are zero, the entries of boards n to 255 are as just said, and all this holds: ..", with W-207's settings and
-- W-205's two more
unfoldable pub sound : Shape → List ℕ → Bool
sound S bs =
    spare_zero S bs && (settings_good (kind_at S bs) && (past_unused S bs && (past_unnamed S bs
    && (size_good S (size_at bs) && (ranks_good bs && (no_loop S bs && (owned_once S bs && (edges_right S bs && (phi_right S bs
    && (owner_high S bs && (mates_good S bs && (free_low S bs && (phi_low S bs
    && (rosters_right S bs && rosters_clear S bs))))))))))))))
