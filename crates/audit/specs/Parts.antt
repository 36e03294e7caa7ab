-- What each part of the audit tests, as a fact about the bytes. All parts together are the facts of a sound rack (proofs/Whole.antt).
-- Assumes nothing.
use Rattle.std.specs.Prelude.{◌≡◌, ◌≢◌, Bool, false, ◌||◌, List, ℕ, zero, suc, ◌+◌, ◌*◌, ◌/◌, ◌^◌, ◌≤◌, ◌<◌, T, leb, ltb, length, get_or}
use Rattle.model.specs.Counting.{sum, bit}
use Rattle.model.specs.Shape.{Shape}
use Rattle.model.specs.State.{InRange}
use Rattle.model.specs.Bytes.{no_mate, growth_at, top_at, kind_at, rank_at, mate_at, phi_at, owns_at, roster_at}
use Rattle.model.proofs.Facts.{Mated}
use Rattle.layout.specs.Rows.{OwnsNoneFrom}
use Rattle.audit.specs.Tally.{Holds, tallied, partly, up_to}

-- the edge v-w, which v owns, is owned rightly: "an owner's level is at least the other end's", "no link has both bits set"
pub record Right (S : Shape) (bs : List ℕ) (v w : ℕ) : Type 0 where
  pub high : rank_at bs w ≤ rank_at bs v
  pub once : T (owns_at S bs w v) → ⊥

-- the edges of row v to vertices below p are owned rightly
abbrev pub RightBelow : Shape → List ℕ → ℕ → ℕ → Type 0
RightBelow S bs v p = (w : ℕ) → w < p → T (owns_at S bs v w) → Right S bs v w

-- and are counted: row v is walked as far as p, with the tally t
pub record Walked (S : Shape) (bs t : List ℕ) (v p : ℕ) : Type 0 where
  pub right : RightBelow S bs v p
  pub tally : Holds S t (partly S bs v p)

-- Where a vertex is at the highest level that there is at any setting, no other has a higher rank, and its edges add to no count: only that they have
-- one owner is asked, and only of those to lower numbers, since both bits of an edge are seen from either end.
abbrev pub OnceBelow : Shape → List ℕ → ℕ → ℕ → Type 0
OnceBelow S bs v p = (w : ℕ) → w < p → T (owns_at S bs v w) → T (owns_at S bs w v) → ⊥

-- the same of the edges of row v in its word k
abbrev pub OnceIn : Shape → List ℕ → ℕ → ℕ → Type 0
OnceIn S bs v k = (j : ℕ) → j < 64 → T (owns_at S bs v (64 * k + j)) → T (owns_at S bs (64 * k + j) v) → ⊥

-- the places up to v, to the end of a word of 64
abbrev pub word_end : ℕ → ℕ
word_end v = 64 * (v / 64 + 1)

-- Row v of a rack of n vertices is right. It is looked at alike at all settings: a rank from t plus 2 on, which no vertex has, is found by the rosters.
pub record Row (S : Shape) (bs : List ℕ) (n v : ℕ) : Type 0 where
  pub within : OwnsNoneFrom S bs v n
  pub below : rank_at bs v < S.levels → RightBelow S bs v S.most
  pub highest : S.levels ≤ rank_at bs v → OnceBelow S bs v (word_end v)

-- W-207: "growth g from 2 to 8 and top level t from 0 to 3", and no board is in a roster above t. With the rosters right, "level bytes are 0 to t plus 1".
pub record Settings (S : Shape) (bs : List ℕ) : Type 0 where
  pub range : InRange (kind_at S bs)
  pub empty : (r : ℕ) → r < suc S.levels → suc (top_at bs) < r → (v : ℕ) → v < S.most → T (roster_at S bs r v) → ⊥

-- The count of v at j, where the tally says `total`. Up to t it is that, and "below" the threshold, "g to the power j"; "counts above t are 0".
pub record Count (S : Shape) (bs : List ℕ) (v j total : ℕ) : Type 0 where
  pub right : j ≤ top_at bs → phi_at S bs v j ≡ total
  pub low : j ≤ top_at bs → phi_at S bs v j < growth_at bs ^ j
  pub above : top_at bs < j → phi_at S bs v j ≡ 0

-- every count of v is right by the tally t
abbrev pub Counted : Shape → List ℕ → List ℕ → ℕ → Type 0
Counted S bs t v = (j : ℕ) → j < S.levels → Count S bs v j (up_to S t v (suc j))

-- the sums of v's entries in the tally t fit the 16 bits in which they are added up
abbrev pub SumsFit : Shape → List ℕ → ℕ → Type 0
SumsFit S t v = (j : ℕ) → j ≤ S.levels → up_to S t v j < 65536

-- What the counts are held to, level by level, at settings in their ranges: the threshold, and 1 for a level up to t, 0 above.
pub record Limits (S : Shape) (bs bars standing : List ℕ) : Type 0 where
  pub range : InRange (kind_at S bs)
  pub thresholds : (length bars ≡ S.levels) × ((j : ℕ) → j < S.levels → get_or bars j 0 ≡ growth_at bs ^ j)
  pub levels : (length standing ≡ S.levels) × ((j : ℕ) → j < S.levels → get_or standing j 0 ≡ bit (leb j (top_at bs)))

-- every row of a rack of n vertices is right, so are its settings, and every count is what all rows together say
pub record Edges (S : Shape) (bs : List ℕ) (n : ℕ) : Type 0 where
  pub rows : (v : ℕ) → v < n → Row S bs n v
  pub settings : Settings S bs
  pub counts : (v : ℕ) → v < n → (j : ℕ) → j < S.levels → Count S bs v j (sum (tallied S bs n v) (suc j))

-- who is in the roster of rank r and below p has that rank
abbrev pub RankedBelow : Shape → List ℕ → ℕ → ℕ → Type 0
RankedBelow S bs r p = (v : ℕ) → v < p → T (roster_at S bs r v) → rank_at bs v ≡ r

-- and that of every roster
abbrev pub AllRankedBelow : Shape → List ℕ → ℕ → Type 0
AllRankedBelow S bs p = (r : ℕ) → r ≤ S.levels → RankedBelow S bs r p

-- the same of those in word k of the roster, or of every roster
abbrev pub RankedIn : Shape → List ℕ → ℕ → ℕ → Type 0
RankedIn S bs r k = (j : ℕ) → j < 64 → T (roster_at S bs r (64 * k + j)) → rank_at bs (64 * k + j) ≡ r

abbrev pub AllRankedIn : Shape → List ℕ → ℕ → Type 0
AllRankedIn S bs k = (r : ℕ) → r < suc S.levels → RankedIn S bs r k

-- v is in the roster of a rank below m
unfoldable pub listed_in : Shape → List ℕ → ℕ → ℕ → Bool
listed_in S bs zero v = false
listed_in S bs (suc m) v = listed_in S bs m v || roster_at S bs m v

-- The rosters of a rack of n vertices are right as far as p: who is in one has its rank, and together they are the vertices below n. So none is in
-- two, and each is in that of its rank (proofs/Enrolled.antt).
pub record RostersBelow (S : Shape) (bs : List ℕ) (n p : ℕ) : Type 0 where
  pub ranked : AllRankedBelow S bs p
  pub together : (v : ℕ) → v < p → listed_in S bs (suc S.levels) v ≡ ltb v n

-- and in their word k
pub record RostersIn (S : Shape) (bs : List ℕ) (n k : ℕ) : Type 0 where
  pub ranked : AllRankedIn S bs k
  pub together : (j : ℕ) → j < 64 → listed_in S bs (suc S.levels) (64 * k + j) ≡ ltb (64 * k + j) n

abbrev pub Rosters : Shape → List ℕ → ℕ → Type 0
Rosters S bs n = RostersBelow S bs n S.most

-- v's mate is right, and v has none exactly if its rank is 0
pub record Mate (S : Shape) (bs : List ℕ) (v : ℕ) : Type 0 where
  pub mated : mate_at S bs v ≢ no_mate → Mated S bs v (mate_at S bs v)
  pub free : mate_at S bs v ≡ no_mate → rank_at bs v ≡ 0
  pub low : rank_at bs v ≡ 0 → mate_at S bs v ≡ no_mate
