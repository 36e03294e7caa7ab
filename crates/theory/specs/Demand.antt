-- Demand 3 as a statement about bytes: what holds after any list of changes, refused ones among them, from any sound rack, with the
-- links of the link book (the edge ledger) as links. The theorem is `demand-three` (proofs/ListTheorem.antt). Assumes nothing.
use Rattle.std.specs.Prelude.{◌≡◌, ◌≢◌, ◌⊎◌, Bool, not, ◌&&◌, List, [], ◌∷◌, ℕ, suc, ◌*◌, ◌/◌, ◌^◌, ◌≤◌, ◌<◌, T, leb, ltb, eqb, length}
use Rattle.model.specs.Lists.{All, Mem, Distinct}
use Rattle.model.specs.Counting.{sum, count}
use Rattle.model.specs.Shape.{Shape}
use Rattle.model.specs.State.{edge}
use Rattle.model.specs.Bytes.{no_mate, size_at, growth_at, top_at, rules_at, rank_at, mate_at, phi_at, read, write}
use Rattle.model.specs.Sound.{sound}
use Rattle.model.specs.Moves.{Ends}
use Rattle.model.specs.Change.{Change, accepted, refused}
use Rattle.model.specs.Calls.{sized, ChangedBytes, change_bytes}
use Rattle.model.specs.Ledger.{Ledger, Told, tell, ledger_number, entered, entered_all}

-- the rack after a list of calls, each on the rack that the one before it left
unfoldable pub last_rack : Shape → List ℕ → List Change → List ℕ
last_rack S bs [] = bs
last_rack S bs (c ∷ cs) = last_rack S (change_bytes S bs c).rack cs

-- what the ledger is told of a change of the rack bs, and of a list of changes: whether each, "as defined, on the rack before it, runs out of
-- words"
abbrev pub told_of : Shape → List ℕ → Change → Told
told_of S bs c = tell (rules_at bs) (read S bs) c

unfoldable pub told_all : Shape → List ℕ → List Change → List Told
told_all S bs [] = []
told_all S bs (c ∷ cs) = told_of S bs c ∷ told_all S (change_bytes S bs c).rack cs

-- "The pairs are the book's links whose ends name each other as mates": whether v-w is one, v the lower end
abbrev pub is_pair : Shape → Ledger → List ℕ → ℕ → ℕ → Bool
is_pair S l bs v w = ltb v w && (l.there v w && (eqb (mate_at S bs v) w && eqb (mate_at S bs w) v))

-- the number of pairs
unfoldable pub pairs_of : Shape → Ledger → List ℕ → ℕ
pairs_of S l bs = sum (λ v. count (is_pair S l bs v) l.n) l.n

-- the number of mated vertices
unfoldable pub mated_of : Shape → Ledger → List ℕ → ℕ
mated_of S l bs = count (λ v. not (eqb (mate_at S bs v) no_mate)) l.n

-- the number of v's neighbours whose level is below j, by the ledger's edges and the rack's levels
unfoldable pub neighbours_below : Ledger → List ℕ → ℕ → ℕ → ℕ
neighbours_below l bs v j = count (λ w. l.there v w && leb (rank_at bs w) j) l.n

-- the vertices of a list of pairs
unfoldable pub vertices : List Ends → List ℕ
vertices [] = []
vertices (e ∷ l) = e.a ∷ e.b ∷ vertices l

-- edges of which no two share a vertex
pub record Disjoint (there : ℕ → ℕ → Bool) (l : List Ends) : Type 0 where
  pub edges : All (λ (e : Ends). T (there e.a e.b)) l
  pub apart : Distinct (vertices l)

-- vertices that touch every edge
abbrev pub Covers : (ℕ → ℕ → Bool) → List ℕ → Type 0
Covers there c = (v w : ℕ) → T (there v w) → Mem v c ⊎ Mem w c

-- w is named by v as its mate: they name each other, are linked, and stand on one level from 0 to the top
pub record Mates (S : Shape) (l : Ledger) (bs : List ℕ) (v w : ℕ) : Type 0 where
  pub back : mate_at S bs w ≡ v
  pub linked : T (l.there v w)
  pub level : rank_at bs w ≡ rank_at bs v
  pub at_least_0 : 1 ≤ rank_at bs v
  pub at-most-top : rank_at bs v ≤ suc (top_at bs)

-- What one call of the list does, from the rack bs, where the ledger is l: d is what it answers and leaves.
pub record Call (S : Shape) (l : Ledger) (bs : List ℕ) (c : Change) (d : ChangedBytes) : Type 0 where
  -- its number is the ledger's
  pub number : d.answer.number ≡ ledger_number l (told_of S bs c)
  -- refused, it answers the number and zeros, and the rack keeps every byte
  pub refused-keeps : ledger_number l (told_of S bs c) ≢ 0 → (d.answer ≡ refused (ledger_number l (told_of S bs c))) × (d.rack ≡ bs)
  -- the settings stay as they are
  pub settings : (growth_at d.rack ≡ growth_at bs) × (top_at d.rack ≡ top_at bs)
  -- accepted, it leaves the rack of the moves, and reports the words that they use and the pairs of the ledger's links then
  pub accepted-moves : ledger_number l (told_of S bs c) ≡ 0 → d.rack ≡ write (accepted (rules_at bs) (read S bs) c).state
  pub accepted-draws : ledger_number l (told_of S bs c) ≡ 0 → d.answer.draws ≡ (accepted (rules_at bs) (read S bs) c).answer.draws
  pub accepted-pairs : ledger_number l (told_of S bs c) ≡ 0 → d.answer.pairs ≡ pairs_of S (entered l (told_of S bs c)) d.rack
  -- no vertex is in two of its new pairs, or twice in one
  pub once : Distinct (vertices d.news)
  -- its new pairs are at most n div 2; it uses a word at least for each, and none that is not lent
  pub news-half : length d.news ≤ l.n / 2
  pub news-drawn : length d.news ≤ d.answer.draws
  pub draws-lent : d.answer.draws ≤ length c.words
  -- its falls are at most t plus 1 a vertex
  pub falls-few : d.answer.falls ≤ l.n * suc (top_at bs)

-- the calls of a list, one after the other
unfoldable pub Calls : Shape → Ledger → List ℕ → List Change → Type 0
Calls S l bs [] = Unit
Calls S l bs (c ∷ cs) = Call S l bs c (change_bytes S bs c) × Calls S (entered l (told_of S bs c)) (change_bytes S bs c).rack cs

-- What holds of the last rack bs, with the links of the ledger l.
pub record Facts (S : Shape) (l : Ledger) (bs : List ℕ) : Type 0 where
  -- the rack is sound
  pub is-sized : T (sized S bs)
  pub is-sound : T (sound S bs)
  -- it has as many vertices as the ledger
  pub size : size_at bs ≡ l.n
  -- its rows give the ledger's links, which join two different vertices below n
  pub links : (v w : ℕ) → edge (read S bs) v w ≡ l.there v w
  pub no_loop : (v : ℕ) → T (l.there v v) → ⊥
  pub inside : (v w : ℕ) → T (l.there v w) → (v < l.n) × (w < l.n)
  -- no link has both ends free
  pub maximal : (v w : ℕ) → T (l.there v w) → mate_at S bs v ≡ no_mate → mate_at S bs w ≡ no_mate → ⊥
  -- mates name each other and are linked on one level
  pub mates : (v : ℕ) → v < l.n → mate_at S bs v ≢ no_mate → Mates S l bs v (mate_at S bs v)
  -- a vertex is free exactly at level -1
  pub free-low : (v : ℕ) → v < l.n → mate_at S bs v ≡ no_mate → rank_at bs v ≡ 0
  pub low_free : (v : ℕ) → v < l.n → rank_at bs v ≡ 0 → mate_at S bs v ≡ no_mate
  -- each count at a level above the vertex's, up to the top, is the number of neighbours below, and less than g^j; the others are 0
  pub counts : (v j : ℕ) → v < l.n → j ≤ top_at bs → rank_at bs v ≤ j → phi_at S bs v j ≡ neighbours_below l bs v j
  pub counts-low : (v j : ℕ) → v < l.n → j ≤ top_at bs → rank_at bs v ≤ j → neighbours_below l bs v j < growth_at bs ^ j
  pub counts_zero : (v j : ℕ) → v < l.n → j ≤ top_at bs → j < rank_at bs v → phi_at S bs v j ≡ 0
  pub counts-above : (v j : ℕ) → v < l.n → top_at bs < j → j < S.levels → phi_at S bs v j ≡ 0
  -- any edges of which no two share a vertex are at most twice as many as the pairs
  pub twice : (m : List Ends) → Disjoint l.there m → length m ≤ 2 * pairs_of S l bs
  -- any vertices that touch every edge are at least as many as the pairs
  pub cover : (c : List ℕ) → Covers l.there c → pairs_of S l bs ≤ length c
  -- the mated vertices, which touch every edge by `maximal`, are twice as many as the pairs, and so at most twice as many as any that do
  pub mated-twice : mated_of S l bs ≡ 2 * pairs_of S l bs
  pub mated-cover : (c : List ℕ) → Covers l.there c → mated_of S l bs ≤ 2 * length c

-- Demand 3: "one statement about a whole list of changes, the empty list too". W-207: "with g and t for 4 and 3": those of the first rack, since each
-- call keeps them.
pub record Demand (S : Shape) (l : Ledger) (bs : List ℕ) (cs : List Change) : Type 0 where
  pub calls : Calls S l bs cs
  pub last : Facts S (entered_all l (told_all S bs cs)) (last_rack S bs cs)
