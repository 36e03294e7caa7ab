-- Document 01, "Elementary moves" and "The settling", with the queues of document 02, W-203, and its fair draws, W-206. A level i is a number
-- from 0 on; a vertex at level i has rank i + 1. Assumes nothing.
use Rattle.std.specs.Prelude.{Bool, true, false, not, ◌&&◌, List, [], ◌∷◌, ◌++◌, ℕ, zero, suc, ◌*◌, eqb, leb, length, get_or}
use Rattle.model.specs.Counting.{listed, upd}
use Rattle.model.specs.Words.{deciding, place}
use Rattle.model.specs.State.{Rules, State, near, below, phi, free}

-- two vertices, as the ends of an edge or a new pair
pub record Ends : Type 0 where
  pub a : ℕ
  pub b : ℕ

-- A change on its way: the rack, the queues, the new pairs (u, y) of its draws, the last first, the words used, and the falls. W-203: "the
-- queues of source document 001": `queues i` are the vertices that wait at level i, the one that has waited there longest first. They are no
-- part of the rack: "No waiting board is stored between changes."
pub record Run : Type 0 where
  pub state : State
  pub queues : ℕ → List ℕ
  pub news : List Ends
  pub draws : ℕ
  pub falls : ℕ

-- the run with another rack and other queues
abbrev pub at : Run → State → (ℕ → List ℕ) → Run
at r s q = record { state = s; queues = q; news = r.news; draws = r.draws; falls = r.falls }

-- the list without v
unfoldable pub without : ℕ → List ℕ → List ℕ
without v [] = []
without v (w ∷ l) = elim (eqb w v) [ true ↦ without v l | false ↦ w ∷ without v l ]

-- v waits no more
unfoldable pub leave : ℕ → (ℕ → List ℕ) → ℕ → List ℕ
leave v q i = without v (q i)

-- v, which now has the rank l, "joins the end of its new level"; with rank 0, at level -1, nobody waits
unfoldable pub join : ℕ → ℕ → (ℕ → List ℕ) → ℕ → List ℕ
join v zero q = q
join v (suc i) q = upd q i (q i ++ (v ∷ []))

-- v is parted and rises: its former mate comes to wait, at the end of the queue of its level; a v without a mate waits no more
unfoldable pub parting : State → ℕ → (ℕ → List ℕ) → ℕ → List ℕ
parting s v q = elim (free s v) [ true ↦ leave v q | false ↦ join (s.mate v) (s.rank (s.mate v)) q ]

-- Owners: the edges between u and the vertices that pass p now belong to u (mine is true) or to those (mine is false).
unfoldable pub owned_by : ℕ → (ℕ → Bool) → Bool → (ℕ → ℕ → Bool) → ℕ → ℕ → Bool
owned_by u p mine owns v w = elim (eqb v u && p w) [ true ↦ mine | false ↦ elim (eqb w u && p v) [ true ↦ not mine | false ↦ owns v w ] ]

-- v's pair is parted; a free v stays as it is
unfoldable pub part : ℕ → State → State
part v s = record { kind = s.kind; n = s.n; rank = s.rank; mate = upd (upd s.mate (s.mate v) (s.mate v)) v v; owns = s.owns }

-- "Rise of u to i: u takes ownership of every link to a board then below i. Other owners stand."
unfoldable pub rise : ℕ → ℕ → State → State
rise i u s = record { kind = s.kind; n = s.n; rank = upd s.rank u (suc i); mate = s.mate; owns = owned_by u (near s u i) true s.owns }

-- u and y are mates
unfoldable pub marry : ℕ → ℕ → State → State
marry u y s = record { kind = s.kind; n = s.n; rank = s.rank; mate = upd (upd s.mate u y) y u; owns = s.owns }

-- "list u's neighbours below i by rising number, k of them; the chosen one stands at place (word mod k)" of the word that decides
unfoldable pub chosen : List ℕ → ℕ → ℕ → Run → ℕ
chosen words i u r =
    let l = listed (near r.state u i) r.state.n in
    get_or l (place words r.draws (length l)) 0

-- "The draws figure counts words used, passed-over ones included": those used once u has drawn at level i
unfoldable pub spent : List ℕ → ℕ → ℕ → Run → ℕ
spent words i u r = suc (deciding words r.draws (below r.state u i))

-- "If the chosen y has a mate, that pair is parted. Then y rises to i, and u and y are mates.": y's former mate waits from now on, behind
-- u's, if u rose for this draw. By then `used` words are used.
unfoldable pub drawn : ℕ → ℕ → ℕ → ℕ → Run → Run
drawn i u y used r = record {
  state = marry u y (rise i y (part y r.state));
  queues = parting r.state y r.queues;
  news = record { a = u; b = y } ∷ r.news;
  draws = used;
  falls = r.falls;
}

-- "Draw at u, level i"
unfoldable pub draw : List ℕ → ℕ → ℕ → Run → Run
draw words i u r = drawn i u (chosen words i u r) (spent words i u r) r

-- u is parted and rises to i
abbrev pub lifted : ℕ → ℕ → Run → Run
lifted i u r = at r (rise i u (part u r.state)) (parting r.state u r.queues)

-- "loses its mate if it has one, rises to i and draws"; "A riser's former mate comes before the chosen board's former mate."
unfoldable pub promote : List ℕ → ℕ → ℕ → Run → Run
promote words i u r = draw words i u (lifted i u r)

-- "v hands each owned link whose other end is also at level i to that end"
unfoldable pub hand_over : ℕ → ℕ → State → State
hand_over i v s = record {
  kind = s.kind;
  n = s.n;
  rank = s.rank;
  mate = s.mate;
  owns = owned_by v (λ w. s.owns v w && eqb (s.rank w) (suc i)) false s.owns;
}

-- v is taken from its queue and hands its edges on its own level over
abbrev pub handed : ℕ → ℕ → Run → Run
handed i v r = at r (hand_over i v r.state) (leave v r.queues)

-- "v falls to i-1"; "its falls (moves down by one level)"; "A board that falls joins the end of its new level before any rise that
-- follows the fall."
unfoldable pub fall : ℕ → ℕ → Run → Run
fall i v r = let s = r.state in record {
  state = record { kind = s.kind; n = s.n; rank = upd s.rank v i; mate = s.mate; owns = s.owns };
  queues = join v i r.queues;
  news = r.news;
  draws = r.draws;
  falls = suc r.falls;
}

-- "below i with a count at i of at least [g]^i"
unfoldable pub due : Rules → ℕ → ℕ → State → Bool
due R i w s = leb (s.rank w) i && leb (R.thr i) (phi s w i)

-- "the boards [..] are gone through by rising number; each one that is below i with a count at i of at least [g]^i loses its mate if it
-- has one, rises to i and draws"
unfoldable pub scan : Rules → List ℕ → ℕ → List ℕ → Run → Run
scan R words i [] r = r
scan R words i (w ∷ l) r = elim (due R i w r.state) [ true ↦ scan R words i l (promote words i w r) | false ↦ scan R words i l r ]

-- "Then the boards to which v owned links just after the fall are gone through by rising number"
unfoldable pub scan_from : Rules → List ℕ → ℕ → ℕ → Run → Run
scan_from R words i v r = scan R words i (listed (r.state.owns v) r.state.n) r

-- "Taking a waiting v at level i: v hands each owned link whose other end is also at level i to that end. Let k be its neighbours below i.
-- If k is at least [g]^i, v draws. If not, v falls to i-1. Then the boards to which v owned links [..] are gone through"
unfoldable pub take : Rules → List ℕ → ℕ → ℕ → Run → Run
take R words i v r =
    let q = handed i v r in
    elim (leb (R.thr i) (below q.state v i)) [ true ↦ draw words i v q | false ↦ scan_from R words i v (fall i v q) ]

-- what a search finds: nothing, or a level and a vertex
pub data Found : Type 0 where
  none : Found
  found : ℕ → ℕ → Found

-- W-203: "Among waiting boards of the highest level, the one that has waited at that level longest is taken": of a level below m
unfoldable pub pick : ℕ → (ℕ → List ℕ) → Found
pick zero q = none
pick (suc i) q = elim (q i) [ [] ↦ pick i q | v ∷ l ↦ found i v ]

-- "The settling: while any board waits, take one": at most `fuel` takings
unfoldable pub settle_in : Rules → List ℕ → ℕ → Run → Run
settle_in R words zero r = r
settle_in R words (suc fuel) r =
    elim (pick (suc R.top) r.queues) [ none ↦ r | found i v ↦ settle_in R words fuel (take R words i v r) ]

-- The settling. There are never more takings than n times the number of levels from 0 on, which is shown, not assumed.
unfoldable pub settle : Rules → List ℕ → Run → Run
settle R words r = settle_in R words (r.state.n * suc R.top) r
