-- A run of moves, seen from the code: the rack's bytes, the queue of the vertices that wait, and the tally. The new pairs are no part of
-- them. Assumes nothing.
use Rattle.std.specs.Prelude.{◌≡◌, ◌≢◌, true, false, List, [], ℕ, suc, ◌-◌, ◌^◌, ◌≤◌, ◌<◌, length, Option, None, Some}
use Rattle.model.specs.Lists.{Mem, Distinct, Lists}
use Rattle.model.specs.Shape.{Shape}
use Rattle.model.specs.State.{Rules, State, below}
use Rattle.model.specs.Bytes.{growth_at, top_at, read, write}
use Rattle.model.specs.Moves.{Run, due, promote, Found, none, found}
use Rattle.theory.specs.Waiting.{marks, Waits, Paired, queues_in}
use Rattle.moves.specs.Proper.{RowBelow}
use Rattle.settling.specs.declared.tally.Tally.{Tally}
use Rattle.settling.specs.declared.progress.Progress.{Progress}
use Rattle.settling.specs.declared.Next.{Next}

-- the run that goes on from the bytes, the queue and the tally
abbrev pub running : Shape → List ℕ → Progress → Run
running S bs p = record {
  state = read S bs;
  queues = queues_in (read S bs).rank p.queue;
  news = [];
  draws = p.tally.draws;
  falls = p.tally.falls;
}

-- the queue holds exactly the vertices of which W holds
pub record HoldsOnly (W : ℕ → Type 0) (queue : List ℕ) (s : State) : Type 0 where
  pub lists : Lists W queue
  pub paired : Paired s.n (marks s)

-- .. exactly the vertices that wait
abbrev pub HoldsWaiting : List ℕ → State → Type 0
HoldsWaiting queue s = HoldsOnly (Waits s.n (marks s)) queue s

-- .. but for u, which is about to draw or to fall
abbrev pub HoldsWaitingBut : ℕ → List ℕ → State → Type 0
HoldsWaitingBut u queue s = HoldsOnly (λ v. Waits s.n (marks s) v × (v ≢ u)) queue s

-- v can be parted: at level -1 it doesn't stand in the queue, and for a mate, which then waits, there is a place
pub record CanPart (s : State) (v : ℕ) (queue : List ℕ) : Type 0 where
  pub once : Distinct queue
  pub absent : s.rank v ≡ 0 → Mem v queue → ⊥
  pub room : s.mate v ≢ v → (1 ≤ s.rank (s.mate v)) × (length queue < s.n)

-- v, which is free, can fall from level i, whose threshold is the bar: it owns edges to vertices below i alone, k of them
pub record Falling (S : Shape) (bs : List ℕ) (i v k bar : ℕ) : Type 0 where
  pub inside : v < (read S bs).n
  pub free : (read S bs).mate v ≡ v
  pub rank : (read S bs).rank v ≡ suc i
  pub level : i ≤ top_at bs
  pub row : RowBelow i v (read S bs)
  pub size : k ≡ below (read S bs) v i
  pub barred : bar ≡ growth_at bs ^ i

-- The largest figures that are held: of draws in eight bytes, since no call limits a word list, of falls in four. So far may a figure have come for
-- one draw or fall more to be counted, and so far the draws for a whole taking, which draws at most once for each vertex and once more.
abbrev pub largest_draws : ℕ
largest_draws = 18446744073709551615

abbrev pub largest_falls : ℕ
largest_falls = 4294967295

abbrev pub fall_limit : ℕ
fall_limit = largest_falls - 1

abbrev pub draw_limit : ℕ
draw_limit = largest_draws - 1

abbrev pub take_limit : Shape → ℕ
take_limit S = draw_limit - S.most

-- a tally of at most d draws and f falls, so that there is room for more
pub record Room (d f : ℕ) (t : Tally) : Type 0 where
  pub draws : t.draws ≤ d
  pub falls : t.falls ≤ f

-- what a run leaves: the rack's bytes, the queue that holds every vertex that waits, and the tally
pub record Left (r : Run) (bs : List ℕ) (p : Progress) : Type 0 where
  pub rack : bs ≡ write r.state
  pub queues : queues_in r.state.rank p.queue ≡ r.queues
  pub draws : p.tally.draws ≡ r.draws
  pub falls : p.tally.falls ≡ r.falls
  pub holds : HoldsWaiting p.queue r.state

-- a vertex's turn in the scan after a fall
unfoldable pub visited : Rules → List ℕ → ℕ → ℕ → Run → Run
visited R words i w r = elim (due R i w r.state) [ true ↦ promote words i w r | false ↦ r ]

-- what a pick finds, as the definition names it
abbrev pub found_by : Option Next → Found
found_by None = none
found_by (Some next) = found next.level next.vertex
