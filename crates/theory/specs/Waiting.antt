-- One queue of all vertices that wait, in the order of their arrival. The queue of a level is what it has of that level, so that code needs
-- to keep no other. Assumes nothing.
use Rattle.std.specs.Prelude.{◌≡◌, ◌≢◌, true, false, List, [], ◌∷◌, ◌++◌, ℕ, zero, suc, ◌≤◌, ◌<◌, eqb}
use Rattle.model.specs.State.{State}
use Rattle.model.specs.Moves.{without}

-- the rank (level plus 1) and the mate of each vertex; a free vertex is its own mate, so that to part it changes nothing
pub record Marks : Type 0 where
  pub rank : ℕ → ℕ
  pub mate : ℕ → ℕ

-- the marks of a state
abbrev pub marks : State → Marks
marks s = record { rank = s.rank; mate = s.mate }

-- "A board is waiting if it is idle at level 0 or more."
abbrev pub Waits : ℕ → Marks → ℕ → Type 0
Waits n s v = (v < n) × ((s.mate v ≡ v) × (1 ≤ s.rank v))

-- mates name each other on one level from 0 on, and nothing stands past n
pub record Paired (n : ℕ) (s : Marks) : Type 0 where
  pub back : (v : ℕ) → s.mate (s.mate v) ≡ v
  pub level : (v : ℕ) → s.rank (s.mate v) ≡ s.rank v
  pub high : (v : ℕ) → s.mate v ≢ v → 1 ≤ s.rank v
  pub past : (v : ℕ) → n ≤ v → s.rank v ≡ 0

-- those of the list that have the rank x, in their order
unfoldable pub of_rank : (ℕ → ℕ) → ℕ → List ℕ → List ℕ
of_rank rank x [] = []
of_rank rank x (v ∷ l) = elim (eqb (rank v) x) [ true ↦ v ∷ of_rank rank x l | false ↦ of_rank rank x l ]

-- the queues of the levels, made of the queue of all
abbrev pub queues_in : (ℕ → ℕ) → List ℕ → ℕ → List ℕ
queues_in rank l i = of_rank rank (suc i) l

-- v, of rank r, joins the end of the queue; with rank 0, at level -1, nobody waits
unfoldable pub join_queue : ℕ → ℕ → List ℕ → List ℕ
join_queue v zero l = l
join_queue v (suc i) l = l ++ (v ∷ [])

-- w is parted and rises: its former mate joins the queue; a w without a mate waits no more
unfoldable pub part_queue : Marks → ℕ → List ℕ → List ℕ
part_queue s w l = elim (eqb (s.mate w) w) [ true ↦ without w l | false ↦ join_queue (s.mate w) (s.rank (s.mate w)) l ]
