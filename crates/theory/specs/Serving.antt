-- Who is taken, as a statement (document 02, W-203): at each taking of every accepted change. Assumes nothing.
use Rattle.std.specs.Prelude.{◌≡◌, List, ◌∷◌, ℕ, suc, ◌≤◌, ◌<◌}
use Rattle.model.specs.Lists.{Lists}
use Rattle.model.specs.State.{Rules, State}
use Rattle.model.specs.Moves.{Run, Found, none, found, promote, take, pick}
use Rattle.model.specs.Change.{Change, lower, upper, start, start_parted, reown, without_edge, add_edge, riser}
use Rattle.theory.specs.Waiting.{Marks, Waits}

-- the edge of a change, added, and dropped
abbrev pub with_it : State → Change → State
with_it s c = add_edge (lower c.a c.b) (upper c.a c.b) s

abbrev pub without_it : State → Change → State
without_it s c = reown s (without_edge s.owns (lower c.a c.b) (upper c.a c.b))

-- the run from which a change settles: after the riser's draw, or with the pair that is dropped parted
pub data Settles (R : Rules) (s : State) (c : Change) : Run → Type 0 where
  by-add : {i u : ℕ} → c.code ≡ 1 → riser R (lower c.a c.b) (upper c.a c.b) (suc R.top) (with_it s c) ≡ found i u
      → Settles R s c (promote c.words i u (start (with_it s c)))
  by-drop : c.code ≡ 2 → s.mate (lower c.a c.b) ≡ upper c.a c.b
      → Settles R s c (start_parted (lower c.a c.b) (upper c.a c.b) (without_it s c))

-- the runs that the settling from r goes through, taking by taking
pub data Through (R : Rules) (words : List ℕ) (r : Run) : Run → Type 0 where
  begun : Through R words r r
  taking : {t : Run} {i v : ℕ} → Through R words r t → pick (suc R.top) t.queues ≡ found i v → Through R words r (take R words i v t)

-- v is pending at level i
abbrev pub PendingAt : ℕ → Marks → ℕ → ℕ → Type 0
PendingAt n s i v = (v < n) × ((s.mate v ≡ v) × (s.rank v ≡ suc i))

-- "Among waiting boards of the highest level, the one that has waited at that level longest is taken": nobody waits higher than v, and v
-- is the first in the queue of its level, which lists those who wait there, each once
pub record Foremost (n : ℕ) (s : Marks) (q : ℕ → List ℕ) (i v : ℕ) : Type 0 where
  pub waits : PendingAt n s i v
  pub highest : (w : ℕ) → Waits n s w → s.rank w ≤ suc i
  pub queue : Lists (PendingAt n s i) (q i)
  pub rest : List ℕ
  pub first : q i ≡ v ∷ rest

-- who is taken from the queues, if anybody
abbrev pub Served : ℕ → Marks → (ℕ → List ℕ) → Found → Type 0
Served n s q none = (v : ℕ) → Waits n s v → ⊥
Served n s q (found i v) = Foremost n s q i v
