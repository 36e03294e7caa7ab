-- What holds of every rack between two steps of a move, settled or not: bytes that are the writing of a proper state. Assumes nothing.
use Rattle.std.specs.Prelude.{◌≡◌, Bool, true, ◌&&◌, List, ℕ, suc, ◌≤◌, ◌<◌, T, eqb}
use Rattle.model.specs.Shape.{Shape, GoodShape}
use Rattle.model.specs.State.{Kind, InRange, State, near}
use Rattle.model.specs.Bytes.{kind_at, read, write}
use Rattle.model.specs.Counting.{upd}
use Rattle.model.specs.Moves.{owned_by}
use Rattle.model.specs.Change.{reown}

-- the conditions of a valid state that no step breaks: it is of a given kind, whose shape is good and whose settings are in their ranges, nothing stands
-- past n, ranks and mates are in range, each edge has one owner
pub record Proper (K : Kind) (s : State) : Type 0 where
  pub kind : s.kind ≡ K
  pub good : GoodShape s.kind.shape
  pub range : InRange s.kind
  pub few : s.n ≤ s.kind.shape.most
  pub inside : (v w : ℕ) → T (s.owns v w) → (v < s.n) × (w < s.n)
  pub past-rank : (v : ℕ) → s.n ≤ v → s.rank v ≡ 0
  pub past-mate : (v : ℕ) → s.n ≤ v → s.mate v ≡ v
  pub ranks : (v : ℕ) → s.rank v ≤ suc s.kind.top
  pub mates : (v : ℕ) → v < s.n → s.mate v < s.n
  pub no_loop : (v : ℕ) → T (s.owns v v) → ⊥
  pub owned-once : (v w : ℕ) → T (s.owns v w) → T (s.owns w v) → ⊥

-- an owner's rank is at least the other end's: no whole move breaks it
abbrev pub Ordered : State → Type 0
Ordered s = (v w : ℕ) → T (s.owns v w) → s.rank w ≤ s.rank v

-- the bytes are the writing of a proper state
pub record Held (S : Shape) (bs : List ℕ) : Type 0 where
  pub written : bs ≡ write (read S bs)
  pub proper : Proper (kind_at S bs) (read S bs)

-- w, of rank q, owns an edge to u
unfoldable pub owner_at : State → ℕ → ℕ → ℕ → Bool
owner_at s q u w = s.owns w u && eqb (s.rank w) q

-- u owns its edges to the vertices that pass p
unfoldable pub took_from : (ℕ → Bool) → ℕ → State → State
took_from p u s = reown s (owned_by u p true s.owns)

-- u owns every edge to a vertex below level i: the owners after the first half of a rise
unfoldable pub took_over : ℕ → ℕ → State → State
took_over i u s = reown s (owned_by u (near s u i) true s.owns)

-- v stands at rank x: its counts and those of its neighbours follow
unfoldable pub ranked : ℕ → ℕ → State → State
ranked v x s = record { kind = s.kind; n = s.n; rank = upd s.rank v x; mate = s.mate; owns = s.owns }

-- the edges that u owns are exactly those to its neighbours below level i
abbrev pub RowBelow : ℕ → ℕ → State → Type 0
RowBelow i u s = (w : ℕ) → s.owns u w ≡ near s u i w
