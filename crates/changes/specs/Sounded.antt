-- A change of a sound rack: how it is brought, the numbers of its parts, and what it answers and leaves. Assumes nothing.
use Rattle.std.specs.Prelude.{◌≡◌, ◌≢◌, Bool, true, false, ◌&&◌, List, ℕ, ◌≤◌, ◌<◌, T, eqb, ltb, Result, Ok, Err}
use Rattle.model.specs.Shape.{Shape}
use Rattle.model.specs.State.{Rules, GoodKind, State, edge, below, pending}
use Rattle.model.specs.Bytes.{kind_at, rules_at, read, write}
use Rattle.model.specs.Valid.{Valid}
use Rattle.model.specs.Moves.{Run}
use Rattle.model.specs.Change.{Change, lower, upper, early, add, drop}
use Rattle.theory.specs.Waiting.{marks, Paired}
use Rattle.moves.specs.Proper.{Ordered, Held}
use Rattle.settling.specs.declared.tally.Tally.{Tally}
use Rattle.calls.specs.declared.Kind.{Kind}
use Rattle.calls.specs.declared.Kind.TheVariants.{Add, Drop}
use Rattle.calls.specs.declared.Refusal.{Refusal}
use Rattle.calls.specs.Terms.{code_of, number_of}

-- the bytes are the writing of a state of a good kind, valid by its own rules: exactly the sound racks are (model, proofs/Bridge.antt)
pub record Sounded (S : Shape) (bs : List ℕ) : Type 0 where
  pub kind : GoodKind (kind_at S bs)
  pub written : bs ≡ write (read S bs)
  pub valid : Valid (rules_at bs) (read S bs)

-- where the moves of a change begin: a proper rack with owners in order and mates that name each other, on which nothing is pending
pub record Begun (S : Shape) (bs : List ℕ) : Type 0 where
  pub held : Held S bs
  pub ordered : Ordered (read S bs)
  pub paired : Paired (read S bs).n (marks (read S bs))
  pub still : (v i : ℕ) → T (pending (read S bs) i v) → ⊥

-- u can be promoted to level i
pub record Liftable (top : ℕ) (s : State) (i u : ℕ) : Type 0 where
  pub inside : u < s.n
  pub low : s.rank u ≤ i
  pub level : i ≤ top
  pub some : 1 ≤ below s u i

-- none of 7 to 11 fits
pub record Acceptable (s : State) (code a b : ℕ) : Type 0 where
  pub inside : (a < s.n) × (b < s.n)
  pub apart : a ≢ b
  pub adds : code ≡ 1 → edge s a b ≡ false
  pub drops : code ≢ 1 → edge s a b ≡ true

-- the moves of a change that is accepted
unfoldable pub accepted_run : Rules → State → Change → Run
accepted_run R s c = elim (eqb c.code 1) [
  | true ↦ add R c.words (lower c.a c.b) (upper c.a c.b) s
  | false ↦ drop R c.words (lower c.a c.b) (upper c.a c.b) s
]

-- what a run leaves: the rack's bytes and the tally
pub record Ended (r : Run) (bs : List ℕ) (t : Tally) : Type 0 where
  pub rack : bs ≡ write r.state
  pub draws : t.draws ≡ r.draws
  pub falls : t.falls ≡ r.falls

-- a change by what a call brings
abbrev pub brought : ℕ → ℕ → ℕ → List ℕ → Change
brought code a b words = record { code = code; a = a; b = b; words = words }

-- none of 7 to 11 fits the change, and this is its kind; or the first that fits
abbrev pub Checked : State → Change → Result Kind Refusal → Type 0
Checked s c (Ok kind) = (early s.n (edge s) c ≡ 0) × (c.code ≡ code_of kind)
Checked s c (Err why) = early s.n (edge s) c ≡ number_of why

-- 8 or 9, or 0
unfoldable pub ends_number : ℕ → ℕ → ℕ → ℕ
ends_number n a b = elim (ltb a n && ltb b n) [ false ↦ 8 | true ↦ elim (eqb a b) [ true ↦ 9 | false ↦ 0 ] ]

-- 10 or 11, or 0, by whether the edge is there
abbrev pub link_number : Kind → Bool → ℕ
link_number Add true = 10
link_number Drop false = 11
link_number _ _ = 0
