-- What a change has to do once it is known that it draws, and what is left of it: all of it if its words suffice, and otherwise nothing.
-- Assumes nothing.
use Rattle.std.specs.Prelude.{◌≡◌, ◌≢◌, Bool, true, false, List, ℕ, ◌≤◌, ◌<◌, length}
use Rattle.model.specs.State.{Rules, State, edge, edges}
use Rattle.model.specs.Bytes.{write}
use Rattle.model.specs.Moves.{Run, promote, settle}
use Rattle.model.specs.Change.{start, start_parted, reown, without_edge}
use Rattle.theory.specs.Quick.{Suffices}
use Rattle.settling.specs.declared.tally.Tally.{Tally}

-- the edge a-b joins mates
pub record Joins (s : State) (a b : ℕ) : Type 0 where
  pub ends : (a < s.n) × (b < s.n) × (a ≢ b) × (edge s a b ≡ true)
  pub mates : s.mate a ≡ b

-- what a rise has to do once the new edge is there, and the parting of a pair before its edge is taken out
abbrev pub rise_run : Rules → List ℕ → ℕ → ℕ → State → Run
rise_run R words i u s = settle R words (promote words i u (start s))

abbrev pub part_run : Rules → List ℕ → ℕ → ℕ → State → Run
part_run R words a b s = settle R words (start_parted a b (reown s (without_edge s.owns a b)))

-- What is left of a run from the bytes bs: its figures, and its rack if no more words were used than are lent, and otherwise the bytes as they were.
pub record Tried (r : Run) (words bs bs' : List ℕ) (t : Tally) : Type 0 where
  pub draws : t.draws ≡ r.draws
  pub falls : t.falls ≡ r.falls
  pub made : t.draws ≤ length words → bs' ≡ write r.state
  pub kept : length words < t.draws → bs' ≡ bs

-- The same of work on the bytes bs that may end with the tally t and certain bytes.
pub record TriedOut (ends : Tally → List ℕ → Type 0) (words bs bs' : List ℕ) (t : Tally) : Type 0 where
  pub after : List ℕ
  pub ended : ends t after
  pub made : t.draws ≤ length words → bs' ≡ after
  pub kept : length words < t.draws → bs' ≡ bs

-- the answer yes says that the words are sure to suffice for a change that leaves no more edges than s has and begins at level i, where k can draw
-- if that is level 0; the answer no says nothing
abbrev pub Enough : Bool → State → ℕ → ℕ → List ℕ → Type 0
Enough true s i k words = Suffices s.n (edges s) i k words
Enough false s i k words = Unit
