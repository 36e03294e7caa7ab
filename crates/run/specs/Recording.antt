-- The parts of a run: which changes were read, and what is printed of them. Assumes nothing.
use Rattle.std.specs.Prelude.{◌≡◌, true, false, List, [], ◌∷◌, ◌++◌, ℕ, zero, suc, ◌+◌, ◌*◌, ◌≤◌, ltb, length, drop, Option, Result, Ok, Err}
use Rattle.model.specs.Shape.{low}
use Rattle.model.specs.State.{State}
use Rattle.model.specs.Bytes.{rules_at, read, write}
use Rattle.model.specs.Change.{Change}
use Rattle.model.specs.Lists.{All}
use Rattle.model.specs.Trace.{Trace, LineChange, rack_line}
use Rattle.model.specs.Record.{pair_line, pair_lines, end_line, after, changes_text, last_of, record_text}
use Rattle.model.specs.Run.{turned_back, RunAnswer as AnswerOf, Ran, output}
use Rattle.text.specs.Writing.{Put}
use Rattle.text.specs.Rooms.{answer_room, ending_room}
use Rattle.calls.specs.declared.Refusal.{Refusal}
use Rattle.calls.specs.declared.Settings.{Settings}
use Rattle.calls.specs.Terms.{number_of, line_of, named_by}
use Rattle.lines.specs.declared.Line.{Line}
use Rattle.lines.specs.Clauses.{change_of}
use Rattle.trace.specs.Check.{Kept}

-- v's line among those of the pairs, if v is the lower vertex of one
unfoldable pub pair_part : State → ℕ → List ℕ
pair_part s v = elim (ltb v (s.mate v)) [ true ↦ pair_line s v | false ↦ [] ]

-- the lines after those of the changes
unfoldable pub ending_text : State → List ℕ
ending_text s = pair_lines s ++ end_line s

-- the changes whose heads and words these are: each change's words stand after those of the one before it
abbrev pub changes_of : List Line → List ℕ → List Change
changes_of [] words = []
changes_of (x ∷ heads) words = change_of words x ∷ changes_of heads (drop x.count words)

-- their words are there, and each is one that a line of a trace can hold
pub record IsKept (heads : List Line) (words : List ℕ) : Type 0 where
  pub kept : Kept heads words (changes_of heads words)
  pub lines : All LineChange (changes_of heads words)

-- the trace with those changes and this line 1
abbrev pub trace_of : ℕ → Option Settings → List Line → List ℕ → Trace
trace_of n settings heads words = record { n = n; settings = named_by settings; changes = changes_of heads words }

-- there is room for the lines of the changes and the ending
abbrev pub Ready : List Change → ℕ → Type 0
Ready changes room = answer_room * length changes + ending_room ≤ room

-- the changes were made on the rack, by its own rules, and their lines and the ending printed
pub record Played (changes : List Change) (rack last old new : List ℕ) (r : ℕ) : Type 0 where
  pub leaves : last ≡ write (after (rules_at rack) (read low rack) changes)
  pub prints : Put (changes_text (rules_at rack) (read low rack) changes) old new r

-- there is room for the record of the trace t
abbrev pub Recordable : Trace → ℕ → Type 0
Recordable t room = length (rack_line t.n t.settings) + answer_room * length t.changes + ending_room ≤ room

-- that record was printed, and the rack is left as its changes leave it
pub record Written (t : Trace) (last old new : List ℕ) (r : ℕ) : Type 0 where
  pub leaves : last ≡ write (last_of t)
  pub prints : Put (record_text t) old new r

-- by the number of what line 1 asks for: the record, or that number, 5 or 13, with every byte as it was
abbrev pub Took : ℕ → Trace → List ℕ → List ℕ → AnswerOf → List ℕ → List ℕ → Type 0
Took zero t rack space a last new = (a.number ≡ 0) × (a.line ≡ 0) × Written t last space new a.length
Took (suc m) t rack space a last new = (a ≡ turned_back (suc m) 0) × (last ≡ rack) × (new ≡ space)

-- "The answer is 0 and the record's length", or the number of a run that was turned back, with its line if that is 4
abbrev pub told : Result ℕ Refusal → AnswerOf
told (Ok length) = record { number = 0; line = 0; length = length }
told (Err why) = turned_back (number_of why) (line_of why)

-- a run was made, and what the program prints of it stands at the start of the space, r bytes
pub record Shown (rack text old last new : List ℕ) (r : ℕ) : Type 0 where
  pub answer : AnswerOf
  pub space : List ℕ
  pub ran : Ran rack text old answer last space
  pub prints : Put (output answer space) space new r
