-- Document 01, "Trace and record": the record of a trace, to the byte, with the end line of document 02, W-202; and W-201: that of a blank
-- paper. Assumes nothing.
use Rattle.std.specs.Prelude.{◌≡◌, true, false, List, [], ◌∷◌, ◌++◌, ℕ, ◌+◌, ◌-◌, ◌*◌, ◌/◌, ◌%◌, ◌<◌, eqb, ltb}
use Rattle.model.specs.Counting.{listed}
use Rattle.model.specs.State.{Rules, Kind, rules, low_with, State, edges, pairs, empty}
use Rattle.model.specs.Change.{Change, Answer, change}
use Rattle.model.specs.Text.{bytes, decimal, texts}
use Rattle.model.specs.Trace.{Trace, growth_of, top_of, rack_line}

-- "`(done (draws D) (falls F) (pairs P))` with its figures"; "A refused change (8 to 12) gives its number K as `(refused K)`"
unfoldable pub answer_line : Answer → List ℕ
answer_line x = elim (eqb x.number 0) [
  | true ↦ bytes "(done (draws " ++ (decimal x.draws ++ (bytes ") (falls " ++ (decimal x.falls ++ (bytes ") (pairs " ++ (decimal x.pairs ++ bytes "))\n")))))
  | false ↦ bytes "(refused " ++ (decimal x.number ++ bytes ")\n")
]

-- "A pair's line is `(pair (A B) (level L))`, A the lower board and L their level."
unfoldable pub pair_line : State → ℕ → List ℕ
pair_line s v =
    bytes "(pair (" ++ (decimal v ++ (bytes " " ++ (decimal (s.mate v) ++ (bytes ") (level " ++ (decimal (s.rank v - 1) ++ bytes "))\n")))))

-- W-202: Q and R, how crowded a rack is "without rounding"
pub record Mean : Type 0 where
  pub whole : ℕ
  pub rest : ℕ

-- "where twice the links equals Q times n plus R and R is below n"
pub record IsMean (links n : ℕ) (m : Mean) : Type 0 where
  pub twice : 2 * links ≡ m.whole * n + m.rest
  pub below : m.rest < n

-- these two numbers, by division; that there are no others is a theorem (`mean-only` in proofs/Mean.antt)
unfoldable pub mean : ℕ → ℕ → Mean
mean links n = record { whole = 2 * links / n; rest = 2 * links % n }

-- W-202: "The end line becomes `(end (pairs P) (mean Q R))`", by its figures
unfoldable pub end_text : ℕ → Mean → List ℕ
end_text pairs m =
    bytes "(end (pairs " ++ (decimal pairs ++ (bytes ") (mean " ++ (decimal m.whole ++ (bytes " " ++ (decimal m.rest ++ bytes "))\n")))))

-- "P the pairs then held", and the mean of the links then there
abbrev pub end_line : State → List ℕ
end_line s = end_text (pairs s) (mean (edges s) s.n)

-- "the pairs by rising lower board"
unfoldable pub pair_lines : State → List ℕ
pair_lines s = texts (pair_line s) (listed (λ v. ltb v (s.mate v)) s.n)

-- the rack after a list of changes
unfoldable pub after : Rules → State → List Change → State
after R s [] = s
after R s (c ∷ cs) = after R (change R s c).state cs

-- "one line for each change", "then the pairs by rising lower board, then the end line"
unfoldable pub changes_text : Rules → State → List Change → List ℕ
changes_text R s [] = pair_lines s ++ end_line s
changes_text R s (c ∷ cs) = let d = change R s c in answer_line d.answer ++ changes_text R d.state cs

-- the kind of the rack that line 1 asks for, and that rack
unfoldable pub kind_of : Trace → Kind
kind_of t = low_with (growth_of t.settings) (top_of t.settings)

abbrev pub rack_of : Trace → State
rack_of t = empty (kind_of t) t.n

-- the rack after the changes of a trace
abbrev pub last_of : Trace → State
last_of t = after (rules (kind_of t)) (rack_of t) t.changes

-- "The record repeats line 1, has one line for each change, then the pairs by rising lower board, then the end line"
unfoldable pub record_text : Trace → List ℕ
record_text t = rack_line t.n t.settings ++ changes_text (rules (kind_of t)) (rack_of t) t.changes

-- W-201: "A trace text of no bytes now means that no rack was set: the record is the one line `(end (pairs 0))`"; W-202: "the blank paper has
-- no mean", since there is no rack whose links it could be of
abbrev pub blank_record : List ℕ
blank_record = bytes "(end (pairs 0))\n"
