-- Document 01, "Trace and record" and "Turned back", and document 02, W-201: running a trace text to a record. "a trace 1 to 5", and 13 of W-207.
-- Assumes nothing.
use Rattle.std.specs.Prelude.{◌≡◌, ◌≢◌, true, false, List, [], ◌++◌, ℕ, ◌≤◌, ◌<◌, eqb, length, take}
use Rattle.model.specs.Shape.{low}
use Rattle.model.specs.Bytes.{write}
use Rattle.model.specs.Calls.{sized, asked_number}
use Rattle.model.specs.Text.{bytes, decimal, over}
use Rattle.model.specs.Trace.{Trace, Holds, lines_of, FirstBad}
use Rattle.model.specs.Record.{kind_of, last_of, record_text, blank_record}

-- the answer: the number, the line that doesn't fit (for number 4), and the record's length
pub record RunAnswer : Type 0 where
  pub number : ℕ
  pub line : ℕ
  pub length : ℕ

-- the answer of a run that was turned back
abbrev pub turned_back : ℕ → ℕ → RunAnswer
turned_back k line = record { number = k; line = line; length = 0 }

-- "The answer is 0 and the record's length."
abbrev pub recorded : List ℕ → RunAnswer
recorded text = record { number = 0; line = 0; length = length text }

-- "2. The trace text is over 16,384 bytes." "3. The record space is under 65,536 bytes."
abbrev pub longest : ℕ
longest = 16384

abbrev pub space_length : ℕ
space_length = 65536

-- What a run answers, and the bytes of the rack and of the record space after it: "first fit first", "nothing lent is written".
-- "The whole text is read before the rack is made, in the lent rack buffer, which holds the last state at the end."
-- "Bytes past the record keep their values."
pub data Ran (rack text space : List ℕ) : RunAnswer → List ℕ → List ℕ → Type 0 where
  rack-length : sized low rack ≡ false → Ran rack text space (turned_back 1 0) rack space
  text-long : sized low rack ≡ true → longest < length text → Ran rack text space (turned_back 2 0) rack space
  space-short : sized low rack ≡ true → length text ≤ longest → length space < space_length → Ran rack text space (turned_back 3 0) rack space
  -- W-201: "A trace text of no bytes now means that no rack was set: the record is the one line `(end (pairs 0))` and the rack buffer keeps its
  -- bytes. It is taken unless 1 or 3 fits": 2 can't fit it.
  blank : sized low rack ≡ true → text ≡ [] → space_length ≤ length space → Ran rack text space (recorded blank_record) rack (over 0 blank_record space)
  bad-line : {line : ℕ} → sized low rack ≡ true → length text ≤ longest → space_length ≤ length space → FirstBad (lines_of text) line
      → Ran rack text space (turned_back 4 line) rack space
  -- 5 or 13. W-207: "demand 2 now takes a text only if the settings it names are in range"
  bad-asked : {t : Trace} → sized low rack ≡ true → length text ≤ longest → space_length ≤ length space → Holds text t → asked_number (kind_of t) t.n ≢ 0
      → Ran rack text space (turned_back (asked_number (kind_of t) t.n) 0) rack space
  ran : {t : Trace} → sized low rack ≡ true → length text ≤ longest → space_length ≤ length space → Holds text t → asked_number (kind_of t) t.n ≡ 0
      → Ran rack text space (recorded (record_text t)) (write (last_of t)) (over 0 (record_text t) space)

-- `(bad K L)`, ended by a line feed
unfoldable pub bad_line : ℕ → ℕ → List ℕ
bad_line number line = bytes "(bad " ++ (decimal number ++ (bytes " " ++ (decimal line ++ bytes ")\n")))

-- "The program [..] prints the record, or `(bad K L)`: K the number, L the first line that doesn't fit for number 4, otherwise 0.": by a
-- run's answer, and the record space after it
unfoldable pub output : RunAnswer → List ℕ → List ℕ
output a space = elim (eqb a.number 0) [ true ↦ take a.length space | false ↦ bad_line a.number a.line ]
