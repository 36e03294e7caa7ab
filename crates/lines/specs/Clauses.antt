-- What the readers of `src/` must answer. Assumes nothing.
use Rattle.std.specs.Prelude.{◌≡◌, List, ℕ, ◌+◌, ◌≤◌, get_or, take, Option, None, Some, IfSome, Result, Ok, Err}
use Rattle.model.specs.Text.{bytes}
use Rattle.model.specs.Moves.{Ends as EndsOf}
use Rattle.model.specs.Change.{Change}
use Rattle.model.specs.Trace.{Settings as SettingsOf, SettingsFit, code_text, change_line, LineChange}
use Rattle.calls.specs.declared.Kind.{Kind}
use Rattle.calls.specs.declared.Settings.{Settings}
use Rattle.calls.specs.Terms.{code_of, named_by}
use Rattle.text.specs.Number.{NumberAt}
use Rattle.text.specs.Literal.{LiteralAt}
use Rattle.text.specs.Reading.{ReadAt}
use Rattle.lines.specs.Pieces.{first_line, FitFirst, rack_end, long_end, FitLong, IsCode, ends_text, FitEnds, words_text, FitWords}
use Rattle.lines.specs.declared.FirstLine.{FirstLine}
use Rattle.lines.specs.declared.Ends.{Ends}
use Rattle.lines.specs.declared.Line.{Line}
use Rattle.lines.specs.declared.Missing.{Missing}
use Rattle.lines.specs.declared.Missing.TheVariants.{Space, Number}

-- the end of a long line 1, of any line 1 after its N, and line 1 as a whole: each is found there, or absent
abbrev pub pair_of : Settings → ℕ × ℕ
pair_of x = (x.growth, x.top)

abbrev pub LongAt : List ℕ → ℕ → Option (Settings × ℕ) → Type 0
LongAt = ReadAt long_end FitLong pair_of

abbrev pub RackEndAt : List ℕ → ℕ → Option (Option Settings × ℕ) → Type 0
RackEndAt = ReadAt rack_end SettingsFit named_by

abbrev pub first_of : FirstLine → ℕ × SettingsOf
first_of x = (x.n, named_by x.settings)

abbrev pub RackAt : List ℕ → ℕ → Option (FirstLine × ℕ) → Type 0
RackAt = ReadAt first_line FitFirst first_of

-- a change's kind and its vertices
abbrev pub CodeAt : List ℕ → ℕ → Option (Kind × ℕ) → Type 0
CodeAt = ReadAt code_text IsCode code_of

abbrev pub ends_of : Ends → EndsOf
ends_of x = record { a = x.a; b = x.b }

abbrev pub EndsAt : List ℕ → ℕ → Option (Ends × ℕ) → Type 0
EndsAt = ReadAt ends_text FitEnds ends_of

-- the word after the space at `at`; or that no space stands there, or one that no number follows
abbrev pub WordAt : List ℕ → ℕ → Result (ℕ × ℕ) Missing → Type 0
WordAt s at (Ok (w, next)) = (get_or s at 0 ≡ 32) × NumberAt s (at + 1) (Some (w, next))
WordAt s at (Err Space) = get_or s at 0 ≡ 32 → ⊥
WordAt s at (Err Number) = (get_or s at 0 ≡ 32) × NumberAt s (at + 1) None

-- the line's end after count words
abbrev pub LineEndAt : List ℕ → ℕ → ℕ → Option (ℕ × ℕ) → Type 0
LineEndAt s at count (Some (k, next)) = (k ≡ count) × LiteralAt s at (bytes "))\n") (Some next)
LineEndAt s at count None = LiteralAt s at (bytes "))\n") None

-- the words stand in the first count places of `words`
abbrev pub WordsAt : List ℕ → ℕ → List ℕ → Option (ℕ × ℕ) → Type 0
WordsAt s at words read = IfSome read (λ x. x.0 ≤ 128) × ReadAt words_text FitWords (λ count. take count words) s at read

-- the change whose line was read
abbrev pub change_of : List ℕ → Line → Change
change_of words x = record { code = code_of x.kind; a = x.a; b = x.b; words = take x.count words }

abbrev pub ChangeAt : List ℕ → ℕ → List ℕ → Option (Line × ℕ) → Type 0
ChangeAt s at words read = IfSome read (λ x. x.0.count ≤ 128) × ReadAt change_line LineChange (change_of words) s at read
