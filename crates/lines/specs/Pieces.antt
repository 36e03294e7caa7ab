-- The lines of a trace in pieces, and what each piece may hold: line 1 up to its N, and its end; a change's line in three, `(add (`, `A B) (draws`
-- and the words with the line's end. That the pieces make the lines of `model` is a law of each (proofs/Laws.antt). Assumes nothing.
use Rattle.std.specs.Prelude.{◌≡◌, ◌⊎◌, List, ◌++◌, ℕ, ◌≤◌, length}
use Rattle.model.specs.Lists.{All}
use Rattle.model.specs.Text.{bytes, decimal, largest, texts}
use Rattle.model.specs.Moves.{Ends}
use Rattle.model.specs.Trace.{Settings, settings_text, SettingsFit, rack_line, word_text}

-- line 1 by its two values, N and the settings
abbrev pub first_line : ℕ × Settings → List ℕ
first_line x = rack_line x.0 x.1

abbrev pub FitFirst : ℕ × Settings → Type 0
FitFirst x = (x.0 ≤ largest) × SettingsFit x.1

-- its end, after N
unfoldable pub rack_end : Settings → List ℕ
rack_end x = bytes ")" ++ (settings_text x ++ bytes ")\n")

-- "`(rack (boards N) (growth G) (top T))`": the end of the long line, by G and T
unfoldable pub long_end : ℕ × ℕ → List ℕ
long_end x = bytes ") (growth " ++ (decimal x.0 ++ (bytes ") (top " ++ (decimal x.1 ++ bytes "))\n")))

abbrev pub FitLong : ℕ × ℕ → Type 0
FitLong x = (x.0 ≤ largest) × (x.1 ≤ largest)

-- add or drop
abbrev pub IsCode : ℕ → Type 0
IsCode code = (code ≡ 1) ⊎ (code ≡ 2)

-- `A B) (draws`
unfoldable pub ends_text : Ends → List ℕ
ends_text e = decimal e.a ++ (bytes " " ++ (decimal e.b ++ bytes ") (draws"))

-- numbers of 32 bits: two vertices, one number, and at most 128 words
abbrev pub FitEnds : Ends → Type 0
FitEnds e = (e.a ≤ largest) × (e.b ≤ largest)

-- the words, `))` and a line feed
unfoldable pub words_text : List ℕ → List ℕ
words_text ws = texts word_text ws ++ bytes "))\n"

abbrev pub Fit : ℕ → Type 0
Fit x = x ≤ largest

abbrev pub FitWords : List ℕ → Type 0
FitWords ws = (length ws ≤ 128) × All Fit ws
