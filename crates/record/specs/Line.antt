-- The lines of a record by their figures. That a state's lines in `model` are these is a law (proofs/Laws.antt). Assumes nothing.
use Rattle.std.specs.Prelude.{List, ◌++◌, ℕ, Option, None, Some}
use Rattle.model.specs.Text.{bytes, decimal}
use Rattle.model.specs.Change.{Answer}
use Rattle.model.specs.Record.{Mean}
use Rattle.calls.specs.declared.Settings.{Settings}

-- how many bytes the settings in line 1 need at most
abbrev pub settings_room : Option Settings → ℕ
settings_room None = 0
settings_room (Some x) = 37

-- a line of one figure, and one of three
unfoldable pub one_text : List ℕ → ℕ → List ℕ → List ℕ
one_text p x e = p ++ (decimal x ++ e)

unfoldable pub three_text : List ℕ → ℕ → List ℕ → ℕ → List ℕ → ℕ → List ℕ → List ℕ
three_text p x q y r z e = p ++ (decimal x ++ (q ++ (decimal y ++ (r ++ (decimal z ++ e)))))

-- an answer by its figures
abbrev pub answered : ℕ → ℕ → ℕ → ℕ → Answer
answered number draws falls pairs = record { number = number; draws = draws; falls = falls; pairs = pairs }

-- the line of a change made
abbrev pub done_text : ℕ → ℕ → ℕ → List ℕ
done_text draws falls pairs = three_text (bytes "(done (draws ") draws (bytes ") (falls ") falls (bytes ") (pairs ") pairs (bytes "))\n")

-- the line of a change refused
abbrev pub refused_text : ℕ → List ℕ
refused_text number = one_text (bytes "(refused ") number (bytes ")\n")

-- "A pair's line is `(pair (A B) (level L))`, A the lower board and L their level."
abbrev pub pair_text : ℕ → ℕ → ℕ → List ℕ
pair_text a b level = three_text (bytes "(pair (") a (bytes " ") b (bytes ") (level ") level (bytes "))\n")

-- a mean by its figures
abbrev pub mean_of : ℕ → ℕ → Mean
mean_of whole rest = record { whole = whole; rest = rest }
