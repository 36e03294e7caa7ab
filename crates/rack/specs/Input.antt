-- What a reading may answer. Assumes nothing.
use Rattle.std.specs.Prelude.{◌≡◌, ℕ, ◌<◌, ◌≤◌, min, List, length, take, Option, Result, Ok, Err}
use Rattle.std.specs.Io.KnownBytes.{Consumes, IsAtEnd, Keeps}
use Rattle.std.specs.declared.io.Error.{Error}

-- what an answer of std's `read` says, where there is room for so many bytes: how many came, 0 at the end of the input, or a failure
abbrev pub reading_of : Result ℕ Error → ℕ → Result ℕ Error
reading_of (Ok n) room = Ok (min n room)
reading_of (Err e) room = Err e

-- no more bytes than there was room for
abbrev pub Within : Result ℕ Error → ℕ → Type 0
Within (Ok n) room = n ≤ room
Within (Err e) room = Unit {0}

-- of an input whose bytes are known, before and after a read: so many came, and stand at the start of the part, none only at the end of the input or
-- where there is no room; or by a failure none were lost
abbrev pub Came : Result ℕ Error → Option (List ℕ) → Option (List ℕ) → List ℕ → Type 0
Came (Ok n) old new part = Consumes old new (take n part) × (n ≡ 0 → 0 < length part → IsAtEnd new)
Came (Err e) old new part = Keeps old new

-- likewise of a text that is read: fewer bytes than there is room for come only where the input ended; and those that came before a failure stand
-- at the text's start too
abbrev pub Collected : Result ℕ Error → Option (List ℕ) → Option (List ℕ) → List ℕ → Type 0
Collected (Ok n) old new text = Consumes old new (take n text) × (n < length text → IsAtEnd new)
Collected (Err e) old new text = (n : ℕ) × (n ≤ length text) × Consumes old new (take n text)
