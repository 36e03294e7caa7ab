-- The numbers that stand for kinds of change and for refusals, and the answer of a change by its figures. Assumes nothing.
use Rattle.std.specs.Prelude.{◌≡◌, ℕ, Option, None, Some, Result, Ok, Err}
use Rattle.model.specs.Change.{Answer, refused}
use Rattle.model.specs.Trace.{Settings as SettingsOf, short, long}
use Rattle.model.specs.State.{Kind as RackKind, low_with}
use Rattle.calls.specs.declared.Kind.{Kind}
use Rattle.calls.specs.declared.Kind.TheVariants.{Add, Drop}
use Rattle.calls.specs.declared.Refusal.{Refusal}
use Rattle.calls.specs.declared.Refusal.TheVariants.{RackLength, TextLength, SpaceLength, Line, Boards, Unsound, Code, NoBoard, SameBoard, Linked, NotLinked, Words, Setting}
use Rattle.calls.specs.declared.Settings.{Settings}
use Rattle.calls.specs.declared.Figures.{Figures}

-- "add (code 1) or drop (code 2)"
abbrev pub code_of : Kind → ℕ
code_of Add = 1
code_of Drop = 2

-- the kind with this code, or the refusal of a code that no kind has
abbrev pub Decodes : ℕ → Result Kind Refusal → Type 0
Decodes code (Ok kind) = code ≡ code_of kind
Decodes code (Err why) = ((kind : Kind) → code ≡ code_of kind → ⊥) × (why ≡ Code)

-- "Turned back, first fit first": the number of each refusal
abbrev pub number_of : Refusal → ℕ
number_of RackLength = 1
number_of TextLength = 2
number_of SpaceLength = 3
number_of (Line line) = 4
number_of Boards = 5
number_of Unsound = 6
number_of Code = 7
number_of NoBoard = 8
number_of SameBoard = 9
number_of Linked = 10
number_of NotLinked = 11
number_of Words = 12
number_of Setting = 13

-- the line that it names: 0 but for number 4
abbrev pub line_of : Refusal → ℕ
line_of (Line line) = line
line_of _ = 0

-- the number that a call answers: 0 if it ran
abbrev pub outcome : {A : Type 0} → Result A Refusal → ℕ
outcome (Ok x) = 0
outcome (Err why) = number_of why

-- what a change answers, figure by figure; "with all other figures 0" if it was turned back
abbrev pub told : Result Figures Refusal → Answer
told (Ok x) = record { number = 0; draws = x.draws; falls = x.falls; pairs = x.pairs }
told (Err why) = refused (number_of why)

-- the settings that line 1 of a text names, or that it is the short line
abbrev pub named_by : Option Settings → SettingsOf
named_by None = short
named_by (Some x) = long x.growth x.top

-- the kind of a rack with these settings
abbrev pub kind_with : Settings → RackKind
kind_with x = low_with x.growth x.top
