-- What the calls answer, in the code's types: figure by figure the definitions' answers. Assumes nothing.
use Rattle.std.specs.Prelude.{◌≡◌, ◌≢◌, Bool, true, false, List, ℕ, ℤ, pos, ltb, eqb, length, ◌≤◌, Option, None, Some, Result, Ok, Err}
use Rattle.std.specs.Borrow.{Bor}
use Rattle.model.specs.Shape.{Shape, rack_length}
use Rattle.model.specs.Change.{Change, Answer}
use Rattle.model.specs.Calls.{rack_number, one_number, at_level, change_bytes, AuditAnswer, LevelAnswer, QueryAnswer}
use Rattle.calls.specs.declared.Refusal.{Refusal}
use Rattle.calls.specs.declared.Refusal.TheVariants.{RackLength}
use Rattle.calls.specs.declared.Figures.{Figures}
use Rattle.calls.specs.Terms.{number_of, told}

-- the bytes as they are, if they are as many as a rack has, or the refusal of their length
abbrev pub Sizes : Shape → List ℕ → Result (Bor (List ℕ)) Refusal → Type 0
Sizes S bs (Ok rack) = (rack.now ≡ bs) × (length bs ≡ rack_length S)
Sizes S bs (Err why) = (why ≡ RackLength) × (length bs ≢ rack_length S)

-- "6. The rack isn't sound.", or 0
abbrev pub sound_number : Bool → ℕ
sound_number true = 0
sound_number false = 6

-- the bytes as they are, if neither 1 nor 6 fits, or the first that fits
abbrev pub SoundRack : Shape → List ℕ → Result (Bor (List ℕ)) Refusal → Type 0
SoundRack S bs (Ok rack) = (rack.now ≡ bs) × (rack_number S bs ≡ 0)
SoundRack S bs (Err why) = rack_number S bs ≡ number_of why

-- the same, of 1, 6 and 8 for a query that names one board
abbrev pub Names : Shape → List ℕ → ℕ → Result (Bor (List ℕ)) Refusal → Type 0
Names S bs v (Ok rack) = (rack.now ≡ bs) × (one_number S bs v ≡ 0)
Names S bs v (Err why) = one_number S bs v ≡ number_of why

-- 8 or 9 for the second board that a query names, or 0
abbrev pub other_number : ℕ → ℕ → ℕ → ℕ
other_number n v w = elim (ltb w n) [ false ↦ 8 | true ↦ elim (eqb v w) [ true ↦ 9 | false ↦ 0 ] ]

-- the rank of a level, if it is at most the highest one, or that no such rank is the level's
abbrev pub Ranks : ℕ → ℤ → Option ℕ → Type 0
Ranks highest level None = (x : ℕ) → x ≤ highest → at_level level x ≡ false
Ranks highest level (Some r) = (r ≤ highest) × ((x : ℕ) → at_level level x ≡ eqb x r)

-- what a change with c on the bytes bs answers, in the definitions' words, and the bytes that it leaves
pub record ChangeGives (S : Shape) (bs : List ℕ) (c : Change) (x : Answer) (after : List ℕ) : Type 0 where
  pub answers : x ≡ (change_bytes S bs c).answer
  pub leaves : after ≡ (change_bytes S bs c).rack

-- the same of what the code answers
abbrev pub ChangeIs : Shape → List ℕ → Change → Result Figures Refusal → List ℕ → Type 0
ChangeIs S bs c r after = ChangeGives S bs c (told r) after

-- what the audit answers, and then a query of the level, and one of a number
abbrev pub audited : Result Bool Refusal → AuditAnswer
audited (Ok good) = record { number = 0; yes = good }
audited (Err why) = record { number = number_of why; yes = false }

abbrev pub leveled : Result ℤ Refusal → LevelAnswer
leveled (Ok level) = record { number = 0; level = level }
leveled (Err why) = record { number = number_of why; level = pos 0 }

abbrev pub queried : Result ℕ Refusal → QueryAnswer
queried (Ok value) = record { number = 0; value = value }
queried (Err why) = record { number = number_of why; value = 0 }

abbrev pub AuditIs : Result Bool Refusal → AuditAnswer → Type 0
AuditIs r x = audited r ≡ x

abbrev pub LevelIs : Result ℤ Refusal → LevelAnswer → Type 0
LevelIs r x = leveled r ≡ x

abbrev pub QueryIs : Result ℕ Refusal → QueryAnswer → Type 0
QueryIs r x = queried r ≡ x
