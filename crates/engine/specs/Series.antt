-- A series of changes, each call on the bytes that the one before it left, and what demand 3 says of it: of the answers and bytes that the
-- calls gave, by the contract of `engine::change` alone. Assumes nothing.
use Rattle.std.specs.Prelude.{List, [], ◌∷◌, ℕ}
use Rattle.model.specs.Shape.{Shape}
use Rattle.model.specs.Change.{Change, Answer}
use Rattle.model.specs.Calls.{ChangedBytes, change_bytes}
use Rattle.model.specs.Ledger.{Ledger, Told, entered, entered_all}
use Rattle.theory.specs.Demand.{told_of, Call, Facts}
use Rattle.engine.specs.Answers.{ChangeGives}

-- one call: what was asked, what it answered, and the rack's bytes after it
pub record CallMade : Type 0 where
  pub change : Change
  pub answer : Answer
  pub after : List ℕ

-- each call meets the contract of `engine::change`
unfoldable pub Series : Shape → List ℕ → List CallMade → Type 0
Series S bs [] = Unit
Series S bs (d ∷ ds) = ChangeGives S bs d.change d.answer d.after × Series S d.after ds

-- the changes that were asked for
unfoldable pub asked : List CallMade → List Change
asked [] = []
asked (d ∷ ds) = d.change ∷ asked ds

-- what the ledger is told of them: each on the rack that the one before it left
unfoldable pub tellings : Shape → List ℕ → List CallMade → List Told
tellings S bs [] = []
tellings S bs (d ∷ ds) = told_of S bs d.change ∷ tellings S d.after ds

-- the bytes after the last call
unfoldable pub left : List ℕ → List CallMade → List ℕ
left bs [] = bs
left bs (d ∷ ds) = left d.after ds

-- what a call gave; its new pairs are the definition's
unfoldable pub gave : Shape → List ℕ → CallMade → ChangedBytes
gave S bs d = record {
  answer = d.answer;
  rack = d.after;
  news = (change_bytes S bs d.change).news;
}

-- each call gave what demand 3 says of a call, by the ledger as it then stands
unfoldable pub Right : Shape → Ledger → List ℕ → List CallMade → Type 0
Right S l bs [] = Unit
Right S l bs (d ∷ ds) = Call S l bs d.change (gave S bs d) × Right S (entered l (told_of S bs d.change)) d.after ds

-- demand 3 of the calls made
pub record SeriesDemand (S : Shape) (l : Ledger) (bs : List ℕ) (ds : List CallMade) : Type 0 where
  pub calls : Right S l bs ds
  pub last : Facts S (entered_all l (tellings S bs ds)) (left bs ds)
