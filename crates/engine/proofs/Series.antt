-- Demand 3 of `engine::change`: whatever series of calls is made from a sound rack, what they answer and leave is as it says, since each
-- call meets the contract. Assumes nothing.
use mathlib.Core.Path.{◌≡◌, sym, subst}
use mathlib.Core.List.{List, [], ◌∷◌}
use Prim.Native.Nat.{ℕ}
use lib.Dec.{T}
use Rattle.model.specs.Shape.{Shape, GoodShape, low}
use Rattle.model.specs.Sound.{sound}
use Rattle.model.specs.Valid.{IsBytes}
use Rattle.model.specs.Calls.{sized, change_bytes}
use Rattle.model.specs.Ledger.{Ledger, ledger_of, entered, entered_all}
use Rattle.theory.specs.Demand.{last_rack, told_of, told_all, Call, Calls, Demand}
use Rattle.model.proofs.Shapes.{low-good}
use Rattle.theory.specs.Rosters.{Rosters}
use Rattle.theory.proofs.ListTheorem.{demand-three}
use Rattle.theory.proofs.Rosters.{rosters-of}
use Rattle.engine.specs.Answers.{ChangeGives}
use Rattle.engine.specs.Series.{CallMade, Series, asked, tellings, left, gave, Right, SeriesDemand}

-- a call that meets the contract gave what the definition gives
gave-is : (S : Shape) (bs : List ℕ) (d : CallMade) → ChangeGives S bs d.change d.answer d.after → change_bytes S bs d.change ≡ gave S bs d
unfolding gave
gave-is S bs d h = λ i. record { answer = sym h.answers i; rack = sym h.leaves i; news = (change_bytes S bs d.change).news }

-- a series that meets the contract call by call is one of the definition's
kept : (S : Shape) (l : Ledger) (bs : List ℕ) (ds : List CallMade) → Series S bs ds → Demand S l bs (asked ds) → SeriesDemand S l bs ds
unfolding Series asked tellings left Right Calls last_rack told_all entered_all
kept S l bs [] h p = record { calls = tt; last = p.last }
kept S l bs (d ∷ ds) h p =
    let e : (change_bytes S bs d.change).rack ≡ d.after = sym h.0.leaves in
    let then : Ledger = entered l (told_of S bs d.change) in
    let next : Demand S then d.after (asked ds) =
    subst (λ (x : List ℕ). Demand S then x (asked ds)) e (record { calls = p.calls.1; last = p.last }) in
    let rest : SeriesDemand S then d.after ds = kept S then d.after ds h.1 next in
    record {
      calls = (subst (Call S l bs d.change) (gave-is S bs d h.0) p.calls.0, rest.calls);
      last = rest.last;
    }

-- From any sound rack of any good shape, whatever the codes, the vertices and the words of the calls.
pub demand-three-of-series : (S : Shape) → GoodShape S → (bs : List ℕ) → IsBytes bs → T (sized S bs) → T (sound S bs)
    → (ds : List CallMade) → Series S bs ds → SeriesDemand S (ledger_of S bs) bs ds
demand-three-of-series S good bs by sz so ds h = kept S (ledger_of S bs) bs ds h (demand-three S good bs by sz so (asked ds))

-- Of the calls of `engine::change`, whose contract is that of document 01's rack.
pub demand-three-of-change : (bs : List ℕ) → IsBytes bs → T (sized low bs) → T (sound low bs)
    → (ds : List CallMade) → Series low bs ds → SeriesDemand low (ledger_of low bs) bs ds
demand-three-of-change = demand-three-of-series low low-good

-- W-205: and so the rosters are the levels, whatever calls were made.
pub rosters-of-change : (bs : List ℕ) → IsBytes bs → T (sized low bs) → T (sound low bs)
    → (ds : List CallMade) → Series low bs ds → Rosters low (entered_all (ledger_of low bs) (tellings low bs ds)) (left bs ds)
rosters-of-change bs by sz so ds h = rosters-of (demand-three-of-change bs by sz so ds h).last
