-- `drawing::decide` meets its contract. Assumes nothing.
use mathlib.Core.Path.{◌≡◌, sym, ◌∙◌}
use mathlib.Core.Logic.{inl, inr}
use native.Mathlib.Omega.{arith}
use lib.ListN.{length}
use Rattle.model.proofs.Deciding.{deciding-here, deciding-next, deciding-past, place_of, place-past}
use Rattle.model.proofs.Tests.{le?}
use Rattle.model.specs.Words.{deciding}
use Rattle.drawing.proofs.decide.Goals as goal

pub returns-then-chooses : goal.returns-then-chooses
returns-then-chooses c = let a = c.args in
    let j = c.loop-j.j in
    let e = c.loop-j.invariant ∙ deciding-here a.words.now a.k j c.loop-j-test.true (sym c.chooses.ensures ∙ c.if-chooses.true) in
    (sym e, sym (place_of a.words.now a.used a.k j e))

pub loop-j-preserved : goal.loop-j-preserved
loop-j-preserved c = let a = c.args in
    c.loop-j.invariant
    ∙ deciding-next a.words.now a.k c.loop-j.j (omega arith) c.loop-j-test.true (sym c.chooses.ensures ∙ c.if-chooses.false)

pub returns : goal.returns
returns c = let a = c.args in
    let words = a.words.now in
    let number : c.max.result ≡ deciding words a.used a.k = elim (le? (length words) a.used) [
      | inl past ↦ omega (arith, deciding-past words a.k a.used past)
      | inr here ↦ omega (arith, c.loop-j.invariant, deciding-past words a.k c.loop-j.j c.loop-j-test.false)
    ] in
    (number, sym (place-past words a.used a.k c.max.result (sym number) (omega arith)))
