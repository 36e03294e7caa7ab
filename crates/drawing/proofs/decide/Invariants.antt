-- `drawing::decide` meets its contract. Assumes nothing.
use mathlib.Core.Path.{◌≡◌}
use Rattle.model.specs.Words.{deciding}
use Rattle.drawing.proofs.decide.Given as goal

-- what decides is the same from the word at hand on
abbrev pub invariant-loop-j : goal.invariant-loop-j
invariant-loop-j l = deciding l.words l.used l.k ≡ deciding l.words l.j l.k
