-- `bitset::set_word` meets its contract. The loop's invariant: the first j bytes of the word are written. Assumes nothing.
use mathlib.Core.Path.{◌≡◌}
use Rattle.bitset.specs.Words.{stored_bytes}
use Rattle.bitset.proofs.set_word.Given as goal

abbrev pub invariant-loop-j : goal.invariant-loop-j
invariant-loop-j l = l.row ≡ stored_bytes l.initial.row l.i l.x l.j
