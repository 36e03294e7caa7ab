-- `lines::words_at` meets its contract. The invariant is `GotWords`: the words read stand there, and any text of words that stands there
-- starts with them. Assumes nothing.
use Prim.Native.Nat.{◌≤◌}
use lib.ListN.{length, take}
use Rattle.lines.proofs.Words.{GotWords}
use Rattle.lines.proofs.words_at.Given as goal

abbrev pub invariant-loop-count : goal.invariant-loop-count
invariant-loop-count l = (128 ≤ length l.words) × GotWords l.text l.at (take l.count l.words) l.i
