-- `moves::hand_word` meets its contract. The loop's invariant: the edges that go before some place of the word are handed on, and the others
-- that go are left. Assumes nothing.
use mathlib.Core.Path.{◌≡◌}
use Rattle.model.specs.Shape.{low}
use Rattle.model.specs.Bytes.{read}
use Rattle.moves.proofs.HandWord.{Handing}
use Rattle.moves.proofs.hand_word.Given as goal

abbrev pub invariant-loop-w : goal.invariant-loop-w
invariant-loop-w l = (l.w-iterator.word ≡ l.k) × Handing (read low l.initial.rack) l.i l.v l.k l.rack l.w-iterator.rest
