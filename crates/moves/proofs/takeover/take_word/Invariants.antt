-- `moves::takeover::take_word` meets its contract. The loop's invariant: u's row has gained the owners of the word, those before some place have lost
-- their edges to u, and the others are left. Assumes nothing.
use mathlib.Core.Path.{◌≡◌}
use Rattle.model.specs.Shape.{low}
use Rattle.model.specs.Bytes.{read}
use Rattle.moves.specs.Proper.{owner_at}
use Rattle.moves.proofs.TakeWord.{TakeWord}
use Rattle.moves.proofs.takeover.take_word.Given as goal

abbrev pub invariant-loop-w : goal.invariant-loop-w
invariant-loop-w l =
    let s = read low l.fn.rack in
    (l.w-iterator.word ≡ l.k) × TakeWord s l.u l.k (owner_at s l.q l.u) l.missing l.rack l.w-iterator.rest l.left
