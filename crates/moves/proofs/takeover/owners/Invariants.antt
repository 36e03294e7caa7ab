-- `moves::takeover::owners` meets its contract. The loop's invariant: what is found are the owners before some place of the word, and the vertices
-- of the roster from there on are left. Assumes nothing.
use mathlib.Core.Path.{◌≡◌}
use Prim.Native.Nat.{ℕ, ◌+◌, ◌*◌}
use Rattle.model.specs.Shape.{low}
use Rattle.model.specs.Bytes.{roster_at, read}
use Rattle.moves.specs.Proper.{owner_at}
use Rattle.moves.proofs.Search.{Search}
use Rattle.moves.proofs.takeover.owners.Given as goal

abbrev pub invariant-loop-w : goal.invariant-loop-w
invariant-loop-w l =
    let listed = λ (j : ℕ). roster_at low l.rack l.q (64 * l.k + j) in
    let owner = λ (j : ℕ). owner_at (read low l.rack) l.q l.u (64 * l.k + j) in
    (l.w-iterator.word ≡ l.k) × Search listed owner l.missing l.left l.found l.w-iterator.rest
