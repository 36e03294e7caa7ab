-- The line of an answer, by its number, and how long it is. Assumes nothing.
use Rattle.std.proofs.Common.{◌≡◌, ◌≤◌, ◌≢◌, ◌++◌, length, inl, inr, arith}
use Rattle.model.specs.Text.{bytes, decimal, largest}
use Rattle.model.specs.Change.{Answer}
use Rattle.model.specs.Record.{answer_line}
use Rattle.model.proofs.Tests.{eq?, eqb_yes, eqb_no}
use Rattle.text.specs.Rooms.{answer_room}
use Rattle.text.proofs.Lengths.{one-most, three-most}

pub done-line : (x : Answer) → x.number ≡ 0
    → answer_line x ≡ bytes "(done (draws " ++ (decimal x.draws
    ++ (bytes ") (falls " ++ (decimal x.falls ++ (bytes ") (pairs " ++ (decimal x.pairs ++ bytes "))\n")))))
unfolding answer_line
done-line x h = rw (eqb_yes x.number 0 h, answer_line)

pub refused-line : (x : Answer) → x.number ≢ 0 → answer_line x ≡ bytes "(refused " ++ (decimal x.number ++ bytes ")\n")
unfolding answer_line
refused-line x h = rw (eqb_no x.number 0 h, answer_line)

-- the figures of an answer fit 32 bits
pub record Figures (x : Answer) : Type 0 where
  pub number_fits : x.number ≤ largest
  pub draws-fit : x.draws ≤ largest
  pub falls-fit : x.falls ≤ largest
  pub pairs-fit : x.pairs ≤ largest

-- whatever they are, there is room for its line
pub answer-most : (x : Answer) → Figures x → length (answer_line x) ≤ answer_room
answer-most x h = elim (eq? x.number 0) [
  | inl p ↦
      let done = bytes "(done (draws " in
      let falls = bytes ") (falls " in
      let pairs = bytes ") (pairs " in
      let end = bytes "))\n" in
      rw (done-line x p)
      (omega (arith, three-most done x.draws falls x.falls pairs x.pairs end h.draws-fit h.falls-fit h.pairs-fit))
  | inr p ↦ rw (refused-line x p) (omega (arith, one-most (bytes "(refused ") x.number (bytes ")\n") h.number_fits))
]
