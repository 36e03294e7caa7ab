-- Laws of the lines of a record: how much room line 1 needs, and that the lines of `model` are these. Assumes nothing.
use Rattle.std.proofs.Common.{Option, None, Some, ◌+◌, ◌≤◌, ◌≡◌, ◌≢◌, ℕ, ◌-◌, refl, arith}
use Rattle.model.specs.State.{State}
use Rattle.model.specs.Change.{Answer}
use Rattle.model.specs.Record.{answer_line, pair_line}
use Rattle.text.specs.Rooms.{short_room, rack_room}
use Rattle.text.proofs.Answers.{done-line, refused-line}
use Rattle.calls.specs.declared.Settings.{Settings}
use Rattle.record.specs.Line.{settings_room, one_text, three_text, done_text, refused_text, pair_text}

-- line 1 of either form has room where there is room for the long one
pub first-most : (x : Option Settings) → short_room + settings_room x ≤ rack_room
first-most None = omega arith
first-most (Some x) = omega arith

-- a change's line, by its number
pub answer-done : (x : Answer) → x.number ≡ 0 → answer_line x ≡ done_text x.draws x.falls x.pairs
unfolding three_text
answer-done x h = done-line x h

pub answer-refused : (x : Answer) → x.number ≢ 0 → answer_line x ≡ refused_text x.number
unfolding one_text
answer-refused x h = refused-line x h

pub pair_line_lem : (s : State) (v : ℕ) → pair_line s v ≡ pair_text v (s.mate v) (s.rank v - 1)
unfolding pair_line three_text
pair_line_lem s v = refl
