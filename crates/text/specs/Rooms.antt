-- How much room the lines of a record need. Assumes nothing.
use Rattle.std.specs.Prelude.{ℕ, ◌+◌, ◌*◌}
use Rattle.model.specs.Shape.{low}

-- how many bytes a printer is lent at least: no short first line, first line of either form, answer's line, pair's line, end line and
-- line of a run turned back, of figures of 32 bits, is longer
abbrev pub short_room : ℕ
short_room = 27

abbrev pub rack_room : ℕ
rack_room = 64

abbrev pub answer_room : ℕ
answer_room = 64

abbrev pub pair_room : ℕ
pair_room = 50

abbrev pub end_room : ℕ
end_room = 54

abbrev pub bad_room : ℕ
bad_room = 28

-- the lines after those of the changes: a pair's line for each vertex, and the end line
abbrev pub ending_room : ℕ
ending_room = pair_room * low.most + end_room
