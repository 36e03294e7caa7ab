-- `run::put_ending` meets its contract. Assumes nothing.
use Prim.Native.Nat.{◌+◌, ◌≤◌}
use native.Mathlib.Omega.{arith}
use lib.ListN.{length}
use Rattle.model.specs.Shape.{low}
use Rattle.model.specs.State.{State}
use Rattle.model.specs.Bytes.{read}
use Rattle.text.specs.Rooms.{end_room}
use Rattle.text.proofs.Over.{put_then, put-kept, length_part}
use Rattle.trace.proofs.Bound.{Small, pairs-most, end-most}
use Rattle.trace.proofs.RecordFits.{valid-small}
use Rattle.run.specs.Recording.{ending_text}
use Rattle.run.proofs.Turns.{sounded-valid}
use Rattle.run.proofs.put_ending.Goals.{After-put_pairs-at}
use Rattle.run.proofs.put_ending.Goals as goal

abbrev state : After-put_pairs-at → State
state c = read low c.args.rack.now

-- a valid state's lines are short
small : (c : After-put_pairs-at) → Small (state c)
small c = valid-small _ (sounded-valid c.requires.sounded)

lines-few : (c : After-put_pairs-at) → c.put_pairs-at.result + end_room ≤ length c.args.out.now
lines-few c = omega (arith, c.requires.ending_room_in_bounds, pairs-most (state c) (small c), c.put_pairs-at.ensures.count)

-- the lines of the pairs leave room for the end line
room : (c : After-put_pairs-at) → c.put_pairs-at.result + end_room ≤ length c.put_pairs-at.new.out
room c = omega (arith, lines-few c, put-kept c.put_pairs-at.ensures (omega (arith, lines-few c)))

pub slice_bounds-put_last-count : goal.slice_bounds-put_last-count
slice_bounds-put_last-count c = omega (arith, room (goal.at.slice_bounds-put_last-count c).After-put_pairs-at)

pub slice_bounds-put_last-start : goal.slice_bounds-put_last-start
slice_bounds-put_last-start c = omega (arith, room (goal.at.slice_bounds-put_last-start c).After-put_pairs-at)

pub put_last-requires-clause-end_room_in_bounds : goal.put_last-requires-clause-end_room_in_bounds
put_last-requires-clause-end_room_in_bounds c =
    let w = c.put_pairs-at in
    omega (arith, room (goal.at.put_last-requires-clause-end_room_in_bounds c).After-put_pairs-at, length_part w.result w.new.out)

pub overflow_add-result : goal.overflow_add-result
overflow_add-result c = record {
  fits = omega (
    arith,
    c.put_last.ensures.count,
    end-most (state (goal.at.overflow_add-result c).After-put_pairs-at) (small (goal.at.overflow_add-result c).After-put_pairs-at),
    c.put_pairs-at.ensures.count,
    pairs-most (state (goal.at.overflow_add-result c).After-put_pairs-at) (small (goal.at.overflow_add-result c).After-put_pairs-at),
  );
}

pub returns : goal.returns
unfolding ending_text
returns c = let w = c.put_pairs-at.ensures in
    put_then w c.put_last.ensures (omega (arith, lines-few (goal.at.returns c).After-put_pairs-at, w.count))
