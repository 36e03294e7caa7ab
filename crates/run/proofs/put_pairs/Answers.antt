-- `run::put_pairs` meets its contract. The invariant is `Listed` of `Pairs`. Assumes nothing.
use mathlib.Core.Path.{◌≡◌, ◌∙◌}
use Prim.Native.Nat.{◌+◌, ◌≤◌, ◌<◌}
use native.Mathlib.Omega.{arith}
use lib.ListN.{length}
use Rattle.model.specs.Shape.{low}
use Rattle.model.specs.Bytes.{read}
use Rattle.text.specs.Rooms.{pair_room}
use Rattle.text.proofs.Over.{length_part}
use Rattle.moves.proofs.Held.{held-size, held-few}
use Rattle.changes.proofs.Wholes.{sounded-held}
use Rattle.run.proofs.Pairs.{listed_start, listed-room, listed-turn, listed-end}
use Rattle.run.proofs.put_pairs.Goals.{At-loop-v, In-loop-v}
use Rattle.run.proofs.put_pairs.Goals as goal

-- the size that was read is the rack's
size_is : (l : At-loop-v) → l.size-n.result ≡ (read low l.args.rack.now).n
size_is l = l.size-n.ensures ∙ held-size (sounded-held _ l.requires.sounded)

-- the vertex of this turn is one of the rack's, and there is room for its line
inside : (c : In-loop-v) → c.loop-v.v < (read low c.args.rack.now).n
inside c = omega (arith, c.loop-v-test.true, size_is (goal.at.In-loop-v c).At-loop-v)

room : (c : In-loop-v) → c.loop-v.at + pair_room ≤ length c.loop-v.out
room c = listed-room c.requires.sounded c.requires.ending_room_in_bounds c.loop-v.invariant (inside c)

pub loop-v-init : goal.loop-v-init
loop-v-init c = listed_start _ _

pub slice_bounds-put_lower-count : goal.slice_bounds-put_lower-count
slice_bounds-put_lower-count c = omega (arith, room (goal.at.slice_bounds-put_lower-count c).In-loop-v)

pub slice_bounds-put_lower-start : goal.slice_bounds-put_lower-start
slice_bounds-put_lower-start c = omega (arith, room (goal.at.slice_bounds-put_lower-start c).In-loop-v)

pub put_lower-at-requires-clause-v_bound : goal.put_lower-at-requires-clause-v_bound
put_lower-at-requires-clause-v_bound c = let l = c.loop-v in (
  inside (goal.at.put_lower-at-requires-clause-v_bound c).In-loop-v,
  omega (arith, room (goal.at.put_lower-at-requires-clause-v_bound c).In-loop-v, length_part l.at l.out),
)

pub loop-v-preserved : goal.loop-v-preserved
loop-v-preserved c = listed-turn c.requires.sounded c.requires.ending_room_in_bounds c.loop-v.invariant
    (inside (goal.at.loop-v-preserved c).In-loop-v) c.put_lower-at.ensures

pub overflow_add-at : goal.overflow_add-at
overflow_add-at c =
    let next = listed-turn c.requires.sounded c.requires.ending_room_in_bounds c.loop-v.invariant
    (inside (goal.at.overflow_add-at c).In-loop-v) c.put_lower-at.ensures in
    record { fits = omega (arith, next.few, next.inside, held-few (sounded-held _ c.requires.sounded)) }

pub returns : goal.returns
returns c = listed-end c.requires.sounded c.requires.ending_room_in_bounds c.loop-v.invariant
    (omega (arith, c.loop-v-test.false, size_is (goal.at.returns c).At-loop-v))
