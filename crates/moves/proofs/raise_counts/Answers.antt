-- `moves::raise_counts` meets its contract. The loop's invariant: the vertices of v's row that the walk has passed have their new counts, and
-- `low` says that these are below the bar. Assumes nothing.
use mathlib.Core.Path.{◌≡◌}
use Prim.Native.Nat.{◌+◌, ◌<◌}
use native.Mathlib.Omega.{arith}
use lib.Dec.{T}
use Rattle.model.specs.Counting.{upd}
use Rattle.model.specs.Shape.{low}
use Rattle.model.specs.State.{State}
use Rattle.model.specs.Bytes.{read}
use Rattle.model.proofs.Facts.{Says}
use Rattle.layout.proofs.Said.{says_is}
use Rattle.moves.specs.Counts.{raised_counts}
use Rattle.moves.proofs.Recount.{raised-fits}
use Rattle.model.proofs.Shapes.{low-good}
use Rattle.layout.proofs.Walks.{row-whole}
use Rattle.layout.proofs.Reached.{reached, further-less}
use Rattle.moves.proofs.CountWalk.{Counted, Walk, came-first, row-starts, w-reached, w-small, w-owned, came-next, row-goes-on, row_ends, raised-quiet, raised_is, raised-turn, LowTo, low-start, low-yes, low-no, low_end}
use Rattle.moves.proofs.raise_counts.Goals.{After-next-at, After-phi-c, After-place-w, After-set_phi, At-loop-at, In-loop-at, Start, else-bar-c, then-bar-c}
use Rattle.moves.proofs.raise_counts.Goals as goal

walk : (d : Start)
    → Walk low d.args.rack.now (raised_counts (read low d.args.rack.now) d.args.i d.args.v) d.args.v
walk d = record {
  held = d.requires.held;
  inside = d.requires.v_bound.0;
  quiet = raised-quiet (read low d.args.rack.now) d.args.i d.args.v;
}

abbrev state : At-loop-at → State
state at = read low at.args.rack.now

some : (c : In-loop-at) → 0 < c.loop-at.at.rest
some c = omega (arith, c.loop-at-test.true)

-- what holds in a turn
place : (c : After-place-w) → c.place-w.result ≡ reached low.most c.loop-at.at
place c = w-reached (walk (goal.at.After-place-w c).Start) c.loop-at.invariant.0 (some (goal.at.After-place-w c).In-loop-at) c.place-w.ensures

small : (c : After-place-w) → c.place-w.result < low.most
small c = w-small (walk (goal.at.After-place-w c).Start) c.loop-at.invariant.0 (some (goal.at.After-place-w c).In-loop-at) c.place-w.ensures

owned : (c : After-place-w) → T ((state (goal.at.After-place-w c).At-loop-at).owns c.args.v c.place-w.result)
owned c = w-owned (walk (goal.at.After-place-w c).Start) c.loop-at.invariant.0 (some (goal.at.After-place-w c).In-loop-at) c.place-w.ensures

-- the count that is put in
raised : (c : After-phi-c)
    → let a = c.args in c.phi-c.result + 1 ≡ raised_counts (state (goal.at.After-phi-c c).At-loop-at) a.i a.v c.place-w.result a.i
raised c =
    let a = c.args in
    let l = c.loop-at in
    raised_is (state (goal.at.After-phi-c c).At-loop-at) c.requires.held.proper a.i a.v l.rack l.at l.invariant.0 c.place-w.result c.phi-c.result
    (place (goal.at.After-phi-c c).After-place-w) (small (goal.at.After-phi-c c).After-place-w) c.requires.v_bound.2
    (owned (goal.at.After-phi-c c).After-place-w) c.phi-c.ensures

turned : (c : After-set_phi)
    → let a = c.args in
    let w = c.place-w.result in Counted (state (goal.at.After-set_phi c).At-loop-at)
    (upd c.loop-at.invariant.0.counts w (raised_counts (state (goal.at.After-set_phi c).At-loop-at) a.i a.v w)) c.set_phi.new.rack
turned c =
    let a = c.args in
    let l = c.loop-at in
    let s = state (goal.at.After-set_phi c).At-loop-at in
    let w = place (goal.at.After-set_phi c).After-place-w in
    raised-turn s c.requires.held.proper a.i a.v l.rack l.at l.invariant.0 c.place-w.result c.set_phi.new.rack c.phi-c.result w
    (small (goal.at.After-set_phi c).After-place-w) c.requires.v_bound.2 (raised (goal.at.After-set_phi c).After-phi-c) c.set_phi.ensures

-- after either branch `low` speaks of w too
lows : (c : After-next-at)
    → let a = c.args in Says c.if-bar-c.low (LowTo a.bar (state (goal.at.After-next-at c).At-loop-at) a.i a.v (reached low.most c.next-at.result))
lows c =
    let a = c.args in
    let w = c.place-w.result in
    let r = raised (goal.at.After-next-at c).After-phi-c in
    let next = came-next (walk (goal.at.After-next-at c).Start) c.loop-at.invariant.0 (some (goal.at.After-next-at c).In-loop-at) c.place-w.ensures
    (turned (goal.at.After-next-at c).After-set_phi) c.next-at.ensures in
    elim c.if-bar-c.branch [
      | then-bar-c k ↦ says_is k.low-is
          (low-no a.bar (state (goal.at.After-next-at c).At-loop-at) a.i a.v (reached low.most c.loop-at.at) w
          (place (goal.at.After-next-at c).After-place-w) c.loop-at.invariant.1 next (owned (goal.at.After-next-at c).After-place-w)
          (omega (arith, k.if-bar-c.true)))
      | else-bar-c k ↦ says_is k.low-is
          (low-yes a.bar (state (goal.at.After-next-at c).At-loop-at) a.i a.v (reached low.most c.loop-at.at) w
          (place (goal.at.After-next-at c).After-place-w) c.loop-at.invariant.1 next
          (omega (arith, k.if-bar-c.false)))
    ]

pub loop-at-init : goal.loop-at-init
loop-at-init c = let a = c.args in (
  row-starts (walk (goal.at.loop-at-init c).Start) c.first-at.ensures,
  low-start a.bar (read low a.rack.now) a.i a.v
      (came-first (walk (goal.at.loop-at-init c).Start) c.first-at.ensures),
)

fits : (c : After-phi-c) → c.phi-c.result + 1 < low.most
fits c =
    let a = c.args in
    let s = state (goal.at.After-phi-c c).At-loop-at in
    let v = c.requires.v_bound in
    let few = raised-fits s c.requires.held.proper a.i a.v c.place-w.result v.0 v.1 c.requires.row_below in
    omega (arith, raised c, few (owned (goal.at.After-phi-c c).After-place-w))

pub overflow_add-c : goal.overflow_add-c
overflow_add-c c = omega (arith, fits c)

pub loop-at-smaller : goal.loop-at-smaller
loop-at-smaller c = let here = c.loop-at.invariant.0.here (some (goal.at.loop-at-smaller c).In-loop-at) in
    omega (
      arith,
      small (goal.at.loop-at-smaller c).After-place-w,
      place (goal.at.loop-at-smaller c).After-place-w,
      further-less (row-whole low-good)
          (some (goal.at.loop-at-smaller c).In-loop-at) here c.next-at.ensures,
    )

pub loop-at-preserved : goal.loop-at-preserved
loop-at-preserved c = (
  row-goes-on (walk (goal.at.loop-at-preserved c).Start) c.loop-at.invariant.0
      (some (goal.at.loop-at-preserved c).In-loop-at) c.place-w.ensures (turned (goal.at.loop-at-preserved c).After-set_phi) c.next-at.ensures,
  lows c,
)

pub returns : goal.returns
returns c = let l = c.loop-at in
    record {
      rack_after = row_ends (walk (goal.at.returns c).Start) l.invariant.0 c.loop-at-test.false;
      says = low_end c.args.bar (state
          (goal.at.returns c).At-loop-at) c.requires.held.proper c.args.i c.args.v l.at c.loop-at-test.false l.invariant.1;
    }
