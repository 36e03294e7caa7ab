-- `settling::scan` meets its contract. The loop's invariant: the turns of the vertices before the place of the walk are done. Assumes nothing.
use Prim.Native.Nat.{◌<◌}
use native.Mathlib.Omega.{arith}
use Rattle.model.specs.Shape.{low}
use Rattle.model.proofs.Shapes.{low-good}
use Rattle.layout.specs.Walks.{Here}
use Rattle.layout.proofs.Walks.{row-whole}
use Rattle.layout.proofs.Reached.{reached-here, place-small, further-less}
use Rattle.moves.proofs.Held.{held_small}
use Rattle.settling.proofs.Scans.{ScanFrom, scan-starts, scan-visits, scan-again, scan-ends}
use Rattle.settling.proofs.scan.Goals.{In-loop-at, Start}
use Rattle.settling.proofs.scan.Goals as goal

begun : (c : Start) → ScanFrom low c.args.i c.args.v c.args.rack.now
begun c = record {
  held = c.requires.held.0;
  ordered = c.requires.held.1;
  inside = c.requires.v_bound.0;
  level = c.requires.v_bound.1;
  row = c.requires.v_bound.2;
}

v-small : (c : Start) → c.args.v < low.most
v-small c = held_small c.requires.held.0 c.args.v c.requires.v_bound.0

pub loop-at-init : goal.loop-at-init
loop-at-init c = scan-starts c.args.words.now c.args.progress.now (begun (goal.at.loop-at-init c).Start) c.requires.holds_waiting.0 c.first-at.ensures

some : (c : In-loop-at) → 0 < c.loop-at.at.rest
some c = omega (arith, c.loop-at-test.true)

here : (c : In-loop-at) → Here low.most c.loop-at.invariant.seen c.loop-at.invariant.from c.loop-at.at
here c = c.loop-at.invariant.stands.here (some c)

pub visit-requires : goal.visit-requires
visit-requires c =
    let all = scan-visits c.args.words.now c.args.progress.now (begun (goal.at.visit-requires c).Start) c.loop-at.invariant
    (some (goal.at.visit-requires c).In-loop-at) c.place-w.ensures c.requires.v_bound.3 c.requires.holds_waiting.1
    (omega arith) in
    record { held = all.0; w_bound = all.1.0; holds_waiting = all.1.1 }

pub loop-at-smaller : goal.loop-at-smaller
loop-at-smaller c = omega (
  arith,
  place-small (row-whole low-good) (some (goal.at.loop-at-smaller c).In-loop-at) (here (goal.at.loop-at-smaller c).In-loop-at),
  reached-here low.most c.loop-at.at (some (goal.at.loop-at-smaller c).In-loop-at),
  further-less (row-whole low-good) (some (goal.at.loop-at-smaller c).In-loop-at) (here (goal.at.loop-at-smaller c).In-loop-at) c.next-at.ensures,
)

pub loop-at-preserved : goal.loop-at-preserved
loop-at-preserved c = scan-again c.args.words.now c.args.progress.now (begun (goal.at.loop-at-preserved c).Start) c.loop-at.invariant
    (some (goal.at.loop-at-preserved c).In-loop-at) c.place-w.ensures c.visit.ensures c.next-at.ensures

pub returns : goal.returns
returns c = scan-ends c.args.words.now c.args.progress.now (begun (goal.at.returns c).Start) c.loop-at.invariant (omega (arith, c.loop-at-test.false))
