-- `settling::promote` meets its contract. Assumes nothing.
use Rattle.model.specs.Shape.{low}
use Rattle.settling.proofs.Holding.{holds-part}
use Rattle.settling.proofs.Written.{Rising, lifted-draws, promoted-left}
use Rattle.settling.proofs.promote.Goals.{Start}
use Rattle.settling.proofs.promote.Goals as goal

rising : (c : Start) → Rising low c.args.rack.now c.args.i c.args.u
rising c = record {
  held = c.requires.held.0;
  ordered = c.requires.held.1;
  inside = c.requires.u_bound.0;
  low = c.requires.u_bound.1;
  level = c.requires.u_bound.2;
}

pub lift-requires-clause-can_part : goal.lift-requires-clause-can_part
lift-requires-clause-can_part c = holds-part c.requires.holds_waiting.0 _

pub draw-requires : goal.draw-requires
draw-requires c =
    let all = lifted-draws (rising (goal.at.draw-requires c).Start) c.lift.ensures.rack_after c.args.progress.now
    c.requires.holds_waiting.0 c.lift.ensures.queue_after c.phi-k.result
    c.requires.u_bound.3 c.requires.holds_waiting.1 c.phi-k.ensures in
    record { held = all.0; u_bound = all.1.0; row_below = all.1.1.0; holds_waiting_but = all.1.1.1 }

pub returns : goal.returns
returns c =
    promoted-left (rising (goal.at.returns c).Start) c.lift.ensures.rack_after c.args.progress.now
    c.requires.holds_waiting.0 c.lift.ensures.queue_after c.args.words.now c.draw.ensures
