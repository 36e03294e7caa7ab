-- `settling::lift` meets its contract. Assumes nothing.
use Rattle.model.specs.Shape.{low}
use Rattle.settling.proofs.Written.{Rising, parted-rises, parted-lifts}
use Rattle.settling.proofs.lift.Goals.{Start}
use Rattle.settling.proofs.lift.Goals as goal

rising : (c : Start) → Rising low c.args.rack.now c.args.i c.args.v
rising c = record {
  held = c.requires.held.0;
  ordered = c.requires.held.1;
  inside = c.requires.v_bound.0;
  low = c.requires.v_bound.1;
  level = c.requires.v_bound.2;
}

pub rise-requires : goal.rise-requires
rise-requires c =
    let all = parted-rises (rising (goal.at.rise-requires c).Start) c.part.ensures in
    record { held = all.0; u_bound = all.1.0; by_index = all.1.1 }

pub returns-clause-rack_after : goal.returns-clause-rack_after
returns-clause-rack_after c = parted-lifts (rising (goal.at.returns-clause-rack_after c).Start) c.part.ensures c.rise.ensures
