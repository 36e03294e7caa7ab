-- The work of `changes::drop` that parts a pair meets its contract. Assumes nothing.
use Rattle.model.specs.Shape.{low}
use Rattle.changes.proofs.Wholes.{sounded-held, Dropped, dropped-begun, dropped-inside, dropped-mates, dropped-pair}
use Rattle.changes.proofs.fn.drop.part.Goals.{After-drop_edge}
use Rattle.changes.proofs.fn.drop.part.Goals as goal

pub drop_edge-requires : goal.drop_edge-requires
drop_edge-requires c = record { held = sounded-held c.args.rack.now c.requires.sounded; a_bound = c.requires.joins.ends }

-- the edge is taken out
without : (c : After-drop_edge) → Dropped low c.args.rack.now c.captures.a c.captures.b c.drop_edge.new.rack
without c = record { from = c.requires.sounded; ends = c.requires.joins.ends; rack = c.drop_edge.ensures }

pub part_and_settle-requires : goal.part_and_settle-requires
part_and_settle-requires c = let x = without (goal.at.part_and_settle-requires c).After-drop_edge in
    let l = dropped-inside x in
    record { begun = dropped-begun x; a_bound = (l.0, l.1, x.ends.2, dropped-mates x c.requires.joins.mates) }

pub returns : goal.returns
returns c = dropped-pair (without (goal.at.returns c).After-drop_edge) c.captures.words.now c.part_and_settle.ensures
