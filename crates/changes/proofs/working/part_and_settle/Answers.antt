-- `changes::working::part_and_settle` meets its contract. Assumes nothing.
use Rattle.model.specs.Shape.{low}
use Rattle.model.specs.Bytes.{rules_at, read}
use Rattle.model.specs.Change.{start_parted}
use Rattle.changes.proofs.Chains.{Onward, parted-next, settled_on}
use Rattle.changes.proofs.working.part_and_settle.Goals.{After-part}
use Rattle.changes.proofs.working.part_and_settle.Goals as goal

next : (c : After-part) →
    let a = c.args in
    Onward low (rules_at a.rack.now) a.words.now (start_parted a.a a.b (read low a.rack.now)) c.part.new.rack (record {
      queue = c.join-2.new.self;
      tally = c.new-progress.result.tally;
    })
next c =
    parted-next c.requires.begun c.requires.a_bound c.args.words.now
    (rw (c.join-2.ensures, c.join.ensures, c.new-progress.ensures.0), (c.new-progress.ensures.1, c.new-progress.ensures.2)) c.part.ensures

pub settle-requires : goal.settle-requires
settle-requires c =
    let n = next (goal.at.settle-requires c).After-part in
    record { held = (n.held, n.ordered); holds_waiting = (n.holds, n.room) }

pub returns : goal.returns
returns c = settled_on _ (next (goal.at.returns c).After-part) c.settle.ensures
