-- `changes::working::promote_and_settle` meets its contract. Assumes nothing.
use native.Mathlib.Omega.{arith}
use Rattle.model.specs.Shape.{low}
use Rattle.model.specs.Bytes.{rules_at, read}
use Rattle.model.specs.Moves.{promote}
use Rattle.model.specs.Change.{start}
use Rattle.changes.proofs.Chains.{none-waiting, Onward, promoted-next, settled_on}
use Rattle.changes.proofs.working.promote_and_settle.Goals.{After-promote}
use Rattle.changes.proofs.working.promote_and_settle.Goals as goal

pub promote-requires : goal.promote-requires
promote-requires c =
    let b = c.requires.begun in
    let m = c.requires.liftable in
    record {
      held = (b.held, b.ordered);
      u_bound = (m.inside, m.low, m.level, m.some);
      holds_waiting = (none-waiting c.new-progress.ensures b, omega (arith, c.new-progress.ensures.1));
    }

-- where the promotion leaves the run
next : (c : After-promote) →
    let a = c.args in
    Onward low (rules_at a.rack.now) a.words.now (promote a.words.now a.i a.u (start (read low a.rack.now))) c.promote.new.rack c.promote.new.progress
next c = promoted-next c.args.words.now c.args.i c.args.u c.new-progress.result c.requires.begun c.requires.liftable c.new-progress.ensures c.promote.ensures

pub settle-requires : goal.settle-requires
settle-requires c =
    let n = next (goal.at.settle-requires c).After-promote in
    record { held = (n.held, n.ordered); holds_waiting = (n.holds, n.room) }

pub returns : goal.returns
returns c = settled_on _ (next (goal.at.returns c).After-promote) c.settle.ensures
