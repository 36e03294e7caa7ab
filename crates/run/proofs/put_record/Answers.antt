-- `run::put_record` meets its contract. Assumes nothing.
use mathlib.Core.Path.{◌≡◌, ap, subst}
use native.Mathlib.Omega.{arith}
use Rattle.model.specs.Shape.{low}
use Rattle.model.specs.Bytes.{kind_at, read}
use Rattle.model.specs.Lists.{All}
use Rattle.model.specs.Trace.{Trace, LineChange, rack_line}
use Rattle.model.specs.Record.{kind_of, rack_of}
use Rattle.text.specs.Writing.{Put}
use Rattle.text.proofs.Over.{put_as}
use Rattle.changes.specs.Sounded.{Sounded}
use Rattle.run.proofs.Whole.{fresh, ready, written, record-within}
use Rattle.run.proofs.put_record.Goals.{After-put_rack-at, Start}
use Rattle.run.proofs.put_record.Goals as goal

-- the rack that comes in is the one just made
made : (d : Start) → let a = d.args in let t = a.trace.now in Sounded low a.rack.now × (read low a.rack.now ≡ rack_of t) × (kind_at low a.rack.now ≡ kind_of t)
made d = let a = d.args in fresh a.rack.now a.trace.now d.requires.made.0 d.requires.made.1

-- line 1 was printed
first : (c : After-put_rack-at) → let t = c.args.trace.now in Put (rack_line t.n t.settings) c.args.space.now c.put_rack-at.new.out c.put_rack-at.result
first c = put_as _ _ (ap (λ (t : Trace). rack_line t.n t.settings) c.trace.view_is) c.put_rack-at.ensures

pub put_changes-requires-clause-sounded : goal.put_changes-requires-clause-sounded
put_changes-requires-clause-sounded c = (made (goal.at.put_changes-requires-clause-sounded c).Start).0

pub put_changes-requires-clause-ready : goal.put_changes-requires-clause-ready
put_changes-requires-clause-ready c = ready c.args.trace.now c.requires.recordable (first (goal.at.put_changes-requires-clause-ready c).After-put_rack-at)

pub returns : goal.returns
returns c = let m = made (goal.at.returns c).Start in
    written c.args.trace.now c.requires.recordable (first (goal.at.returns c).After-put_rack-at) (m.1, m.2) c.put_changes.ensures

pub overflow_add-result : goal.overflow_add-result
overflow_add-result c =
    let lines : All LineChange c.args.trace.now.changes = subst (λ (t : Trace). All LineChange t.changes) c.trace.view_is c.trace.invariant.lines in
    omega (arith, record-within c.requires.made.0 lines c.requires.recordable (returns c), c.well_formed)
