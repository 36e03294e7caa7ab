-- `run::taken` meets its contract. Assumes nothing.
use mathlib.Core.Path.{◌≡◌, ap}
use Rattle.std.proofs.lemmas.Result.{err_from_is_err_and}
use Rattle.model.specs.Trace.{Trace}
use Rattle.model.specs.Record.{kind_of}
use Rattle.model.specs.Calls.{make_number, made}
use Rattle.calls.specs.Terms.{outcome}
use Rattle.run.proofs.Whole.{made-meant, made-new, took-back, took-record}
use Rattle.run.proofs.taken.Goals.{After-make_with}
use Rattle.run.proofs.taken.Goals as goal

-- the rack of the trace's kind was made
meant : (c : After-make_with) → let t = c.args.trace.now in
    (outcome c.make_with.result ≡ make_number (kind_of t) c.args.rack.now t.n) × (c.make_with.new.bytes ≡ made (kind_of t) c.args.rack.now t.n)
meant c = let x = c.trace.inside in let m = c.make_with in
    made-meant c.args.trace.now x.n x.settings m.result c.args.rack.now m.new.bytes (ap (λ (t : Trace). t.n) c.trace.view_is)
    (ap (λ (t : Trace). t.settings) c.trace.view_is) c.unwrap_or-settings.ensures (m.ensures.number, m.ensures.leaves)

pub returns-in_err-make_with : goal.returns-in_err-make_with
returns-in_err-make_with c = let d = (goal.at.returns-in_err-make_with c).After-make_with in
    let p = err_from_is_err_and c.from_residual.result c.from_residual.ensures.1 in
    rw (p.1, p.2)
    (took-back c.args.trace.now c.args.rack.now c.make_with.new.bytes c.make_with.result c.told-rack (meant d) c.args.space.now c.in_err-make_with.was)

pub put_record-requires-clause-made : goal.put_record-requires-clause-made
put_record-requires-clause-made c = let d = (goal.at.put_record-requires-clause-made c).After-make_with in
    made-new c.args.trace.now c.args.rack.now c.make_with.new.bytes c.make_with.result c.told-rack (meant d) c.in_ok-make_with.was

pub returns : goal.returns
returns c = let d = (goal.at.returns c).After-make_with in
    let new = made-new c.args.trace.now c.args.rack.now c.make_with.new.bytes c.make_with.result c.told-rack (meant d) c.in_ok-make_with.was in
    took-record c.args.trace.now c.args.rack.now new.0 c.put_record.ensures
