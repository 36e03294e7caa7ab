-- `run::show` meets its contract. Assumes nothing.
use mathlib.Core.Path.{refl}
use native.Mathlib.Omega.{arith}
use Rattle.changes.proofs.Numbers.{some-number}
use Rattle.run.proofs.Once.{line-few, shown-record, shown-back}
use Rattle.run.proofs.show.Goals as goal

pub put_turned_back-requires-clause-line_fits : goal.put_turned_back-requires-clause-line_fits
put_turned_back-requires-clause-line_fits c = omega (arith, line-few _ _ _ c.in-Err.ensures)

pub returns-in-Ok : goal.returns-in-Ok
returns-in-Ok c = shown-record c.in-Ok.ensures refl (omega (arith, c.requires, c.run.auto.space))

pub returns-in-Err : goal.returns-in-Err
returns-in-Err c = shown-back c.in-Err.ensures (some-number c.in-Err.why) c.put_turned_back.ensures
