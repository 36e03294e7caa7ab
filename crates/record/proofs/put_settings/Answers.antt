-- `record::put_settings` meets its contract: what the pen wrote, or nothing. Assumes nothing.
use Rattle.std.proofs.Common.{arith}
use Rattle.model.specs.Trace.{settings_text}
use Rattle.record.proofs.Pens.{◌then◌, added-none}
use Rattle.record.proofs.put_settings.Goals as goal

pub returns-in-Some-clause-adds : goal.returns-in-Some-clause-adds
unfolding settings_text
returns-in-Some-clause-adds c =
    rw c.in-Some.is (c.literal.ensures then c.number.ensures.adds then c.literal-in-Some.ensures then c.number-in-Some.ensures.adds
    then c.literal-in-Some-2.ensures)

pub returns-in_default-clause-adds : goal.returns-in_default-clause-adds
unfolding settings_text
returns-in_default-clause-adds c = rw c.in_default.is (added-none (omega arith))
