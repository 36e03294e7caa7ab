-- `record::put_bad` meets its contract: what the pen wrote, one piece after the other. Assumes nothing.
use Rattle.std.proofs.Common.{rules, refl}
use Rattle.model.specs.Run.{bad_line}
use Rattle.record.proofs.Pens.{◌then◌, put-of}
use Rattle.record.proofs.put_bad.Goals as goal

pub returns : goal.returns
unfolding bad_line
returns c =
    put-of refl (c.literal.ensures then c.number.ensures.adds then c.literal-2.ensures then c.number-2.ensures.adds then c.literal-3.ensures)
    (search rules)
