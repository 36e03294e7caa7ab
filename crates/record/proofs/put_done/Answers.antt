-- `record::put_done` meets its contract: what the pen wrote, one piece after the other. Assumes nothing.
use Rattle.std.proofs.Common.{rules, refl}
use Rattle.record.specs.Line.{three_text}
use Rattle.record.proofs.Pens.{◌then◌, put-of}
use Rattle.record.proofs.put_done.Goals as goal

pub returns : goal.returns
unfolding three_text
returns c =
    put-of refl (c.literal.ensures then c.number.ensures.adds then c.literal-2.ensures then c.number-2.ensures.adds
    then c.literal-3.ensures then c.number-3.ensures.adds then c.literal-4.ensures) (search rules)
