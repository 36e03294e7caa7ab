-- `record::put_refused` meets its contract: what the pen wrote, one piece after the other. Assumes nothing.
use Rattle.std.proofs.Common.{rules, refl}
use Rattle.record.specs.Line.{one_text}
use Rattle.record.proofs.Pens.{◌then◌, put-of}
use Rattle.record.proofs.put_refused.Goals as goal

pub returns : goal.returns
unfolding one_text
returns c = put-of refl (c.literal.ensures then c.number.ensures.adds then c.literal-2.ensures) (search rules)
