-- `record::pen::Pen::literal` meets its contract. Assumes nothing.
use Rattle.std.proofs.Common.{refl}
use Rattle.record.proofs.Pens.{added}
use Rattle.record.proofs.pen.Pen.literal.Goals as goal

pub returns : goal.returns
returns c = added c.put_literal.ensures c.requires refl refl refl
