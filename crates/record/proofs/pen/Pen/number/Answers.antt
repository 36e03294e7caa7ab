-- `record::pen::Pen::number` meets its contract: ten bytes are room for any figure. Assumes nothing.
use mathlib.Core.Path.{refl}
use Rattle.std.proofs.Common.{arith}
use Rattle.text.proofs.Lengths.{figure-most}
use Rattle.text.proofs.Over.{length_part}
use Rattle.record.proofs.Pens.{added}
use Rattle.record.proofs.pen.Pen.number.Goals as goal

pub put_number-requires : goal.put_number-requires
put_number-requires c =
    let s = c.args.self.now in
    omega (arith, length_part s.at s.out.now, figure-most c.args.n (omega arith))

pub overflow_add-self : goal.overflow_add-self
overflow_add-self c = omega (arith, c.put_number.ensures.count, figure-most c.args.n (omega arith))

pub returns-clause-adds : goal.returns-clause-adds
returns-clause-adds c = added c.put_number.ensures (omega (arith, figure-most c.args.n (omega arith))) refl refl refl

pub returns-clause-few : goal.returns-clause-few
returns-clause-few c = omega (arith, c.put_number.ensures.count, figure-most c.args.n (omega arith))
