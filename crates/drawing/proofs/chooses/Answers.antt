-- `drawing::chooses` meets its contract. Assumes nothing.
use mathlib.Core.Path.{sym, ap}
use native.Mathlib.Omega.{arith}
use lib.Dec.{ltb}
use Rattle.model.specs.Words.{chooses}
use Rattle.drawing.proofs.Certain.{sure, limit_is, limit-fits, below-sure}
use Rattle.drawing.proofs.chooses.Goals as goal

pub returns-then-w-lt-SURE : goal.returns-then-w-lt-SURE
returns-then-w-lt-SURE c = sym (sure c.args.w c.args.k c.requires.0 c.requires.1 (below-sure c.args.w (omega (arith, c.if-w-lt-SURE.true))))

pub overflow_mul-result : goal.overflow_mul-result
overflow_mul-result c = record { fits = limit-fits _ c.args.k (omega arith) }

pub returns : goal.returns
unfolding chooses
returns c = ap (ltb c.args.w) (limit_is c.args.k)
