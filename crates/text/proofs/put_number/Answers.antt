-- `text::put_number` meets its contract. One digit, or as `put_digits` writes it. Assumes nothing.
use Rattle.std.proofs.Common.{arith}
use Rattle.text.proofs.Decimals.{length-small}
use Rattle.text.proofs.Over.{put-digit}
use Rattle.text.proofs.put_number.Goals as goal

pub bounds-out-0 : goal.bounds-out-0
bounds-out-0 c = omega (arith, c.requires, length-small c.args.n c.if-n-lt10.true)

pub returns-then-n-lt10 : goal.returns-then-n-lt10
returns-then-n-lt10 c = put-digit (omega arith) c.requires (omega arith) (omega arith)
