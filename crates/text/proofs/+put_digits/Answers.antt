-- `text::put_digits` meets its contract: there is room for the last digit after the others. Assumes nothing.
use Rattle.std.proofs.Common.{◌+◌, ◌%◌, sym, arith}
use Rattle.text.proofs.Decimals.{decimal-large, length-small, length-large}
use Rattle.text.proofs.Over.{put_as, put-digit, put_byte}
use Rattle.text.proofs.+put_digits.Goals as goal

pub bounds-out-0 : goal.bounds-out-0
bounds-out-0 t c = omega (arith, c.requires, length-small c.args.n c.if-n-lt10.true)

pub returns-then-n-lt10 : goal.returns-then-n-lt10
returns-then-n-lt10 t c = put-digit (omega arith) c.requires (omega arith) (omega arith)

pub put_digits-k-requires : goal.put_digits-k-requires
put_digits-k-requires t c = (omega arith, omega (arith, c.requires, length-large c.args.n c.if-n-lt10.false))

pub bounds-out-k : goal.bounds-out-k
bounds-out-k t c =
    let w = c.put_digits-k in
    omega (arith, w.auto.out, w.ensures.count, c.requires, length-large c.args.n c.if-n-lt10.false)

pub overflow_add-result : goal.overflow_add-result
overflow_add-result t c =
    let w = c.put_digits-k in
    omega (arith, w.ensures.count, c.requires, c.well_formed.0.0, length-large c.args.n c.if-n-lt10.false)

pub returns-else-n-lt10 : goal.returns-else-n-lt10
returns-else-n-lt10 t c =
    let n = c.args.n in
    let h = c.if-n-lt10.false in
    put_as _ _ (sym (decimal-large n h))
    (put_byte (48 + n % 10) c.put_digits-k.ensures (omega (arith, c.requires, length-large n h)) (omega arith) (omega arith) (omega arith))
