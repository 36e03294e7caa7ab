-- `text::digit` meets its contract: a byte below the digits wraps to a number far above 9.
-- Assumes nothing.
use Rattle.std.proofs.Common.{arith}
use Rattle.text.proofs.Decimals.{digit-out}
use Rattle.text.proofs.digit.Goals as goal

pub returns : goal.returns
returns c = record { is = λ h. omega (arith, c.from.ensures); none = λ h. digit-out c.args.b (λ l. omega (arith, c.from.ensures)) }
