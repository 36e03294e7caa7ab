-- `changes::check_ends` meets its contract. Assumes nothing.
use mathlib.Core.Path.{sym}
use native.Mathlib.Omega.{arith}
use Rattle.changes.proofs.Numbers.{ends-a, ends-b, ends_same, ends-good}
use Rattle.changes.proofs.check_ends.Goals as goal

pub returns-then-n-a : goal.returns-then-n-a
returns-then-n-a c = sym (ends-a _ _ _ c.if-n-a.true)

pub returns-then-n-b : goal.returns-then-n-b
returns-then-n-b c = sym (ends-b _ _ _ c.if-n-a.false (omega (arith, c.if-n-b.true)))

pub returns-then-a-b : goal.returns-then-a-b
returns-then-a-b c = sym (ends_same _ _ _ c.if-n-a.false (omega (arith, c.if-n-b.false)) (omega (arith, c.if-a-b.true)))

pub returns : goal.returns
returns c = sym (ends-good _ _ _ c.if-n-a.false (omega (arith, c.if-n-b.false)) c.if-a-b.false)
