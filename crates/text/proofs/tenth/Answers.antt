-- `text::tenth` meets its contract: nine digits, ten, or too many. Assumes nothing.
use Rattle.std.proofs.Common.{◌+◌, ◌*◌, arith}
use Rattle.text.specs.Number.{Begins}
use Rattle.text.proofs.Decimals as decimals
use Rattle.text.proofs.Begun as begun
use Rattle.text.proofs.tenth.Goals.{Else-d-gt9}
use Rattle.text.proofs.tenth.Goals as goal

ten : (c : Else-d-gt9) → Begins c.args.s.now c.args.at 10 (c.args.v * 10 + c.digit-d.result)
ten c =
    let a = c.args in
    let d = c.digit-d in
    begun.begins-more a.s.now a.at 9 a.v d.result c.requires.begins (omega (arith, c.requires.at_in_bounds)) d.ensures (omega arith)

pub returns-then-d-gt9 : goal.returns-then-d-gt9
returns-then-d-gt9 c = let a = c.args in
    let b = c.requires.begins in
    let ends = begun.ends_at a.s.now (a.at + 9) _ c.digit-d.ensures c.if-d-gt9.true in
    (omega (arith, c.requires.at_in_bounds), record { written = b.stands; ends = ends; small = omega (arith, b.most) })

pub returns-then-w-gt4294967295 : goal.returns-then-w-gt4294967295
returns-then-w-gt4294967295 c = λ n rest h. decimals.too_large _ _ (ten (goal.at.returns-then-w-gt4294967295 c).Else-d-gt9).stands (omega arith) h

pub returns-then-digit-lt10 : goal.returns-then-digit-lt10
returns-then-digit-lt10 c = let a = c.args in
    begun.eleven a.s.now a.at _ _ (ten (goal.at.returns-then-digit-lt10 c).Else-d-gt9) (omega (arith, c.requires.at_in_bounds)) c.digit.ensures
    (omega arith)

pub returns : goal.returns
returns c = let a = c.args in
    let ends = begun.ends_at a.s.now (a.at + 10) _ c.digit.ensures (omega arith) in
    (omega (arith, c.requires.at_in_bounds), record { written = (ten (goal.at.returns c).Else-d-gt9).stands; ends = ends; small = omega arith })
