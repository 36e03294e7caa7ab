-- `engine::named` meets its contract. Assumes nothing.
use mathlib.Core.Path.{◌≡◌, sym, ap, ◌∙◌}
use Rattle.std.proofs.lemmas.Result.{err_from_is_err_and}
use Rattle.model.specs.Shape.{low}
use native.Mathlib.Omega.{arith}
use Rattle.model.specs.Bytes.{size_at}
use Rattle.changes.proofs.Numbers.{some-number}
use Rattle.engine.proofs.Numbers.{one-back, one-eight, one-zero}
use Rattle.engine.proofs.named.Goals.{After-size}
use Rattle.engine.proofs.named.Goals as goal

pub returns-in_err-rack : goal.returns-in_err-rack
returns-in_err-rack c = let p = err_from_is_err_and c.from_residual.result c.from_residual.ensures.1 in
    let e = c.in_err-rack.ensures in
    rw (p.1, p.2) (one-back low _ _ (λ z. some-number _ (sym e ∙ z)) ∙ e)

-- the number of boards, as the bytes have it
size_is : (c : After-size) → c.size.result ≡ size_at c.args.bytes.now
size_is c = c.size.ensures ∙ ap size_at c.in_ok-rack.ensures.0

pub returns-then-size-v : goal.returns-then-size-v
returns-then-size-v c = one-eight low _ _ c.in_ok-rack.ensures.1 (omega (arith, size_is (goal.at.returns-then-size-v c).After-size))

pub returns : goal.returns
returns c = (
  c.in_ok-rack.ensures.0,
  one-zero low _ _ c.in_ok-rack.ensures.1 (omega (arith, size_is (goal.at.returns c).After-size)),
)
