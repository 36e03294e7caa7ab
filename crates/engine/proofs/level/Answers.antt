-- `engine::level` meets its contract. Assumes nothing.
use mathlib.Core.Path.{◌≡◌, ap, ◌∙◌}
use mathlib.Core.List.{List}
use Prim.Native.Nat.{ℕ}
use native.Mathlib.Omega.{arith}
use lib.IntN.{ℤ, pos, pred_ℤ, ◌-ℤ◌}
use Rattle.std.proofs.Math.IntN.{ -ℤ_one}
use Rattle.std.proofs.lemmas.Int.{ints}
use Rattle.std.proofs.lemmas.Result.{err_from_is_err_and}
use Rattle.model.specs.Shape.{low}
use Rattle.model.specs.Bytes.{rank_at}
use Rattle.changes.proofs.Numbers.{some-number}
use Rattle.engine.proofs.Numbers.{asked, level-back, level-is}
use Rattle.engine.proofs.level.Goals as goal

-- one less than a rank
less_one : (z : ℤ) (x : ℕ) → z ≡ pos x -ℤ pos 1 → z ≡ pred_ℤ (pos x)
less_one z x e = e ∙ -ℤ_one (pos x)

pub returns-in_err-rack : goal.returns-in_err-rack
returns-in_err-rack c = let p = err_from_is_err_and c.from_residual.result c.from_residual.ensures.1 in
    rw (p.1, p.2) (level-back low _ _ c.in_err-rack.ensures (some-number _))

pub rank-rank-requires : goal.rank-rank-requires
rank-rank-requires c = record { v_lt_most = (asked low _ _ c.in_ok-rack.ensures.1).1 }

pub returns : goal.returns
returns c = let e = c.in_ok-rack.ensures in
    let rank = c.rank-rank.ensures ∙ ap (λ (bs : List ℕ). rank_at bs c.args.v) e.0 in
    let level = less_one _ _ (omega (arith, ints, c.from.ensures, c.rank-rank.type_inv)) ∙ ap (λ (x : ℕ). pred_ℤ (pos x)) rank in
    (λ i. record { number = 0; level = level i }) ∙ level-is low _ _ e.1
