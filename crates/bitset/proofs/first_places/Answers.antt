-- `bitset::first_places` meets its contract. Assumes nothing.
use mathlib.Core.Path.{◌≡◌, sym, subst, ◌∙◌}
use Prim.Native.Nat.{ℕ, ◌-◌, ◌*◌, ◌%◌, ◌^◌, ◌<◌}
use native.Mathlib.Nat.{one-mul}
use native.Mathlib.Omega.{arith}
use lib.Dec.{ltb}
use lib.Pow.{pow_pos, shl_exact}
use Rattle.bitset.specs.Words.{Rest}
use Rattle.bitset.proofs.Sets.{first_rest, all_rest}
use Rattle.bitset.proofs.first_places.Goals as goal

-- 1 << m, which fits, is the power
shifted : (m : ℕ) → m < 64 → 1 * 2 ^ m % 2 ^ 64 ≡ 2 ^ m
shifted m h = shl_exact {a = 1} 1 m 64 (omega arith) (omega arith) ∙ one-mul (2 ^ m)

pub returns-then-m-ge64 : goal.returns-then-m-ge64
returns-then-m-ge64 c = all_rest c.args.m (omega (arith, c.if-m-ge64.true))

pub overflow_sub-result : goal.overflow_sub-result
overflow_sub-result c = let m = c.args.m in omega (arith, shifted m (omega (arith, c.if-m-ge64.false)), pow_pos m)

pub returns : goal.returns
returns c = let m = c.args.m in
    let h : m < 64 = omega (arith, c.if-m-ge64.false) in
    subst (λ (x : ℕ). Rest (λ j. ltb j m) 0 (x - 1)) (sym (shifted m h)) (first_rest m (omega arith))
