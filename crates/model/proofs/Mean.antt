-- The two figures of the mean: they are as the request says, and no other two are. Assumes nothing.
use mathlib.Core.Path.{◌≡◌, sym, ap, ◌∙◌}
use Prim.Native.Nat.{ℕ, ◌*◌, ◌/◌, ◌%◌, ◌≤◌, ◌<◌}
use native.Mathlib.Omega.{arith}
use native.Mathlib.Nat.{div-add-mod', div-le_self, mod-le, mod-lt, div-eq_of_lt, mod-eq_of_lt, mul-add-div_right, mul-add-mod_self_right}
use Rattle.model.specs.Record.{Mean, IsMean, mean}

-- Q and R by division are such numbers, of any rack with a vertex
pub mean-is : (links n : ℕ) → 0 < n → IsMean links n (mean links n)
unfolding mean
mean-is links n h = record { twice = sym (div-add-mod' (2 * links) n); below = mod-lt (2 * links) h }

-- and any such numbers are Q and R
pub mean-only : (links n : ℕ) (m : Mean) → IsMean links n m → m ≡ mean links n
unfolding mean
mean-only links n m h = λ i. record { whole = wholes i; rest = rests i }
  where
    some : 0 < n
    some = omega (arith, h.below)

    wholes : m.whole ≡ 2 * links / n
    wholes = sym (ap (λ (x : ℕ). x / n) h.twice ∙ mul-add-div_right some m.whole m.rest ∙ omega (arith, div-eq_of_lt h.below))

    rests : m.rest ≡ 2 * links % n
    rests = sym (ap (λ (x : ℕ). x % n) h.twice ∙ mul-add-mod_self_right m.whole n m.rest ∙ mod-eq_of_lt h.below)

-- neither is more than twice the links
pub mean-most : (links n : ℕ) → ((mean links n).whole ≤ 2 * links) × ((mean links n).rest ≤ 2 * links)
unfolding mean
mean-most links n = (div-le_self (2 * links) n, mod-le (2 * links) n)
