-- How long decimals are, and a line that is made of fixed texts and numbers. Assumes nothing.
use Rattle.std.proofs.Common.{ℕ, zero, suc, ◌+◌, ◌*◌, ◌/◌, ◌^◌, ◌<◌, ◌≤◌, List, ◌++◌, length, inl, inr, div-lt_iff_lt-mul, pow-suc, arith, length-append}
use Rattle.model.specs.Text.{decimal, largest}
use Rattle.model.proofs.Tests.{le?}
use Rattle.text.proofs.Decimals.{length-small, length-large}

-- a number below 10^d has at most d digits
pub length-le : (k n : ℕ) → n < 10 ^ suc k → length (decimal n) ≤ suc k
length-le zero n h = omega (arith, length-small n (omega arith))
length-le (suc k) n h =
    let ih = length-le k (n / 10) in
    let q : n < 10 ^ suc k * 10 = rw pow-suc at h in
    elim (le? 10 n) [
      | inr p ↦ omega (arith, length-small n p)
      | inl p ↦ omega (arith, ih ((div-lt_iff_lt-mul (omega arith)).1 q), length-large n p)
    ]

-- a figure of 32 bits has at most ten
pub figure-most : (x : ℕ) → x ≤ largest → length (decimal x) ≤ 10
figure-most x h = length-le 9 x (omega arith)

-- lines of one figure, and of three
pub one-most : (p : List ℕ) (x : ℕ) (e : List ℕ) → x ≤ largest → length (p ++ (decimal x ++ e)) ≤ length p + length e + 10
one-most p x e h = simp length-append (omega (arith, figure-most x h))

pub three-most : (p : List ℕ) (x : ℕ) (q : List ℕ) (y : ℕ) (r : List ℕ) (z : ℕ) (e : List ℕ) → x ≤ largest → y ≤ largest → z ≤ largest
    → length (p ++ (decimal x ++ (q ++ (decimal y ++ (r ++ (decimal z ++ e)))))) ≤ length p + length q + length r + length e + 30
three-most p x q y r z e h k l = simp length-append (omega (arith, figure-most x h, figure-most y k, figure-most z l))
