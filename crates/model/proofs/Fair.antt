-- Document 02, W-206: the draws are fair. "Of all 2^32 words, each place must be chosen by exactly T divided by k of them." T is indeed the
-- largest multiple of k that is at most 2^32. Assumes nothing.
use mathlib.Core.Path.{◌≡◌, refl, ap, ◌∙◌}
use mathlib.Core.Logic.{inl, inr}
use mathlib.Core.Bool.{Bool, ◌&&◌}
use mathlib.Core.List.{List, ◌∷◌, ◌++◌}
use Prim.Native.Nat.{ℕ, zero, suc, ◌+◌, ◌*◌, ◌/◌, ◌%◌, ◌≤◌, ◌<◌}
use native.Mathlib.Nat.{suc-mul, zero-mul, mod-eq_of_lt, div-mul-le_self, lt-div-mul-add, mul-div_cancel, mul-add-mod_self_right}
use native.Mathlib.Omega.{arith}
use lib.Dec.{eqb, ltb, ltb→lt, eqb→eq, eqb_refl}
use lib.ListN.{length}
use Rattle.model.specs.Counting.{count}
use Rattle.model.specs.Words.{all_words, limit, chooses, place}
use Rattle.model.proofs.Tests.{holds?, leb_yes, and_left, T_true, T_false}
use Rattle.model.proofs.Deciding.{place-next}
use Rattle.model.proofs.Counting.{count-single}
use Rattle.model.proofs.Prefix.{count-zero, count_add, count-ext, count-skip}

-- the remainder within a block of k
block : (k q j : ℕ) → j < k → (q * k + j) % k ≡ j
block k q j h = mul-add-mod_self_right q k j ∙ mod-eq_of_lt h

-- each place among k has one number in each block of k
blocks : (k p : ℕ) → p < k → (q : ℕ) → count (λ w. eqb (w % k) p) (q * k) ≡ q
blocks k p h zero = ap (count (λ w. eqb (w % k) p)) (zero-mul k) ∙ count-zero (λ w. eqb (w % k) p)
blocks k p h (suc q) =
    let f : ℕ → Bool = λ w. eqb (w % k) p in
    let one : count (λ j. f (q * k + j)) k ≡ 1 =
    count-ext (λ j. f (q * k + j)) (λ j. eqb j p) k (λ j b. ap (λ (x : ℕ). eqb x p) (block k q j b))
    ∙ count-single (λ j. eqb j p) p k h (eqb_refl p) (λ v t. eqb→eq v p t) in
    ap (count f) (suc-mul q k) ∙ omega (arith, count_add f (q * k) k, one, blocks k p h q)

-- of all numbers below m, those below the largest multiple of k at most m choose each place equally often
pub fair-below : (m k p : ℕ) → p < k → count (λ w. ltb w (m / k * k) && eqb (w % k) p) m ≡ m / k
fair-below m k p h =
    let t : ℕ = m / k * k in
    let f : ℕ → Bool = λ w. ltb w t && eqb (w % k) p in
    let le : t ≤ m = div-mul-le_self m k in
    let rest : count f t ≡ count f m =
    count-skip f t m le (λ j a b c. let l : j < t = ltb→lt j t (and_left (ltb j t) (eqb (j % k) p) c) in omega arith) in
    let same : count f t ≡ count (λ w. eqb (w % k) p) t =
    count-ext f (λ w. eqb (w % k) p) t (λ j b. ap (λ (x : Bool). x && eqb (j % k) p) (leb_yes (suc j) t b)) in
    omega (arith, rest, same, blocks k p h (m / k))

-- "T is the largest multiple of k that is at most 2^32"
pub limit-most : (k : ℕ) → limit k ≤ all_words
unfolding limit
limit-most k = div-mul-le_self all_words k

pub limit-next : (k : ℕ) → 1 ≤ k → all_words < limit k + k
unfolding limit
limit-next k h = lt-div-mul-add h

pub limit-parts : (k : ℕ) → 1 ≤ k → limit k / k ≡ all_words / k
unfolding limit
limit-parts k h = mul-div_cancel (all_words / k) h

-- "Of all 2^32 words, each place must be chosen by exactly T divided by k of them."
pub fair : (k p : ℕ) → p < k → count (λ w. chooses k w && eqb (w % k) p) all_words ≡ limit k / k
unfolding chooses limit
fair k p h = fair-below all_words k p h ∙ omega (arith, limit-parts k (omega arith))

-- the same, of the place that a draw takes where the word comes next, whatever was used before it and whatever comes after
pub fair-place : (k p : ℕ) → p < k → (front l : List ℕ)
    → count (λ w. chooses k w && eqb (place (front ++ (w ∷ l)) (length front) k) p) all_words ≡ limit k / k
fair-place k p h front l =
    count-ext (λ w. chooses k w && eqb (place (front ++ (w ∷ l)) (length front) k) p) (λ w. chooses k w && eqb (w % k) p) all_words
    (λ w b. elim (holds? (chooses k w)) [
      | inl t ↦ ap (λ (x : ℕ). chooses k w && eqb x p) (place-next front k w l (T_true t))
      | inr t ↦ rw (T_false {b = chooses k w} t) refl
    ])
    ∙ fair k p h
