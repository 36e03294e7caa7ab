-- Words of 64 places as sets: what is in both, in either, or in one and not the other; the first m places; and words with the same places.
-- Assumes nothing.
use mathlib.Core.Path.{◌≡◌, refl, sym, ap, ap₂, subst, ◌∙◌}
use mathlib.Core.Logic.{inl, inr}
use mathlib.Core.Bool.{Bool, not, ◌&&◌, ◌||◌}
use Prim.Native.Nat.{ℕ, zero, suc, ◌+◌, ◌-◌, ◌*◌, ◌/◌, ◌%◌, ◌^◌, ◌≤◌, ◌<◌}
use native.Mathlib.Omega.{arith}
use lib.Dec.{T, eqb, ltb, ltb→lt, lt→ltb}
use lib.Bits.{bit_and, bit_or, bit_xor, and_le_l, and_le_r, or_add_and, or_lt, xor_lt, xor_shr, xor_mod}
use lib.Pow.{pow_pos, pow_mono}
use Rattle.model.specs.Parts.{bit_of}
use Rattle.model.proofs.Tests.{le?, T_true, T_false, bool-ext, and_intro, and_left, and_right}
use Rattle.bitset.specs.Words.{Rest}
use Rattle.std.proofs.lemmas.Nat.Bits.{bit_at_ones, bit_at_ones_above}
use Rattle.bitset.proofs.Digits.{digit, digit_lt, digit_or, digit_and, digit-bit_of, bit_of-digit, digits-ext}
use Rattle.bitset.proofs.Words.{digit-zero, rest_end}

-- ---- bit by bit

digit-xor : (a b k : ℕ) → digit (bit_xor a b) k ≡ bit_xor (digit a k) (digit b k)
unfolding digit
digit-xor a b k = ap (λ (n : ℕ). n % 2) (xor_shr a b k) ∙ xor_mod (a / 2 ^ k) (b / 2 ^ k) 1

-- an operation on two digits
two_digits : (P : ℕ → ℕ → Type 0) → P 0 0 → P 0 1 → P 1 0 → P 1 1 → (d e : ℕ) → d < 2 → e < 2 → P d e
two_digits P a b c f zero zero h k = a
two_digits P a b c f zero (suc zero) h k = b
two_digits P a b c f zero (suc (suc e)) h k = absurd (omega arith)
two_digits P a b c f (suc zero) zero h k = c
two_digits P a b c f (suc zero) (suc zero) h k = f
two_digits P a b c f (suc zero) (suc (suc e)) h k = absurd (omega arith)
two_digits P a b c f (suc (suc d)) e h k = absurd (omega arith)

module _ (x y j : ℕ) where
  bit-and : bit_of (bit_and x y) j ≡ (bit_of x j && bit_of y j)
  unfolding bit_of digit
  bit-and =
      ap (λ (n : ℕ). eqb n 1) (digit_and x y j)
      ∙ two_digits (λ d e. eqb (bit_and d e) 1 ≡ (eqb d 1 && eqb e 1)) refl refl refl refl (digit x j) (digit y j) (digit_lt x j) (digit_lt y j)

  bit-or : bit_of (bit_or x y) j ≡ (bit_of x j || bit_of y j)
  unfolding bit_of digit
  bit-or =
      ap (λ (n : ℕ). eqb n 1) (digit_or x y j)
      ∙ two_digits (λ d e. eqb (bit_or d e) 1 ≡ (eqb d 1 || eqb e 1)) refl refl refl refl (digit x j) (digit y j) (digit_lt x j) (digit_lt y j)

  bit-less : bit_of (bit_xor x (bit_and x y)) j ≡ (bit_of x j && not (bit_of y j))
  unfolding bit_of digit
  bit-less =
      ap (λ (n : ℕ). eqb n 1) (digit-xor x (bit_and x y) j ∙ ap (bit_xor (digit x j)) (digit_and x y j))
      ∙ two_digits (λ d e. eqb (bit_xor d (bit_and d e)) 1 ≡ (eqb d 1 && not (eqb e 1))) refl refl refl refl
      (digit x j) (digit y j) (digit_lt x j) (digit_lt y j)

-- ---- two words

module _ {p q : ℕ → Bool} {x y : ℕ} (a : Rest p 0 x) (b : Rest q 0 y) where
  -- a word whose bits come of theirs by f
  from-both : (f : Bool → Bool → Bool) (z : ℕ) → z < 2 ^ 64 → ((j : ℕ) → bit_of z j ≡ f (bit_of x j) (bit_of y j)) → Rest (λ j. f (p j) (q j)) 0 z
  from-both f z fits bits = record {
    fits = fits;
    none = λ j h. absurd (omega arith);
    same = λ j h l. bits j ∙ ap₂ f (a.same j h l) (b.same j h l);
  }

  pub rest-and : Rest (λ j. p j && q j) 0 (bit_and x y)
  rest-and = from-both ◌&&◌ (bit_and x y) (omega (arith, and_le_l x y, a.fits)) (bit-and x y)

  pub rest-or : Rest (λ j. p j || q j) 0 (bit_or x y)
  rest-or = from-both ◌||◌ (bit_or x y) (or_lt 64 x y a.fits b.fits) (bit-or x y)

  pub rest-less : Rest (λ j. p j && not (q j)) 0 (bit_xor x (bit_and x y))
  rest-less =
      from-both (λ s t. s && not t) (bit_xor x (bit_and x y)) (xor_lt 64 x (bit_and x y) a.fits (omega (arith, and_le_l x y, a.fits))) (bit-less x y)

  -- they are the same exactly if their places are
  pub same-places : x ≡ y → (j : ℕ) → j < 64 → p j ≡ q j
  same-places e j l = sym (a.same j (omega arith) l) ∙ ap (λ (z : ℕ). bit_of z j) e ∙ b.same j (omega arith) l

  pub places_same : ((j : ℕ) → j < 64 → p j ≡ q j) → x ≡ y
  places_same h =
      digits-ext 64 x y a.fits b.fits (λ j l. same-digit j (a.same j (omega arith) l ∙ h j l ∙ sym (b.same j (omega arith) l)))
    where
      same-digit : (j : ℕ) → bit_of x j ≡ bit_of y j → digit x j ≡ digit y j
      same-digit j =
          unfold bit_of digit in λ e.
          two_digits (λ d c. eqb d 1 ≡ eqb c 1 → d ≡ c) (λ _. refl) (λ q. cc) (λ q. cc) (λ _. refl) (digit x j) (digit y j) (digit_lt x j) (digit_lt y j) e

module _ {p q : ℕ → Bool} {x y : ℕ} (a : Rest p 0 x) (b : Rest q 0 y) where
  -- the places of one are among those of the other exactly if what both have is all of it
  pub among-fact : bit_and x y ≡ x → (j : ℕ) → j < 64 → T (p j) → T (q j)
  among-fact e j l t = and_right (p j) (q j) (subst T (sym (same-places (rest-and a b) a e j l)) t)

  pub among-test : ((j : ℕ) → j < 64 → T (p j) → T (q j)) → bit_and x y ≡ x
  among-test h = places_same (rest-and a b) a (λ j l. bool-ext (p j && q j) (p j) (and_left (p j) (q j)) (λ t. and_intro (p j) (q j) t (h j l t)))

-- the same places
pub rest-ext : {p q : ℕ → Bool} {x : ℕ} → Rest p 0 x → ((j : ℕ) → j < 64 → p j ≡ q j) → Rest q 0 x
rest-ext r h = record { fits = r.fits; none = r.none; same = λ j a l. r.same j a l ∙ h j l }

-- a word of none
pub none_rest : (p : ℕ → Bool) → ((j : ℕ) → j < 64 → T (p j) → ⊥) → Rest p 0 0
none_rest p h = record {
  fits = omega arith;
  none = λ j l. absurd (omega arith);
  same = λ j a l. T_false {b = bit_of 0 j} (λ t. omega (arith, bit_of-digit 0 j t, digit-zero j)) ∙ sym (T_false {b = p j} (h j l));
}

-- ---- the words of a row, gathered in one

-- x is empty exactly if no place from `from` to 64 k passes p
pub record Merged (p : ℕ → Bool) (from k x : ℕ) : Type 0 where
  pub fact : x ≡ 0 → (w : ℕ) → from ≤ w → w < 64 * k → T (p w) → ⊥
  pub test : ((w : ℕ) → from ≤ w → w < 64 * k → T (p w) → ⊥) → x ≡ 0

pub merged-none : (p : ℕ → Bool) (k : ℕ) → Merged p (64 * k) k 0
merged-none p k = record { fact = λ e w a l. absurd (omega arith); test = λ h. refl }

-- a word more
pub merged-more : (p : ℕ → Bool) (from k x y : ℕ) → from ≤ 64 * k → Merged p from k x → Rest (λ j. p (64 * k + j)) 0 y → Merged p from (k + 1) (bit_or x y)
merged-more p from k x y f m r =
    let sum : bit_or x y + bit_and x y ≡ x + y = or_add_and x y in
    record {
      fact = λ e w b l t.
          let none-x : x ≡ 0 = omega (arith, sum, and_le_r x y) in
          let none-y : y ≡ 0 = omega (arith, sum, and_le_l x y) in
          elim (le? (64 * k) w) [
            | inl a ↦
                let at : 64 * k + (w - 64 * k) ≡ w = omega arith in
                rest_end r none-y (w - 64 * k) (omega arith) (omega arith) (subst (λ (i : ℕ). T (p i)) (sym at) t)
            | inr a ↦ m.fact none-x w b a t
          ];
      test = λ h.
          let none-y : y ≡ 0 =
          places_same r (none_rest (λ j. p (64 * k + j)) (λ j l. h (64 * k + j) (omega arith) (omega arith))) (λ j l. refl) in
          omega (arith, sum, m.test (λ w b l. h w b (omega arith)), none-y);
    }

-- ---- the first places

pub first_rest : (m : ℕ) → m ≤ 64 → Rest (λ j. ltb j m) 0 (2 ^ m - 1)
unfolding digit
first_rest m h = record {
  fits = omega (arith, pow_pos m, pow_mono {i = m} {j = 64} h);
  none = λ j l. absurd (omega arith);
  same = λ j a l. elim (le? m j) [
    | inl past ↦
        T_false {b = bit_of (2 ^ m - 1) j} (λ t. omega (arith, bit_at_ones_above m j past, bit_of-digit (2 ^ m - 1) j t))
        ∙ sym (T_false {b = ltb j m} (λ t. omega (arith, ltb→lt j m t)))
    | inr below ↦ T_true {b = bit_of (2 ^ m - 1) j} (digit-bit_of (2 ^ m - 1) j (bit_at_ones m j below)) ∙ sym (T_true {b = ltb j m} (lt→ltb j m below))
  ];
}

-- all of them, and more
pub all_rest : (m : ℕ) → 64 ≤ m → Rest (λ j. ltb j m) 0 (2 ^ 64 - 1)
all_rest m h =
    let r : Rest (λ j. ltb j 64) 0 (2 ^ 64 - 1) = first_rest 64 (omega arith) in
    rest-ext r (λ j l. T_true {b = ltb j 64} (lt→ltb j 64 l) ∙ sym (T_true {b = ltb j m} (lt→ltb j m (omega arith))))
