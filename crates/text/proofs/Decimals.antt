-- Laws of decimals: how a number grows by a digit, that it starts with no zero, and that at most one number stands at a text's start.
-- Assumes nothing.
use Rattle.std.proofs.Common.{◌≡◌, ℕ, zero, suc, ◌+◌, ◌-◌, ◌*◌, ◌/◌, ◌%◌, ◌<◌, ◌≤◌, true, false, List, [], ◌∷◌, ◌++◌, length, get_or, sym, refl, ap, ◌∙◌, subst, inl, inr, append-nil, arith, length-append, le-ltb, lt-ltb, le-leb}
use mathlib.Core.List.{append_cancel_left}
use borrow.Author.Tests.{lt-leb}
use Rattle.model.specs.Text.{decimal_in, decimal, largest}
use Rattle.model.proofs.Tests.{le?}
use Rattle.text.specs.Number.{is_digit, NoDigit, NumberThen}

-- one digit, and more: the two cases of `decimal_in`
step_small : (f n : ℕ) → n < 10 → decimal_in (suc f) n ≡ (48 + n) ∷ []
unfolding decimal_in
step_small f n h = rw (lt-ltb n 10 h, decimal_in)

step-large : (f n : ℕ) → 10 ≤ n → decimal_in (suc f) n ≡ decimal_in f (n / 10) ++ ((48 + n % 10) ∷ [])
unfolding decimal_in
step-large f n h = rw (le-ltb n 10 h, decimal_in)

-- beyond n, how many digits are allowed makes no difference
enough : (f g n : ℕ) → n < f → n < g → decimal_in f n ≡ decimal_in g n
enough zero g n h k = absurd (omega arith)
enough (suc f) zero n h k = absurd (omega arith)
enough (suc f) (suc g) n h k =
    let ih = enough f g (n / 10) in
    elim (le? 10 n) [
      | inr p ↦ step_small f n p ∙ sym (step_small g n p)
      | inl p ↦ step-large f n p ∙ ap (λ (l : List ℕ). l ++ ((48 + n % 10) ∷ [])) (ih (omega arith) (omega arith)) ∙ sym (step-large g n p)
    ]

-- the form of a single digit, and of a number with a digit more
pub decimal-small : (n : ℕ) → n < 10 → decimal n ≡ (48 + n) ∷ []
unfolding decimal
decimal-small n h = step_small n n h

pub decimal-large : (n : ℕ) → 10 ≤ n → decimal n ≡ decimal (n / 10) ++ ((48 + n % 10) ∷ [])
unfolding decimal
decimal-large n h = step-large n n h ∙ ap (λ (l : List ℕ). l ++ ((48 + n % 10) ∷ [])) (enough n (suc (n / 10)) (n / 10) (omega arith) (omega arith))

-- what holds of one digit, and of a form with a digit more if of the form before it, holds of every number's form
module _ (P : ℕ → List ℕ → Type 0)
    (one : (n : ℕ) → n < 10 → P n ((48 + n) ∷ []))
    (more : (n : ℕ) (l : List ℕ) → 10 ≤ n → P (n / 10) l → P n (l ++ ((48 + n % 10) ∷ []))) where
  all_in : (f n : ℕ) → n < f → P n (decimal_in f n)
  all_in zero n h = absurd (omega arith)
  all_in (suc f) n h =
      let ih = all_in f (n / 10) in
      elim (le? 10 n) [
        | inr p ↦ subst (P n) (sym (step_small f n p)) (one n p)
        | inl p ↦ subst (P n) (sym (step-large f n p)) (more n (decimal_in f (n / 10)) p (ih (omega arith)))
      ]

  pub decimal-all : (n : ℕ) → P n (decimal n)
  unfolding decimal
  decimal-all n = all_in (suc n) n (omega arith)

-- how long they are
pub length-small : (n : ℕ) → n < 10 → length (decimal n) ≡ 1
length-small n h = ap length (decimal-small n h)

pub length-large : (n : ℕ) → 10 ≤ n → length (decimal n) ≡ length (decimal (n / 10)) + 1
length-large n h = ap length (decimal-large n h) ∙ length-append (decimal (n / 10)) ((48 + n % 10) ∷ [])

pub decimal-snoc : (n d : ℕ) → 0 < n → d < 10 → decimal (n * 10 + d) ≡ decimal n ++ ((48 + d) ∷ [])
decimal-snoc n d h k =
    let q : (n * 10 + d) / 10 ≡ n = omega arith in
    let r : (n * 10 + d) % 10 ≡ d = omega arith in
    decimal-large (n * 10 + d) (omega arith)
    ∙ ap (λ (m : ℕ). decimal m ++ ((48 + (n * 10 + d) % 10) ∷ [])) q
    ∙ ap (λ (m : ℕ). decimal n ++ ((48 + m) ∷ [])) r

-- Digits.

pub digit-in : (b : ℕ) → 48 ≤ b → b ≤ 57 → is_digit b ≡ true
unfolding is_digit
digit-in b h k = simp (le-leb _ _ h, le-leb _ _ k)

pub digit-below : (b : ℕ) → b < 48 → is_digit b ≡ false
unfolding is_digit
digit-below b h = simp (lt-leb _ _ h)

pub digit-out : (b : ℕ) → (48 ≤ b → 57 < b) → is_digit b ≡ false
unfolding is_digit
digit-out b h = elim (le? 48 b) [ inr p ↦ digit-below b p | inl p ↦ simp (le-leb 48 b p, lt-leb b 57 (h p)) ]

-- the digits that t starts with
lead : List ℕ → List ℕ
lead [] = []
lead (b ∷ t) = elim (is_digit b) [ true ↦ b ∷ lead t | false ↦ [] ]

lead-digit : (b : ℕ) (t : List ℕ) → is_digit b ≡ true → lead (b ∷ t) ≡ b ∷ lead t
unfolding lead
lead-digit b t h = rw (h, lead)

lead-none : (t : List ℕ) → NoDigit t → lead t ≡ []
unfolding lead
lead-none [] h = refl
lead-none (b ∷ t) h = rw (h, lead)

-- all bytes of a list are digits
pub data Digits : List ℕ → Type 0 where
  none : Digits []
  more : {b : ℕ} {t : List ℕ} → is_digit b ≡ true → Digits t → Digits (b ∷ t)

digits-snoc : {t : List ℕ} (b : ℕ) → Digits t → is_digit b ≡ true → Digits (t ++ (b ∷ []))
digits-snoc b none k = more k none
digits-snoc b (more h d) k = more h (digits-snoc b d k)

pub decimal-digits : (n : ℕ) → Digits (decimal n)
decimal-digits n =
    decimal-all (λ (m : ℕ) (l : List ℕ). Digits l)
    (λ m h. more (digit-in (48 + m) (omega arith) (omega arith)) none)
    (λ m l h d. digits-snoc (48 + m % 10) d (digit-in (48 + m % 10) (omega arith) (omega arith))) n

-- the digits that d ++ t starts with are d's, and then t's
lead-append : {d : List ℕ} (t : List ℕ) → Digits d → lead (d ++ t) ≡ d ++ lead t
unfolding lead
lead-append t none = refl
lead-append t (more {b = b} {t = d} h r) = lead-digit b (d ++ t) h ∙ ap (λ (l : List ℕ). b ∷ l) (lead-append t r)

-- the number that digits stand for, where a is that of the digits before them
value_from : ℕ → List ℕ → ℕ
value_from a [] = a
value_from a (b ∷ t) = value_from (a * 10 + (b - 48)) t

value_from-append : (a : ℕ) (t u : List ℕ) → value_from a (t ++ u) ≡ value_from (value_from a t) u
unfolding value_from
value_from-append a [] u = refl
value_from-append a (x ∷ t) u = value_from-append (a * 10 + (x - 48)) t u

value_from-le : (a : ℕ) (t : List ℕ) → a ≤ value_from a t
unfolding value_from
value_from-le a [] = omega arith
value_from-le a (x ∷ t) = omega (arith, value_from-le (a * 10 + (x - 48)) t)

value-first : (m : ℕ) → m < 10 → value_from 0 ((48 + m) ∷ []) ≡ m
unfolding value_from
value-first m h = omega arith

value-more : (m : ℕ) (l : List ℕ) → 10 ≤ m → value_from 0 l ≡ m / 10 → value_from 0 (l ++ ((48 + m % 10) ∷ [])) ≡ m
unfolding value_from
value-more m l h e = value_from-append 0 l ((48 + m % 10) ∷ []) ∙ omega arith

value : (n : ℕ) → value_from 0 (decimal n) ≡ n
value n = decimal-all (λ (m : ℕ) (l : List ℕ). value_from 0 l ≡ m) value-first value-more n

-- At most one number stands at a text's start.

-- a number's digits are all the digits that the text starts with
leads : {t : List ℕ} {n : ℕ} {rest : List ℕ} → NumberThen t n rest → lead t ≡ decimal n
leads {t} {n} {rest} h =
    ap lead h.written
    ∙ lead-append rest (decimal-digits n)
    ∙ ap (λ (l : List ℕ). decimal n ++ l) (lead-none rest h.ends)
    ∙ append-nil (decimal n)

pub same_number : {t : List ℕ} {n m : ℕ} {r u : List ℕ} → NumberThen t n r → NumberThen t m u → n ≡ m
same_number {t} {n} {m} h k = sym (value n) ∙ ap (value_from 0) (sym (leads h) ∙ leads k) ∙ value m

pub same_rest : {t : List ℕ} {n m : ℕ} {r u : List ℕ} → NumberThen t n r → NumberThen t m u → r ≡ u
same_rest {t} {n} {m} {r} {u} h k =
    append_cancel_left (decimal n) r u (sym h.written ∙ k.written ∙ ap (λ (i : ℕ). decimal i ++ u) (sym (same_number h k)))

-- a number that starts with m's digits is at least m
pub at_least : {t : List ℕ} {n : ℕ} {r : List ℕ} (m : ℕ) (u : List ℕ) → NumberThen t n r → t ≡ decimal m ++ u → m ≤ n
at_least {t} {n} m u h e =
    let l : decimal n ≡ decimal m ++ lead u = sym (leads h) ∙ ap lead e ∙ lead-append u (decimal-digits m) in
    let w = value_from-append 0 (decimal m) (lead u) ∙ ap (λ (k : ℕ). value_from k (lead u)) (value m) in
    let v : n ≡ value_from m (lead u) = sym (value n) ∙ ap (value_from 0) l ∙ w in
    omega (arith, value_from-le m (lead u))

-- a decimal form starts with a byte b, which is the digit 0 only in the form of 0
Front : ℕ → List ℕ → Type 0
Front n l = (b : ℕ) × (t : List ℕ) × (l ≡ b ∷ t) × (b ≡ 48 → n ≡ 0)

front : (n : ℕ) → Front n (decimal n)
unfolding Front
front n =
    decimal-all Front
    (λ m h. (48 + m, [], refl, (λ e. omega arith)))
    (λ m l h f.
    let (b, t, e, z) = f in
    (b, t ++ ((48 + m % 10) ∷ []), ap (λ (u : List ℕ). u ++ ((48 + m % 10) ∷ [])) e, (λ w. absurd (omega (arith, z w))))) n

first-digit : {d : List ℕ} (b : ℕ) (t : List ℕ) → Digits d → d ≡ b ∷ t → is_digit b ≡ true
first-digit b t none e = let z : ◌≡◌ {A = ℕ} 0 1 = cc in absurd (omega arith)
first-digit b t (more {b = x} h r) e = let q : x ≡ b = cc in rw q at h

true-false : true ≡ false → ⊥
true-false e = let z : ◌≡◌ {A = ℕ} 0 1 = cc in omega arith

-- no number stands where no digit does
pub no_digit : {t : List ℕ} {n : ℕ} {r : List ℕ} → NoDigit t → NumberThen t n r → ⊥
unfolding Front
no_digit {t} {n} {r} h k =
    let (b, u, e, z) = front n in
    let a : get_or t 0 0 ≡ b = ap (λ (l : List ℕ). get_or l 0 0) (k.written ∙ ap (λ (l : List ℕ). l ++ r) e) in
    true-false (sym (first-digit b u (decimal-digits n) e) ∙ ap is_digit (sym a) ∙ h)

-- a zero that a digit follows is no number
pub leading-zero : {t : List ℕ} {n : ℕ} {r : List ℕ} (d : ℕ) (u : List ℕ) → t ≡ 48 ∷ d ∷ u → is_digit d ≡ true → NumberThen t n r → ⊥
unfolding Front
leading-zero {t} {n} {r} d u h i k =
    let (b, v, e, z) = front n in
    let f : 48 ∷ d ∷ u ≡ b ∷ (v ++ r) = sym h ∙ k.written ∙ ap (λ (l : List ℕ). l ++ r) e in
    let w : b ≡ 48 = cc in
    let g : t ≡ 48 ∷ r = k.written ∙ ap (λ (m : ℕ). decimal m ++ r) (z w) ∙ ap (λ (l : List ℕ). l ++ r) (decimal-small 0 (omega arith)) in
    let q : r ≡ d ∷ u = cc in
    true-false (sym i ∙ ap (λ (l : List ℕ). is_digit (get_or l 0 0)) (sym q) ∙ k.ends)

-- a text that starts with the digits of a number that is too large
pub too_large : {t : List ℕ} {n : ℕ} {r : List ℕ} (m : ℕ) (u : List ℕ) → t ≡ decimal m ++ u → largest < m → NumberThen t n r → ⊥
too_large m u h i k = omega (arith, at_least m u k h, k.small)

pub length-pos : (n : ℕ) → 0 < length (decimal n)
unfolding Front
length-pos n = let (b, t, e, z) = front n in omega (arith, ap length e)
