-- A number that was read digit by digit, when the next byte is a digit and when it is none. Assumes nothing.
use Rattle.std.proofs.Common.{◌≡◌, ℕ, ◌+◌, ◌*◌, ◌^◌, ◌<◌, ◌≤◌, false, List, [], ◌∷◌, ◌++◌, length, get_or, drop, sym, ap, ◌∙◌, append_assoc, pow-suc, add-one, arith}
use native.Mathlib.Nat.{pow-le-pow_right}
use Rattle.model.specs.Text.{decimal}
use Rattle.text.specs.Number.{is_digit, DigitOf, NumberThen, Begins}
use Rattle.text.proofs.Decimals.{decimal-small, decimal-snoc, digit-in, leading-zero, too_large}
use Rattle.text.proofs.Standing.{front-of-drop, drop_more}

-- the byte at i is no digit: what stands before it goes on no further
pub ends_at : (s : List ℕ) (i d : ℕ) → DigitOf (get_or s i 0) d → 9 < d → is_digit (get_or (drop i s) 0 0) ≡ false
ends_at s i d h k = ap is_digit (front-of-drop s i) ∙ h.none k

-- the byte at i is the digit d
digit-next : (s : List ℕ) (i d : ℕ) → i < length s → DigitOf (get_or s i 0) d → d ≤ 9 → drop i s ≡ (48 + d) ∷ drop (i + 1) s
digit-next s i d h f k = drop_more s i h ∙ ap (λ (x : ℕ). x ∷ drop (i + 1) s) (f.is k)

-- the first digit
pub one-digit : (s : List ℕ) (at d : ℕ) → at < length s → DigitOf (get_or s at 0) d → d ≤ 9 → drop at s ≡ decimal d ++ drop (at + 1) s
one-digit s at d h f k = digit-next s at d h f k ∙ ap (λ (l : List ℕ). l ++ drop (at + 1) s) (sym (decimal-small d (omega arith)))

-- a digit more, after a number that is not 0
pub next-digit : (s : List ℕ) (at i v d : ℕ) → drop at s ≡ decimal v ++ drop i s → i < length s → 0 < v → DigitOf (get_or s i 0) d → d ≤ 9
    → drop at s ≡ decimal (v * 10 + d) ++ drop (i + 1) s
next-digit s at i v d e h p f k =
    e
    ∙ ap (λ (l : List ℕ). decimal v ++ l) (digit-next s i d h f k)
    ∙ sym (append_assoc (decimal v) ((48 + d) ∷ []) (drop (i + 1) s))
    ∙ ap (λ (l : List ℕ). l ++ drop (i + 1) s) (sym (decimal-snoc v d p (omega arith)))

-- the number 0 and a digit more
pub zero-first : (s : List ℕ) (at i v d : ℕ) → drop at s ≡ decimal v ++ drop i s → i < length s → v ≡ 0 → DigitOf (get_or s i 0) d → d ≤ 9
    → (n : ℕ) (rest : List ℕ) → NumberThen (drop at s) n rest → ⊥
zero-first s at i v d e h z f k n rest w =
    let zero = ap (λ (m : ℕ). decimal m ++ drop i s) z ∙ ap (λ (l : List ℕ). l ++ drop i s) (decimal-small 0 (omega arith)) in
    let stands = e ∙ zero ∙ ap (λ (l : List ℕ). 48 ∷ l) (digit-next s i d h f k) in
    leading-zero _ _ stands (digit-in (48 + d) (omega arith) (omega arith)) w

-- two digits, the first of them not 0
pub begins-two : (s : List ℕ) (at v d : ℕ) → at + 1 < length s → DigitOf (get_or s at 0) v → v ≤ 9 → 0 < v → DigitOf (get_or s (at + 1) 0) d → d ≤ 9
    → Begins s at 2 (v * 10 + d)
begins-two s at v d h f k p g l =
    let n : at + 1 + 1 ≡ at + 2 = omega arith in
    record {
      stands = next-digit s at (at + 1) v d (one-digit s at v (omega arith) f k) h p g l ∙ ap (λ (i : ℕ). decimal (v * 10 + d) ++ drop i s) n;
      least = omega arith;
      most = omega arith;
    }

pub begins-more : (s : List ℕ) (at k v d : ℕ) → Begins s at k v → at + k < length s → DigitOf (get_or s (at + k) 0) d → d ≤ 9
    → Begins s at (k + 1) (v * 10 + d)
begins-more s at k v d b h f l =
    let n : at + k + 1 ≡ at + (k + 1) = omega arith in
    let p : 10 ^ (k + 1) ≡ 10 ^ k * 10 = rw (add-one, pow-suc) in
    let z : 10 ^ 0 ≤ 10 ^ k = pow-le-pow_right (omega arith) {i = 0} {j = k} (omega arith) in
    record {
      stands = next-digit s at (at + k) v d b.stands h (omega (arith, b.least)) f l ∙ ap (λ (i : ℕ). decimal (v * 10 + d) ++ drop i s) n;
      least = omega (arith, b.least);
      most = omega (arith, b.most);
    }

-- a number of at most nine digits fits, with a digit more if it has at most eight
pub begins-fits : {s : List ℕ} {at k v : ℕ} → Begins s at k v → k ≤ 9 → v < 1000000000
begins-fits {k = k} b h = let p : 10 ^ k ≤ 10 ^ 9 = pow-le-pow_right (omega arith) h in omega (arith, b.most)

pub begins-short : {s : List ℕ} {at k v : ℕ} → Begins s at k v → k < 9 → v < 100000000
begins-short {k = k} b h = let p : 10 ^ k ≤ 10 ^ 8 = pow-le-pow_right (omega arith) {i = k} {j = 8} (omega arith) in omega (arith, b.most)

-- eleven digits are too many
pub eleven : (s : List ℕ) (at v d : ℕ) → Begins s at 10 v → at + 10 < length s → DigitOf (get_or s (at + 10) 0) d → d ≤ 9
    → (n : ℕ) (rest : List ℕ) → NumberThen (drop at s) n rest → ⊥
eleven s at v d b h f l n rest w =
    let e = begins-more s at 10 v d b h f l in
    too_large _ _ e.stands (omega (arith, b.least)) w
