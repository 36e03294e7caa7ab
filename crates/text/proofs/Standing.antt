-- What stands at a position of a text while a number or a fixed text is read there. Assumes nothing.
use Rattle.std.proofs.Common.{◌≡◌, ℕ, ◌+◌, ◌-◌, ◌<◌, ◌≤◌, List, [], ◌∷◌, ◌++◌, length, get_or, take, drop, sym, ap, ◌∙◌, append_assoc, add-zero, add-one, arith, length-append, length-drop, drop_of_length-le, get_or-drop, drop-cons, take-suc, take-append-drop, drop-drop}
use lib.ListN.{get_or-append}
use lib.Seq.{take-add}
use Rattle.std.proofs.lemmas.List.{drop-append-le, take-append-le}
use Rattle.text.specs.Number.{is_digit, NoDigit}
use Rattle.text.specs.Literal.{Starts}
use Rattle.text.proofs.Decimals.{digit-below}

-- A number at a position of a text.

pub front-of-drop : (s : List ℕ) (i : ℕ) → get_or (drop i s) 0 0 ≡ get_or s i 0
front-of-drop s i = get_or-drop i s 0 0 ∙ ap (λ (k : ℕ). get_or s k 0) (add-zero i)

pub ends-out : (s : List ℕ) (i : ℕ) → length s ≤ i → NoDigit (drop i s)
ends-out s i h = ap (λ (l : List ℕ). is_digit (get_or l 0 0)) (drop_of_length-le s h) ∙ digit-below 0 (omega arith)

pub drop_more : (s : List ℕ) (i : ℕ) → i < length s → drop i s ≡ get_or s i 0 ∷ drop (i + 1) s
drop_more s i h = rw (add-one, drop-cons s i 0)

-- A fixed text at a position of a text.

pub literal-start : (s : List ℕ) (at : ℕ) (p : List ℕ) → drop at s ≡ take 0 p ++ drop (at + 0) s
literal-start s at p = ap (λ (k : ℕ). drop k s) (sym (add-zero at))

pub literal-turn : (s : List ℕ) (at : ℕ) (p : List ℕ) (k : ℕ) → drop at s ≡ take k p ++ drop (at + k) s → k < length p → at + k < length s
    → get_or s (at + k) 0 ≡ get_or p k 0 → drop at s ≡ take (k + 1) p ++ drop (at + (k + 1)) s
literal-turn s at p k e h l b =
    let n : (at + k) + 1 ≡ at + (k + 1) = omega arith in
    e
    ∙ ap (λ (u : List ℕ). take k p ++ u)
    (drop_more s (at + k) l ∙ ap (λ (x : ℕ). x ∷ drop ((at + k) + 1) s) b ∙ ap (λ (m : ℕ). get_or p k 0 ∷ drop m s) n)
    ∙ sym (append_assoc (take k p) (get_or p k 0 ∷ []) (drop (at + (k + 1)) s))
    ∙ ap (λ (u : List ℕ). u ++ drop (at + (k + 1)) s) (sym (take-suc p k 0 h) ∙ ap (λ (m : ℕ). take m p) (sym (add-one k)))

-- m bytes more of p
pub literal-more : (s : List ℕ) (at : ℕ) (p : List ℕ) (k m : ℕ) → Starts s at p k → take m (drop (at + k) s) ≡ take m (drop k p) → Starts s at p (k + m)
literal-more s at p k m e h =
    let left = drop (at + k) s in
    let after : drop m left ≡ drop (at + (k + m)) s = drop-drop m (at + k) s ∙ ap (λ (n : ℕ). drop n s) (omega arith) in
    e
    ∙ ap (λ (u : List ℕ). take k p ++ u) (sym (take-append-drop m left) ∙ (λ i. h i ++ after i))
    ∙ sym (append_assoc (take k p) (take m (drop k p)) (drop (at + (k + m)) s))
    ∙ ap (λ (u : List ℕ). u ++ drop (at + (k + m)) s) (sym (take-add k m p))

-- where p stands, so do any bytes of it
pub literal-part : (s : List ℕ) (at : ℕ) (p : List ℕ) (k m : ℕ) (rest : List ℕ) → k + m ≤ length p → drop at s ≡ p ++ rest
    → take m (drop (at + k) s) ≡ take m (drop k p)
literal-part s at p k m rest h e =
    ap (take m) (sym (drop-drop k at s) ∙ ap (drop k) e ∙ drop-append-le k p rest (omega (arith, h)))
    ∙ take-append-le m (drop k p) rest (omega (arith, length-drop k p, h))

-- where p stands, its bytes do
pub literal-same : (s : List ℕ) (at : ℕ) (p : List ℕ) (k : ℕ) (rest : List ℕ) → k < length p → drop at s ≡ p ++ rest → get_or s (at + k) 0 ≡ get_or p k 0
literal-same s at p k rest h e = sym (get_or-drop at s k 0) ∙ ap (λ (l : List ℕ). get_or l k 0) e ∙ get_or-append p rest 0 k h

-- p does not stand where a byte differs, or where too few bytes are left
pub literal-differs : (s : List ℕ) (at : ℕ) (p : List ℕ) (k : ℕ) (rest : List ℕ) → k < length p → (get_or s (at + k) 0 ≡ get_or p k 0 → ⊥)
    → drop at s ≡ p ++ rest → ⊥
literal-differs s at p k rest h d e = d (literal-same s at p k rest h e)

pub literal-short : (s : List ℕ) (at : ℕ) (p : List ℕ) (rest : List ℕ) → length s - at < length p → drop at s ≡ p ++ rest → ⊥
literal-short s at p rest h e = omega (arith, simp (length-drop, length-append) at (ap length e))
