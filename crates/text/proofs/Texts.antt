-- Laws of texts put one after the other, and of what holds of every element of a list. Assumes nothing.
use Rattle.std.proofs.Common.{◌≡◌, ℕ, ◌*◌, ◌≤◌, List, [], ◌∷◌, ◌++◌, length, sym, ap, ◌∙◌, append_assoc, append-nil, mul-zero, mul-suc, arith, length-append}
use Rattle.model.specs.Lists.{All}
use Rattle.model.specs.Text.{texts}

-- one more at the end
pub texts-snoc : {A : Type 0} (f : A → List ℕ) (xs : List A) (x : A) → texts f (xs ++ (x ∷ [])) ≡ texts f xs ++ f x
unfolding texts
texts-snoc f [] x = append-nil (f x)
texts-snoc f (y ∷ xs) x = ap (λ (u : List ℕ). f y ++ u) (texts-snoc f xs x) ∙ sym (append_assoc (f y) (texts f xs) (f x))

pub all_snoc : {A : Type 0} (P : A → Type 0) (xs : List A) (x : A) → All P xs → P x → All P (xs ++ (x ∷ []))
all_snoc P [] x g h = (h, tt)
all_snoc P (y ∷ xs) x g h = (g.0, all_snoc P xs x g.1 h)

pub all-last : {A : Type 0} (P : A → Type 0) (xs ys : List A) → All P (xs ++ ys) → All P ys
all-last P [] ys h = h
all-last P (x ∷ xs) ys h = all-last P xs ys h.1

-- texts of at least k bytes each, and of at most k
pub texts-least : {A : Type 0} (f : A → List ℕ) (k : ℕ) → ((x : A) → k ≤ length (f x)) → (xs : List A) → k * length xs ≤ length (texts f xs)
unfolding texts
texts-least f k h [] = omega (arith, mul-zero k)
texts-least f k h (x ∷ xs) = omega (arith, mul-suc k (length xs), length-append (f x) (texts f xs), h x, texts-least f k h xs)

pub texts-most : {A : Type 0} (f : A → List ℕ) (Good : A → Type 0) (k : ℕ) → ((x : A) → Good x → length (f x) ≤ k) → (xs : List A) → All Good xs
    → length (texts f xs) ≤ k * length xs
unfolding texts
texts-most f Good k h [] g = omega (arith, mul-zero k)
texts-most f Good k h (x ∷ xs) g = omega (arith, mul-suc k (length xs), length-append (f x) (texts f xs), h x g.0, texts-most f Good k h xs g.1)
