-- Words that are sure to choose, as the code tests them. Assumes nothing.
use mathlib.Core.Path.{◌≡◌, refl, sym, ap, ◌∙◌, subst}
use mathlib.Core.Logic.{inl, inr}
use mathlib.Core.Bool.{Bool, true, false, ◌&&◌}
use mathlib.Core.List.{List, [], ◌∷◌, ◌++◌}
use Prim.Native.Nat.{ℕ, suc, ◌+◌, ◌*◌, ◌/◌, ◌^◌, ◌≤◌, ◌<◌}
use native.Mathlib.Nat.{div-mul-le_self}
use native.Mathlib.Omega.{arith}
use lib.Dec.{T, ltb, ltb→lt}
use lib.ListN.{length, get_or, take, get_or-append}
use lib.Seq.{get_or-take}
use Rattle.std.proofs.lemmas.List.{get_or_push, length_push, length-take-le}
use Rattle.model.specs.Shape.{low}
use Rattle.model.specs.Words.{all_words, limit, chooses}
use Rattle.model.proofs.Tests.{eq?, leb_yes, and_left, and_right}
use Rattle.model.proofs.Fair.{limit-next}
use Rattle.drawing.specs.Sure.{Sure}

-- T is more than 2^32 - k, so a word below 2^32 - 256 chooses
pub sure : (w k : ℕ) → 1 ≤ k → k ≤ low.most → w + low.most < all_words → chooses k w ≡ true
unfolding chooses
sure w k a b h = leb_yes (suc w) (limit k) (omega (arith, limit-next k a))

-- T, as the code finds it
pub limit_is : (k : ℕ) → 4294967296 / k * k ≡ limit k
unfolding limit all_words
limit_is k = refl

pub limit-fits : (n k : ℕ) → n < 2 ^ 64 → n / k * k < 2 ^ 64
limit-fits n k h = omega (arith, div-mul-le_self n k)

-- below 2^32 - 256, as the code tests it
pub below-sure : (w : ℕ) → w < 4294967040 → w + low.most < all_words
unfolding all_words
below-sure w h = omega arith

-- none of these words is large, if the answer is yes
abbrev pub NoneLarge : List ℕ → Bool → Type 0
NoneLarge words small = T small → (i : ℕ) → i < length words → get_or words i 0 + low.most < all_words

-- a word more
pub none-next : (words : List ℕ) (w : ℕ) (small : Bool) {next : Bool} → next ≡ (small && ltb w 4294967040)
    → NoneLarge words small → NoneLarge (words ++ w ∷ []) next
none-next words w small e f t i h =
    let both : T (small && ltb w 4294967040) = subst T e t in
    let at : i < length words + 1 = simp length_push at h in
    elim (eq? i (length words)) [
      | inl p ↦ rw (get_or_push words w 0 i (sym p)) (below-sure w (ltb→lt w 4294967040 (and_right small (ltb w 4294967040) both)))
      | inr d ↦
          let before : i < length words = omega arith in
          rw (get_or-append words (w ∷ []) 0 i before) (f (and_left small (ltb w 4294967040) both) i before)
    ]

pub sure-of : (words first : List ℕ) (h : ℕ) (small : Bool) → h ≤ length words → first ≡ take h words → NoneLarge first small → Sure small words h
sure-of words first h true many e f = (
  many,
  λ i b.
      let same : get_or first i 0 ≡ get_or words i 0 = ap (λ (s : List ℕ). get_or s i 0) e ∙ get_or-take h words i 0 b in
      subst (λ (w : ℕ). w + low.most < all_words) same (f tt i (omega (arith, ap length e, length-take-le h words many))),
)
sure-of words first h false many e f = tt
