-- Which word decides a draw, a step at a time, and how far along the words it stands. Assumes nothing.
use mathlib.Core.Path.{◌≡◌, refl, ap, ◌∙◌}
use mathlib.Core.Logic.{inl, inr}
use mathlib.Core.Bool.{true, false}
use mathlib.Core.List.{List, [], ◌∷◌, ◌++◌}
use Prim.Native.Nat.{ℕ, zero, suc, ◌%◌, ◌≤◌, ◌<◌}
use native.Mathlib.Nat.{mod-lt, zero-mod}
use native.Mathlib.Omega.{arith}
use lib.ListN.{length, get_or, drop, length-drop, drop_of_length-le}
use lib.Seq.{get_or-append_seam}
use Rattle.model.specs.Words.{chooses, passed, deciding, place}
use Rattle.model.proofs.Tests.{holds?, T_true, T_false}

drop_at : (l : List ℕ) (j : ℕ) → j < length l → drop j l ≡ get_or l j 0 ∷ drop (suc j) l
drop_at [] j h = absurd (omega arith)
drop_at (x ∷ l) zero h = refl
drop_at (x ∷ l) (suc j) h = drop_at l j (omega arith)

get_d_past : (l : List ℕ) (j : ℕ) → length l ≤ j → get_or l j 0 ≡ 0
get_d_past [] j h = refl
get_d_past (x ∷ l) zero h = absurd (omega arith)
get_d_past (x ∷ l) (suc j) h = get_d_past l j (omega arith)

-- no more words are passed over than there are
passed-most : (k : ℕ) (l : List ℕ) → passed k l ≤ length l
unfolding passed
passed-most k [] = omega arith
passed-most k (w ∷ l) = elim (holds? (chooses k w)) [
  | inl t ↦ rw (T_true {b = chooses k w} t, passed) (omega arith)
  | inr t ↦ rw (T_false {b = chooses k w} t, passed) (omega (arith, passed-most k l))
]

module _ (words : List ℕ) (k j : ℕ) where
  -- the word at hand decides ..
  pub deciding-here : j < length words → chooses k (get_or words j 0) ≡ true → deciding words j k ≡ j
  unfolding deciding passed
  deciding-here h t =
      let z : passed k (drop j words) ≡ 0 = ap (passed k) (drop_at words j h) ∙ rw (t, passed) refl in
      omega (arith, z)

  -- .. or the next is tried ..
  pub deciding-next : {j' : ℕ} → j' ≡ suc j → j < length words → chooses k (get_or words j 0) ≡ false → deciding words j k ≡ deciding words j' k
  unfolding deciding passed
  deciding-next {j'} e h t =
      let z : passed k (drop j words) ≡ suc (passed k (drop (suc j) words)) = ap (passed k) (drop_at words j h) ∙ rw (t, passed) refl in
      let y : passed k (drop j' words) ≡ passed k (drop (suc j) words) = ap (λ (x : ℕ). passed k (drop x words)) e in
      omega (arith, z, y)

  -- .. or there is none
  pub deciding-past : length words ≤ j → deciding words j k ≡ j
  unfolding deciding passed
  deciding-past h = let z : passed k (drop j words) ≡ 0 = ap (passed k) (drop_of_length-le words h) in omega (arith, z)

module _ (words : List ℕ) (used k : ℕ) where
  -- it is one of the words, or the first past them
  pub deciding-most : (m : ℕ) → used ≤ m → length words ≤ m → deciding words used k ≤ m
  unfolding deciding
  deciding-most m a b = omega (arith, passed-most k (drop used words), length-drop used words)

  -- the place is a place among k, the one of the word that decides, and 0 past the last word
  pub place-less : 1 ≤ k → place words used k < k
  unfolding place
  place-less h = mod-lt (get_or words (deciding words used k) 0) h

  pub place_of : (j : ℕ) → deciding words used k ≡ j → place words used k ≡ get_or words j 0 % k
  unfolding place
  place_of j e = ap (λ (x : ℕ). get_or words x 0 % k) e

  pub place-past : (j : ℕ) → deciding words used k ≡ j → length words ≤ j → place words used k ≡ 0
  place-past j e h = place_of j e ∙ ap (λ (x : ℕ). x % k) (get_d_past words j h) ∙ zero-mod k

-- the word that comes next, if it decides: whatever was used before it, and whatever comes after
next-there : (front : List ℕ) (w : ℕ) (l : List ℕ) → length front < length (front ++ (w ∷ l))
next-there [] w l = omega arith
next-there (x ∷ front) w l = omega (arith, next-there front w l)

pub place-next : (front : List ℕ) (k w : ℕ) (l : List ℕ) → chooses k w ≡ true → place (front ++ (w ∷ l)) (length front) k ≡ w % k
place-next front k w l t =
    let words : List ℕ = front ++ (w ∷ l) in
    let e : get_or words (length front) 0 ≡ w = get_or-append_seam front w l 0 in
    place_of words (length front) k (length front) (deciding-here words k (length front) (next-there front w l) (ap (chooses k) e ∙ t))
    ∙ ap (λ (x : ℕ). x % k) e
