-- Edges between u and vertices of one word, turned: first in u's row, a word at once, then in the rows of those vertices, one after the other.
-- Assumes nothing.
use mathlib.Core.Path.{◌≡◌, refl, sym, ap, ◌∙◌, fun_ext}
use mathlib.Core.Logic.{◌≢◌, inl, inr}
use mathlib.Core.Bool.{Bool, true, false, not, ◌&&◌}
use Prim.Native.Nat.{ℕ, ◌+◌, ◌*◌, ◌≤◌, ◌<◌}
use native.Mathlib.Omega.{arith}
use lib.Dec.{T, eqb, leb, ltb, eqb→eq, leb→le, le→leb, ltb→lt, lt→ltb}
use Rattle.model.specs.Shape.{GoodShape}
use Rattle.model.specs.State.{State}
use Rattle.model.specs.Bytes.{image}
use Rattle.model.specs.Parts.{bit_of}
use Rattle.model.specs.Moves.{owned_by}
use Rattle.model.proofs.Tests.{eq?, le?, bool-ext, true-T, T_true, T_false, eqb_yes, and_intro, and_left, and_right}
use Rattle.layout.specs.Setters.{disown, set_word}
use Rattle.layout.proofs.Tables.{entered, entry-is}
use Rattle.layout.proofs.Bits.{with_row_word, word_in, word_out}
use Rattle.layout.proofs.Images.{with_owns, with_word, disown-image, set_word-image}
use Rattle.moves.specs.Handing.{in_word}
use Rattle.moves.proofs.Owning.{owners_of}

-- those at the first m places of word k that pass h
unfoldable pub among : (ℕ → Bool) → ℕ → ℕ → ℕ → Bool
among h k m w = h w && in_word k m w

module _ (h : ℕ → Bool) (k m w : ℕ) where
  pub among_of : T (h w) → 64 * k ≤ w → w < 64 * k + m → T (among h k m w)
  unfolding among in_word
  among_of t a b = and_intro (h w) _ t (and_intro (leb (64 * k) w) _ (le→leb (64 * k) w a) (lt→ltb w (64 * k + m) b))

  pub among-is : T (among h k m w) → T (h w) × (64 * k ≤ w) × (w < 64 * k + m)
  unfolding among in_word
  among-is t =
      let r : T (leb (64 * k) w && ltb w (64 * k + m)) = and_right (h w) _ t in
      (and_left (h w) _ t, leb→le (64 * k) w (and_left (leb (64 * k) w) _ r), ltb→lt w (64 * k + m) (and_right (leb (64 * k) w) _ r))

-- Owners: the edges between u and those who pass p are turned as `owned_by` does, but of the rows of these only in those that pass q.
unfoldable pub turning : ℕ → (ℕ → Bool) → (ℕ → Bool) → Bool → (ℕ → ℕ → Bool) → ℕ → ℕ → Bool
turning u p q d owns x y = elim (eqb x u && p y) [ true ↦ d | false ↦ elim (eqb y u && q x) [ true ↦ not d | false ↦ owns x y ] ]

-- in the end it is that
pub turning-all : (u : ℕ) (p : ℕ → Bool) (d : Bool) (owns : ℕ → ℕ → Bool) → turning u p p d owns ≡ owned_by u p d owns
unfolding turning owned_by
turning-all u p d owns = refl

-- the same rows
pub turning-ext : (u : ℕ) (p q r : ℕ → Bool) (d : Bool) (owns : ℕ → ℕ → Bool)
    → ((x : ℕ) → T (q x) → T (r x)) → ((x : ℕ) → T (r x) → T (q x))
    → turning u p q d owns ≡ turning u p r d owns
turning-ext u p q r d owns f g = ap (λ (t : ℕ → Bool). turning u p t d owns) (fun_ext (λ x. bool-ext (q x) (r x) (f x) (g x)))

module _ (u : ℕ) (p q : ℕ → Bool) (d : Bool) (owns : ℕ → ℕ → Bool) (x y : ℕ) where
  pub turning-out : x ≡ u → T (p y) → turning u p q d owns x y ≡ d
  unfolding turning
  turning-out e t = rw (T_true {b = eqb x u && p y} (and_intro (eqb x u) _ (true-T (eqb_yes x u e)) t), turning) refl

  -- any edge but those of u's row that are turned
  module _ (f : x ≡ u → T (p y) → ⊥) where
    not-out : (eqb x u && p y) ≡ false
    not-out = T_false (λ t. f (eqb→eq x u (and_left (eqb x u) _ t)) (and_right (eqb x u) _ t))

    turning-back : y ≡ u → T (q x) → turning u p q d owns x y ≡ not d
    unfolding turning
    turning-back e t = rw (not-out, T_true {b = eqb y u && q x} (and_intro (eqb y u) _ (true-T (eqb_yes y u e)) t), turning) refl

    pub turning-rest : (y ≡ u → T (q x) → ⊥) → turning u p q d owns x y ≡ owns x y
    unfolding turning
    turning-rest g =
        let no : (eqb y u && q x) ≡ false = T_false (λ t. g (eqb→eq y u (and_left (eqb y u) _ t)) (and_right (eqb y u) _ t)) in
        rw (not-out, no, turning) refl

-- ---- u's row

module _ (s : State) (good : GoodShape s.kind.shape) (u k : ℕ) (p q : ℕ → Bool) (d : Bool)
    (inside : (y : ℕ) → T (p y) → (64 * k ≤ y) × (y < 64 * k + 64)) (none : (x : ℕ) → T (q x) → ⊥) where
  -- the owners that the word leads to, and u's row of them
  abbrev made : ℕ → ℕ → Bool
  made = turning u p q d s.owns

  row_out : (x y : ℕ) → (x ≡ u → 64 * k ≤ y → y < 64 * k + 64 → ⊥) → with_row_word s.owns u k (made u) x y ≡ made x y
  row_out x y out =
      word_out s.owns u k (made u) x y out
      ∙ sym (turning-rest u p q d s.owns x y (λ e t. let r = inside y t in out e r.0 r.1) (λ _ t. none x t))

  row_made : (x y : ℕ) → with_row_word s.owns u k (made u) x y ≡ made x y
  row_made x y = elim (eq? x u) [
    | inl e ↦ elim (le? (64 * k) y) [
      | inl a ↦ elim (le? (64 * k + 64) y) [
        | inl b ↦ row_out x y (λ _ _ c. omega arith)
        | inr b ↦ word_in s.owns u k (made u) x y e a b ∙ ap (λ (z : ℕ). made z y) (sym e)
      ]
      | inr a ↦ row_out x y (λ _ c _. omega arith)
    ]
    | inr e ↦ row_out x y (λ c _ _. e c)
  ]

  -- z is the word of that row
  pub turn-row : (z : ℕ) → u < s.kind.shape.most → 64 * k < s.kind.shape.most → ((j : ℕ) → j < 64 → bit_of z j ≡ made u (64 * k + j))
      → set_word s.kind.shape (image (owners_of s s.owns)) u k z ≡ image (owners_of s made)
  unfolding owners_of with_word
  turn-row z l m same =
      set_word-image (owners_of s s.owns) good u k z (made u) l m same
      ∙ ap (λ (o : ℕ → ℕ → Bool). image (owners_of s o)) (fun_ext (λ x. fun_ext (λ y. row_made x y)))

-- ---- the other ends

-- w's edge too: r is q and w
module _ (u w : ℕ) (p q r : ℕ → Bool) (apart : w ≢ u) (here : T (r w))
    (more : (x : ℕ) → T (q x) → T (r x)) (only : (x : ℕ) → T (r x) → x ≢ w → T (q x)) where
  turn-entry : (d : Bool) (owns : ℕ → ℕ → Bool) → entered (turning u p q d owns) w u (not d) ≡ turning u p r d owns
  turn-entry d owns = fun_ext (λ x. fun_ext (λ y. sym (entry-is (turning u p q d owns) w u (not d) (turning u p r d owns) x y
      (turning-back u p r d owns w u (λ e _. apart e) refl here) (same x y))))
    where
      same : (x y : ℕ) → (x ≡ w → y ≢ u) → turning u p r d owns x y ≡ turning u p q d owns x y
      same x y n = unfold turning in
          ap (λ (b : Bool). elim (eqb x u && p y) [ true ↦ d | false ↦ elim b [ true ↦ not d | false ↦ owns x y ] ])
          (bool-ext (eqb y u && r x) (eqb y u && q x)
          (λ t.
          let e : T (eqb y u) = and_left (eqb y u) _ t in
          and_intro (eqb y u) _ e (only x (and_right (eqb y u) _ t) (λ z. n z (eqb→eq y u e))))
          (λ t. and_intro (eqb y u) _ (and_left (eqb y u) _ t) (more x (and_right (eqb y u) _ t))))

  pub turn-disown : (s : State) → GoodShape s.kind.shape → w < s.kind.shape.most → u < s.kind.shape.most
      → disown s.kind.shape (image (owners_of s (turning u p q true s.owns))) w u ≡ image (owners_of s (turning u p r true s.owns))
  unfolding owners_of with_owns
  turn-disown s good l m =
      disown-image (owners_of s (turning u p q true s.owns)) good w u l m
      ∙ ap (λ (o : ℕ → ℕ → Bool). image (owners_of s o)) (turn-entry true s.owns)
