-- The pass over a word of v's row: the vertices of v's own level come to own their edges to v, the others are gathered, and at the end of
-- the word v's row keeps those alone. Assumes nothing.
use mathlib.Core.Path.{◌≡◌, refl, sym, ap, ◌∙◌, subst, fun_ext}
use mathlib.Core.Logic.{◌≢◌, inl, inr}
use mathlib.Core.Bool.{Bool, true, false, ◌&&◌, ◌||◌}
use Prim.Native.Nat.{ℕ, suc, ◌+◌, ◌*◌, ◌≤◌, ◌<◌}
use lib.Dec.{T, eqb, leb, eqb→eq, leb→le, le→leb, lt→ltb, ltb→lt, not_T, T_not}
use Rattle.model.specs.Counting.{upd}
use Rattle.model.specs.Shape.{GoodShape}
use Rattle.model.specs.State.{Kind, State}
use Rattle.model.specs.Bytes.{image}
use Rattle.model.specs.Parts.{bit_of}
use Rattle.model.specs.Moves.{owned_by}
use Rattle.model.proofs.Tests.{eq?, holds?, bool-ext, true-T, T_true, T_false, eqb_yes, and_intro, and_left, and_right, or_cases, or_left, or_right}
use Rattle.model.proofs.Lists.{upd_same, upd_other}
use Rattle.theory.proofs.Ownership.{out, back, rest, turned}
use Rattle.layout.specs.Setters.{own, set_word}
use Rattle.layout.proofs.Bits.{word_in, word_out}
use Rattle.layout.proofs.Images.{with_owns, with_word, image-ext, own-image, set_word-image}
use Rattle.moves.specs.Proper.{Proper}
use Rattle.moves.specs.Handing.{same_level, other_level, in_word}
use Rattle.moves.proofs.Owning.{owners_of}

-- ---- which edges go, and which stay

module _ (s : State) (i v : ℕ) where
  pub same_of : (w : ℕ) → T (s.owns v w) → s.rank w ≡ suc i → T (same_level s i v w)
  unfolding same_level
  same_of w o e = and_intro (s.owns v w) _ o (true-T (eqb_yes (s.rank w) (suc i) e))

  pub same-is : (w : ℕ) → T (same_level s i v w) → T (s.owns v w) × (s.rank w ≡ suc i)
  unfolding same_level
  same-is w t = (and_left (s.owns v w) _ t, eqb→eq (s.rank w) (suc i) (and_right (s.owns v w) _ t))

  pub other-of : (w : ℕ) → T (s.owns v w) → s.rank w ≢ suc i → T (other_level s i v w)
  unfolding other_level
  other-of w o d = and_intro (s.owns v w) _ o (not_T (eqb (s.rank w) (suc i)) (λ t. d (eqb→eq (s.rank w) (suc i) t)))

  pub other-is : (w : ℕ) → T (other_level s i v w) → T (s.owns v w) × (s.rank w ≢ suc i)
  unfolding other_level
  other-is w t =
      (and_left (s.owns v w) _ t, λ e. T_not (eqb (s.rank w) (suc i)) (and_right (s.owns v w) _ t) (true-T (eqb_yes (s.rank w) (suc i) e)))

pub word_of : (k m w : ℕ) → 64 * k ≤ w → w < 64 * k + m → T (in_word k m w)
unfolding in_word
word_of k m w a b = and_intro (leb (64 * k) w) _ (le→leb (64 * k) w a) (lt→ltb w (64 * k + m) b)

pub word-is : (k m w : ℕ) → T (in_word k m w) → (64 * k ≤ w) × (w < 64 * k + m)
unfolding in_word
word-is k m w t = (leb→le (64 * k) w (and_left (leb (64 * k) w) _ t), ltb→lt w (64 * k + m) (and_right (leb (64 * k) w) _ t))

-- the edges that go, as far as place m of word k
unfoldable pub going : State → ℕ → ℕ → ℕ → ℕ → ℕ → Bool
going s i v k m w = same_level s i v w && in_word k m w

module _ (s : State) (i v k m w : ℕ) where
  pub going_of : T (same_level s i v w) → 64 * k ≤ w → w < 64 * k + m → T (going s i v k m w)
  unfolding going
  going_of h a b = and_intro (same_level s i v w) _ h (word_of k m w a b)

  pub going-is : T (going s i v k m w) → T (same_level s i v w) × (64 * k ≤ w) × (w < 64 * k + m)
  unfolding going
  going-is t = let g = word-is k m w (and_right (same_level s i v w) _ t) in (and_left (same_level s i v w) _ t, g.0, g.1)

-- ---- on the way: those who pass q own their edges to v too

unfoldable pub gains : ℕ → (ℕ → Bool) → (ℕ → ℕ → Bool) → ℕ → ℕ → Bool
gains v q owns x y = owns x y || (eqb y v && q x)

module _ (v : ℕ) (q : ℕ → Bool) (owns : ℕ → ℕ → Bool) (x y : ℕ) where
  gains-of : y ≡ v → T (q x) → T (gains v q owns x y)
  unfolding gains
  gains-of e t = or_right (owns x y) _ (and_intro (eqb y v) _ (true-T (eqb_yes y v e)) t)

  gains-old : T (owns x y) → T (gains v q owns x y)
  unfolding gains
  gains-old t = or_left (owns x y) _ t

  gains-else : (y ≡ v → T (q x) → ⊥) → T (gains v q owns x y) → T (owns x y)
  unfolding gains
  gains-else f t = elim (or_cases (owns x y) _ t) [
    | inl o ↦ o
    | inr g ↦ absurd (f (eqb→eq y v (and_left (eqb y v) _ g)) (and_right (eqb y v) _ g))
  ]

  gains-same : (y ≡ v → T (q x) → ⊥) → gains v q owns x y ≡ owns x y
  gains-same f = bool-ext (gains v q owns x y) (owns x y) (gains-else f) gains-old

-- the same, where the same pass
pub gains-ext : (v : ℕ) (p q : ℕ → Bool) (owns : ℕ → ℕ → Bool) → ((x : ℕ) → T (p x) → T (q x)) → ((x : ℕ) → T (q x) → T (p x))
    → gains v p owns ≡ gains v q owns
gains-ext v p q owns f g = ap (λ (r : ℕ → Bool). gains v r owns) (fun_ext (λ x. bool-ext (p x) (q x) (f x) (g x)))

-- nobody passes
pub gains-none : (v : ℕ) (q : ℕ → Bool) (owns : ℕ → ℕ → Bool) → ((x : ℕ) → T (q x) → ⊥) → gains v q owns ≡ owns
gains-none v q owns f = fun_ext (λ x. fun_ext (λ y. gains-same v q owns x y (λ _ t. f x t)))

-- w passes besides
gains-more : (v w : ℕ) (p q : ℕ → Bool) (owns : ℕ → ℕ → Bool) → T (q w) → ((x : ℕ) → T (p x) → T (q x)) → ((x : ℕ) → T (q x) → x ≢ w → T (p x))
    → upd (gains v p owns) w (upd (gains v p owns w) v true) ≡ gains v q owns
gains-more v w p q owns here f g = fun_ext (λ x. fun_ext (λ y. elim (eq? x w) [
  | inl e ↦ ap (λ (r : ℕ → Bool). r y) (upd_same (gains v p owns) w _ x e) ∙ elim (eq? y v) [
    | inl d ↦ upd_same (gains v p owns w) v true y d ∙ sym (T_true (gains-of v q owns x y d (subst (λ (z : ℕ). T (q z)) (sym e) here)))
    | inr d ↦ upd_other (gains v p owns w) v true y d ∙ ap (λ (z : ℕ). gains v p owns z y) (sym e)
        ∙ gains-same v p owns x y (λ a _. d a) ∙ sym (gains-same v q owns x y (λ a _. d a))
  ]
  | inr e ↦ ap (λ (r : ℕ → Bool). r y) (upd_other (gains v p owns) w _ x e)
      ∙ bool-ext (gains v p owns x y) (gains v q owns x y) (to x y e) (from x y e)
]))
  where
    to : (x y : ℕ) → x ≢ w → T (gains v p owns x y) → T (gains v q owns x y)
    to x y e t = elim (holds? (eqb y v && p x)) [
      | inl a ↦ gains-of v q owns x y (eqb→eq y v (and_left (eqb y v) _ a)) (f x (and_right (eqb y v) _ a))
      | inr a ↦ gains-old v q owns x y (gains-else v p owns x y (λ b c. a (and_intro (eqb y v) _ (true-T (eqb_yes y v b)) c)) t)
    ]

    from : (x y : ℕ) → x ≢ w → T (gains v q owns x y) → T (gains v p owns x y)
    from x y e t = elim (holds? (eqb y v && q x)) [
      | inl a ↦ gains-of v p owns x y (eqb→eq y v (and_left (eqb y v) _ a)) (g x (and_right (eqb y v) _ a) e)
      | inr a ↦ gains-old v p owns x y (gains-else v q owns x y (λ b c. a (and_intro (eqb y v) _ (true-T (eqb_yes y v b)) c)) t)
    ]

pub own-gains : (s : State) → GoodShape s.kind.shape → (v w : ℕ) (p q : ℕ → Bool) → v < s.kind.shape.most → w < s.kind.shape.most → T (q w)
    → ((x : ℕ) → T (p x) → T (q x)) → ((x : ℕ) → T (q x) → x ≢ w → T (p x))
    → own s.kind.shape (image (owners_of s (gains v p s.owns))) w v ≡ image (owners_of s (gains v q s.owns))
unfolding owners_of with_owns
own-gains s good v w p q l k here f g =
    own-image (owners_of s (gains v p s.owns)) good w v k l
    ∙ ap (λ (o : ℕ → ℕ → Bool). image (owners_of s o)) (gains-more v w p q s.owns here f g)

-- ---- the end of the word: v's row keeps what was gathered

module _ {K : Kind} (s : State) (p : Proper K s) (i v k : ℕ) where
  abbrev gone : ℕ → Bool
  gone = going s i v k 64

  -- an edge of the word: it is gone, or it is kept
  gone-in : (x y : ℕ) → x ≡ v → 64 * k ≤ y → y < 64 * k + 64 → other_level s i v y ≡ owned_by v gone false s.owns x y
  gone-in x y e a b = elim (turned v gone false s.owns x y) [
    | out _ g f ↦ T_false (λ t. (other-is s i v y t).1 (same-is s i v y (going-is s i v k 64 y g).0).1) ∙ sym f
    | back _ g f ↦ absurd (p.no_loop v (same-is s i v v (subst (λ (z : ℕ). T (same_level s i v z)) e (going-is s i v k 64 x g).0)).0)
    | rest g _ f ↦ bool-ext (other_level s i v y) (s.owns v y) (λ t. (other-is s i v y t).0)
        (λ o. other-of s i v y o (λ r. g e (going_of s i v k 64 y (same_of s i v y o r) a b))) ∙ ap (λ (z : ℕ). s.owns z y) (sym e) ∙ sym f
  ]

  -- any other edge
  gone-out : (x y : ℕ) → (x ≡ v → 64 * k ≤ y → y < 64 * k + 64 → ⊥) → gains v gone s.owns x y ≡ owned_by v gone false s.owns x y
  gone-out x y d = elim (turned v gone false s.owns x y) [
    | out e g f ↦ let r = going-is s i v k 64 y g in absurd (d e r.1 r.2)
    | back e g f ↦ T_true (gains-of v gone s.owns x y e g) ∙ sym f
    | rest _ g f ↦ gains-same v gone s.owns x y g ∙ sym f
  ]

  gone-owns : (x y : ℕ) → (with_word (owners_of s (gains v gone s.owns)) v k (other_level s i v)).owns x y ≡ owned_by v gone false s.owns x y
  unfolding owners_of with_word
  gone-owns x y = elim (holds? (eqb x v && in_word k 64 y)) [
    | inl a ↦
        let e : x ≡ v = eqb→eq x v (and_left (eqb x v) _ a) in
        let r = word-is k 64 y (and_right (eqb x v) _ a) in
        word_in (gains v gone s.owns) v k (other_level s i v) x y e r.0 r.1 ∙ gone-in x y e r.0 r.1
    | inr a ↦
        let d : x ≡ v → 64 * k ≤ y → y < 64 * k + 64 → ⊥ = λ e b c. a (and_intro (eqb x v) _ (true-T (eqb_yes x v e)) (word_of k 64 y b c)) in
        word_out (gains v gone s.owns) v k (other_level s i v) x y d ∙ gone-out x y d
  ]

  pub word-gone : (x : ℕ) → v < s.kind.shape.most → 64 * k < s.kind.shape.most
      → ((j : ℕ) → j < 64 → bit_of x j ≡ other_level s i v (64 * k + j))
      → set_word s.kind.shape (image (owners_of s (gains v gone s.owns))) v k x ≡ image (owners_of s (owned_by v gone false s.owns))
  unfolding owners_of with_word
  word-gone x l m same =
      set_word-image (owners_of s (gains v gone s.owns)) p.good v k x (other_level s i v) l m same
      ∙ image-ext (with_word (owners_of s (gains v gone s.owns)) v k (other_level s i v)) (owners_of s (owned_by v gone false s.owns)) p.good (record {
        kind = refl;
        n = refl;
        edges = refl;
        rank = λ _ _. refl;
        mate = λ _ _. refl;
        phi = λ _ _ _ _. refl;
        owns = λ a b _ _. gone-owns a b;
      })
