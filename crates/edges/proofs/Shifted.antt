-- The counts of the two ends of an edge while it is put in or taken out: first those of a change, and then those of b. Assumes nothing.
use mathlib.Core.Path.{◌≡◌, refl, sym, ap, ◌∙◌}
use mathlib.Core.Logic.{◌≢◌, ◌⊎◌, inl, inr}
use mathlib.Core.Bool.{true, false}
use Prim.Native.Nat.{ℕ, suc, ◌+◌, ◌≤◌, ◌<◌}
use Rattle.std.specs.Prelude.{max}
use Rattle.std.proofs.Math.Nat.{le-max_left, le-max_right, max-le}
use native.Mathlib.Omega.{arith}
use mathlib.Core.List.{List}
use lib.Dec.{leb}
use Rattle.model.specs.Counting.{upd}
use Rattle.model.specs.Shape.{Shape}
use Rattle.model.specs.State.{State, phi}
use Rattle.model.specs.Bytes.{rank_at, read}
use Rattle.model.proofs.Tests.{eq?, le?, leb_yes, leb_no}
use Rattle.model.proofs.Lists.{upd_same, upd_other}
use Rattle.moves.specs.Proper.{Held}
use Rattle.moves.specs.Counts.{step}
use Rattle.moves.proofs.Held.{held-rank}
use Rattle.edges.proofs.Joined.{EdgeMore, joined-turn, phi-more, phi-still, phi-other}

-- j is the higher of the ranks of a and b
pub record Higher (a b j : ℕ) (s : State) : Type 0 where
  pub a-low : s.rank a ≤ j
  pub b-low : s.rank b ≤ j
  pub least : (x : ℕ) → s.rank a ≤ x → s.rank b ≤ x → j ≤ x

-- the higher of the rank bytes, as the code finds it
pub higher-of : {S : Shape} {bs : List ℕ} → Held S bs → (a b : ℕ) → a < S.most → b < S.most → {x y r : ℕ} → x ≡ rank_at bs a → y ≡ rank_at bs b
    → r ≡ max x y → Higher a b r (read S bs)
higher-of h a b l k {x} {y} e f m =
    let c = held-rank h a l in
    let d = held-rank h b k in
    record {
      a-low = omega (arith, le-max_left x y);
      b-low = omega (arith, le-max_right x y);
      least = λ z p q. let least : max x y ≤ z = max-le (omega arith) (omega arith) in omega arith;
    }

-- at a and b the counts of t are δ of those of s from level j on; all others are the same
pub record Shifted (a b j : ℕ) (δ : ℕ → ℕ) (s t : State) : Type 0 where
  pub apart : a ≢ b
  pub on-a : (x : ℕ) → j ≤ x → phi t a x ≡ δ (phi s a x)
  pub on-b : (x : ℕ) → j ≤ x → phi t b x ≡ δ (phi s b x)
  pub low-a : (x : ℕ) → x < j → phi t a x ≡ phi s a x
  pub low-b : (x : ℕ) → x < j → phi t b x ≡ phi s b x
  pub rest : (v x : ℕ) → v ≢ a → v ≢ b → phi t v x ≡ phi s v x

-- a level below the higher rank is below one of the ranks
under : (a b j : ℕ) (s : State) → Higher a b j s → (x : ℕ) → x < j → (x < s.rank a) ⊎ (x < s.rank b)
under a b j s h x l = elim (le? (s.rank a) x) [
  | inr k ↦ inl k
  | inl k ↦ elim (le? (s.rank b) x) [ inr g ↦ inr g | inl g ↦ absurd (omega (arith, h.least x k g)) ]
]

turn : {A B : Type 0} → A ⊎ B → B ⊎ A
turn (inl x) = inr x
turn (inr x) = inl x

-- an edge more, and an edge less
pub gained : (a b j : ℕ) (s t : State) → EdgeMore a b s t → Higher a b j s → Shifted a b j (step true) s t
gained a b j s t J h =
    let K : EdgeMore b a s t = joined-turn a b s t J in
    record {
      apart = J.apart;
      on-a = λ x l. phi-more a b s t J x (omega (arith, h.a-low)) (omega (arith, h.b-low));
      on-b = λ x l. phi-more b a s t K x (omega (arith, h.b-low)) (omega (arith, h.a-low));
      low-a = λ x l. phi-still a b s t J x (under a b j s h x l);
      low-b = λ x l. phi-still b a s t K x (turn (under a b j s h x l));
      rest = phi-other a b s t J;
    }

pub lost : (a b j : ℕ) (s t : State) → Shifted a b j (step true) t s → Shifted a b j (step false) s t
lost a b j s t g = record {
  apart = g.apart;
  on-a = λ x l. omega (arith, g.on-a x l);
  on-b = λ x l. omega (arith, g.on-b x l);
  low-a = λ x l. sym (g.low-a x l);
  low-b = λ x l. sym (g.low-b x l);
  rest = λ v x d e. sym (g.rest v x d e);
}

-- the counts of t at the levels that the rack has, and those of s above, where nothing is stepped
unfoldable pub both : State → State → ℕ → ℕ → ℕ
both s t v x = elim (leb x s.kind.top) [ true ↦ phi t v x | false ↦ phi s v x ]

pub both-held : (s t : State) (v x : ℕ) → x ≤ s.kind.top → both s t v x ≡ phi t v x
unfolding both
both-held s t v x l = rw (leb_yes x s.kind.top l, both) refl

both-past : (s t : State) (v x : ℕ) → s.kind.top < x → both s t v x ≡ phi s v x
unfolding both
both-past s t v x l = rw (leb_no x s.kind.top l, both) refl

-- the counts when those of a have changed
unfoldable pub half : ℕ → State → State → ℕ → ℕ → ℕ
half a s t = upd (phi s) a (both s t a)

half-here : (a : ℕ) (s t : State) (v x : ℕ) → v ≡ a → half a s t v x ≡ both s t v x
unfolding half
half-here a s t v x e =
    ap (λ (r : ℕ → ℕ). r x) (upd_same (phi s) a (both s t a) v e) ∙ ap (λ (y : ℕ). both s t y x) (sym e)

pub half-there : (a : ℕ) (s t : State) (v x : ℕ) → v ≢ a → half a s t v x ≡ phi s v x
unfolding half
half-there a s t v x d = ap (λ (r : ℕ → ℕ). r x) (upd_other (phi s) a (both s t a) v d)

module _ (a b j k : ℕ) (δ : ℕ → ℕ) (s t : State) (G : Shifted a b j δ s t) (all : j + k ≡ suc s.kind.top) where
  pub half-on : (x : ℕ) → j ≤ x → x < j + k → half a s t a x ≡ δ (phi s a x)
  half-on x l h = half-here a s t a x refl ∙ both-held s t a x (omega arith) ∙ G.on-a x l

  pub half-off : (v x : ℕ) → (v ≡ a → j ≤ x → x < j + k → ⊥) → half a s t v x ≡ phi s v x
  half-off v x d = elim (eq? v a) [
    | inr e ↦ half-there a s t v x e
    | inl e ↦ half-here a s t v x e ∙ elim (le? (suc s.kind.top) x) [
      | inl l ↦ both-past s t v x l
      | inr l ↦ both-held s t v x (omega arith) ∙ elim (le? j x) [
        | inl h ↦ absurd (d e h (omega arith))
        | inr h ↦ ap (λ (y : ℕ). phi t y x) e ∙ G.low-a x h ∙ ap (λ (y : ℕ). phi s y x) (sym e)
      ]
    ]
  ]

  pub both-on : (x : ℕ) → j ≤ x → x < j + k → both s t b x ≡ δ (half a s t b x)
  both-on x l h =
      both-held s t b x (omega arith) ∙ G.on-b x l ∙ ap δ (sym (half-there a s t b x (λ e. G.apart (sym e))))

  pub both-off : (v x : ℕ) → (v ≡ b → j ≤ x → x < j + k → ⊥) → both s t v x ≡ half a s t v x
  both-off v x d = elim (eq? v a) [
    | inl e ↦ sym (half-here a s t v x e)
    | inr e ↦ elim (le? (suc s.kind.top) x) [
      | inl l ↦ both-past s t v x l
      | inr l ↦ both-held s t v x (omega arith) ∙ elim (eq? v b) [
        | inr f ↦ G.rest v x e f
        | inl f ↦ elim (le? j x) [
          | inl h ↦ absurd (d f h (omega arith))
          | inr h ↦ ap (λ (y : ℕ). phi t y x) f ∙ G.low-b x h ∙ ap (λ (y : ℕ). phi s y x) (sym f)
        ]
      ]
    ] ∙ sym (half-there a s t v x e)
  ]
