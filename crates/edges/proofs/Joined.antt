-- Two states that differ by one edge: what the edge adds to the counts of its ends and to the number of edges. It serves both ways, for the
-- edge that is put in and for the one that is taken out. Assumes nothing.
use mathlib.Core.Path.{◌≡◌, sym, ap, ap₂, ◌∙◌}
use mathlib.Core.Logic.{◌≢◌, ◌⊎◌, inl, inr}
use mathlib.Core.Bool.{Bool, ◌&&◌}
use Prim.Native.Nat.{ℕ, suc, ◌+◌, ◌≤◌, ◌<◌}
use native.Mathlib.Omega.{arith}
use lib.Dec.{T, ltb, leb, lt→ltb, ltb→lt}
use Rattle.model.specs.Counting.{sum, bit, count}
use Rattle.model.specs.State.{State, edge, near, below, phi, edges}
use Rattle.model.proofs.Tests.{le?, bool-ext, and_intro, and_left, and_right}
use Rattle.model.proofs.Counting.{sum-point, bit-yes, bit-no, count_at}
use Rattle.model.proofs.Prefix.{count-ext}
use Rattle.model.proofs.Limits.{phi-above, phi-zero}
use Rattle.theory.proofs.EdgeChange.{Added, add_turn}
use Rattle.moves.proofs.Edges.{edge-turn, near_of, near-edge, near-low}

-- t is s with the edge a-b, which s has not
pub record EdgeMore (a b : ℕ) (s t : State) : Type 0 where
  pub size : t.n ≡ s.n
  pub rank : (v : ℕ) → t.rank v ≡ s.rank v
  pub added : Added a b (edge s) (edge t)
  pub there : T (edge t a b)
  pub absent : T (edge s a b) → ⊥
  pub apart : a ≢ b
  pub inside : (a < s.n) × (b < s.n)

-- the edge a-b is the edge b-a
pub joined-turn : (a b : ℕ) (s t : State) → EdgeMore a b s t → EdgeMore b a s t
joined-turn a b s t J = record {
  size = J.size;
  rank = J.rank;
  added = add_turn (edge s) (edge t) a b J.added;
  there = edge-turn t a b J.there;
  absent = λ h. J.absent (edge-turn s b a h);
  apart = λ e. J.apart (sym e);
  inside = (J.inside.1, J.inside.0);
}

module _ (a b : ℕ) (s t : State) (J : EdgeMore a b s t) where
  -- any other edge is there or not there in both
  edge_same : (v w : ℕ) → (v ≡ a → w ≢ b) → (v ≡ b → w ≢ a) → edge t v w ≡ edge s v w
  edge_same v w f g =
      bool-ext (edge t v w) (edge s v w)
      (λ h. elim (J.added.new v w h) [ inl k ↦ k | inr (inl k) ↦ absurd (f k.0 k.1) | inr (inr k) ↦ absurd (g k.0 k.1) ])
      (λ h. J.added.old v w h)

  near_same : (v x w : ℕ) → (v ≡ a → w ≢ b) → (v ≡ b → w ≢ a) → near t v x w ≡ near s v x w
  unfolding near
  near_same v x w f g = ap₂ (λ (e : Bool) (r : ℕ). e && leb r x) (edge_same v w f g) (J.rank w)

  -- a's neighbours are those that it had, and b
  below-gain : (x : ℕ) → below t a x + bit (near s a x b) ≡ below s a x + bit (near t a x b)
  unfolding below
  below-gain x =
      ap (λ (n : ℕ). count (near t a x) n + bit (near s a x b)) J.size
      ∙ count_at (near t a x) (near s a x) b s.n J.inside.1 (λ w d. near_same a x w (λ _. d) (λ e. absurd (J.apart e)))

  unseen : (x : ℕ) → bit (near s a x b) ≡ 0
  unseen x = bit-no (near s a x b) (λ h. J.absent (near-edge s a x b h))

  -- one more where both ends are below the level
  pub phi-more : (x : ℕ) → s.rank a ≤ x → s.rank b ≤ x → phi t a x ≡ suc (phi s a x)
  phi-more x h k =
      omega (
        arith,
        phi-above t a x (omega (arith, J.rank a)),
        phi-above s a x h,
        below-gain x,
        unseen x,
        bit-yes (near t a x b) (near_of t a x b J.there (omega (arith, J.rank b))),
      )

  -- and no more where one of them is not
  pub phi-still : (x : ℕ) → (x < s.rank a) ⊎ (x < s.rank b) → phi t a x ≡ phi s a x
  phi-still x h = elim (le? (s.rank a) x) [
    | inr l ↦ phi-zero t a x (omega (arith, J.rank a)) ∙ sym (phi-zero s a x l)
    | inl l ↦ elim h [
      | inl k ↦ absurd (omega arith)
      | inr k ↦ omega (
        arith,
        phi-above t a x (omega (arith, J.rank a)),
        phi-above s a x l,
        below-gain x,
        unseen x,
        bit-no (near t a x b) (λ g. omega (arith, near-low t a x b g, J.rank b)),
      )
    ]
  ]

  -- the other vertices count as they did
  pub phi-other : (v x : ℕ) → v ≢ a → v ≢ b → phi t v x ≡ phi s v x
  unfolding below
  phi-other v x f g =
      let same : below t v x ≡ below s v x =
      ap (count (near t v x)) J.size
      ∙ count-ext (near t v x) (near s v x) s.n (λ w l. near_same v x w (λ e. absurd (f e)) (λ e. absurd (g e))) in
      elim (le? (s.rank v) x) [
        | inl l ↦ phi-above t v x (omega (arith, J.rank v)) ∙ same ∙ sym (phi-above s v x l)
        | inr l ↦ phi-zero t v x (omega (arith, J.rank v)) ∙ sym (phi-zero s v x l)
      ]

  -- the edges of v to higher vertices
  abbrev row : State → ℕ → ℕ → Bool
  row r v w = ltb v w && edge r v w

  row_same : (v w : ℕ) → a < b → (v ≡ a → w ≢ b) → row t v w ≡ row s v w
  row_same v w l f =
      bool-ext (row t v w) (row s v w)
      (λ h. let k : v < w = ltb→lt v w (and_left (ltb v w) _ h) in
      and_intro (ltb v w) (edge s v w) (and_left (ltb v w) _ h)
      (elim (J.added.new v w (and_right (ltb v w) _ h)) [
        | inl e ↦ e
        | inr (inl e) ↦ absurd (f e.0 e.1)
        | inr (inr e) ↦ absurd (omega (arith, e.0, e.1))
      ]))
      (λ h. and_intro (ltb v w) (edge t v w) (and_left (ltb v w) _ h) (J.added.old v w (and_right (ltb v w) _ h)))

  edges-up : a < b → edges t ≡ suc (edges s)
  unfolding edges
  edges-up l =
      let here : count (row t a) s.n ≡ suc (count (row s a) s.n) =
      omega (
        arith,
        count_at (row t a) (row s a) b s.n J.inside.1 (λ w d. row_same a w l (λ _. d)),
        bit-no (row s a b) (λ h. J.absent (and_right (ltb a b) _ h)),
        bit-yes (row t a b) (and_intro (ltb a b) (edge t a b) (lt→ltb a b l) J.there),
      ) in
      ap (λ (n : ℕ). sum (λ v. count (row t v) n) n) J.size
      ∙ omega (
        arith,
        here,
        sum-point (λ v. count (row t v) s.n) (λ v. count (row s v) s.n) a s.n J.inside.0
            (λ v c d. count-ext (row t v) (row s v) s.n (λ w _. row_same v w l (λ e. absurd (d e)))),
      )

-- one edge more
pub edges_more : (a b : ℕ) (s t : State) → EdgeMore a b s t → edges t ≡ suc (edges s)
edges_more a b s t J = elim (le? b a) [
  | inl l ↦ edges-up b a s t (joined-turn a b s t J) (omega (arith, J.apart))
  | inr l ↦ edges-up a b s t J l
]
