-- An edge that is put in and taken out again leaves the rack as it was. Assumes nothing.
use mathlib.Core.Path.{◌≡◌, refl, ap, ◌∙◌, subst}
use mathlib.Core.Logic.{◌⊎◌, inl, inr}
use mathlib.Core.Bool.{Bool, not, ◌&&◌, ◌||◌}
use Prim.Native.Nat.{ℕ}
use lib.Dec.{T, eqb, eqb→eq, not_T, T_not}
use Rattle.model.specs.State.{State, edge}
use Rattle.model.specs.Change.{is_edge, without_edge, reown, owning, add_edge}
use Rattle.model.proofs.Tests.{bool-ext, le?, and_left, and_right, and_intro, or_cases, or_left, or_right}
use Rattle.theory.proofs.EdgeSets.{edge-is, is-edge}
use Rattle.edges.proofs.Changed.{drop_edge, add-high, add_low}

-- whichever end owned it
module _ (a b : ℕ) (s : State) (absent : T (edge s a b) → ⊥) (o e : ℕ) (end : ((o ≡ a) × (e ≡ b)) ⊎ ((o ≡ b) × (e ≡ a))) where
  put : ℕ → ℕ → Bool
  put v w = s.owns v w || eqb v o && eqb w e

  -- what is owned besides is not the edge
  other : (v w : ℕ) → T (s.owns v w) → T (is_edge a b v w) → ⊥
  unfolding edge
  other v w t h = elim (edge-is a b v w h) [
    | inl p ↦ absent (or_left (s.owns a b) (s.owns b a) (subst (λ (x : ℕ). T (s.owns a x)) p.1 (subst (λ (x : ℕ). T (s.owns x w)) p.0 t)))
    | inr p ↦ absent (or_right (s.owns a b) (s.owns b a) (subst (λ (x : ℕ). T (s.owns b x)) p.1 (subst (λ (x : ℕ). T (s.owns x w)) p.0 t)))
  ]

  is : (v w : ℕ) → T (eqb v o && eqb w e) → T (is_edge a b v w)
  is v w h =
      let p : v ≡ o = eqb→eq v o (and_left (eqb v o) _ h) in
      let q : w ≡ e = eqb→eq w e (and_right (eqb v o) _ h) in
      is-edge a b v w (elim end [ inl k ↦ inl (p ∙ k.0, q ∙ k.1) | inr k ↦ inr (p ∙ k.0, q ∙ k.1) ])

  owned : (v w : ℕ) → without_edge put a b v w ≡ s.owns v w
  unfolding without_edge put
  owned v w = bool-ext (put v w && not (is_edge a b v w)) (s.owns v w)
      (λ t. elim (or_cases (s.owns v w) (eqb v o && eqb w e) (and_left (put v w) _ t)) [
        | inl h ↦ h
        | inr h ↦ absurd (T_not (is_edge a b v w) (and_right (put v w) _ t) (is v w h))
      ])
      (λ t. and_intro (put v w) (not (is_edge a b v w)) (or_left (s.owns v w) _ t) (not_T (is_edge a b v w) (other v w t)))

  own-undone : drop_edge a b (owning o e s) ≡ s
  unfolding owning reown put
  own-undone = λ i. reown s (λ v w. owned v w i)

pub undone : (a b : ℕ) (s : State) → (T (edge s a b) → ⊥) → drop_edge a b (add_edge a b s) ≡ s
undone a b s f = elim (le? (s.rank b) (s.rank a)) [
  | inl h ↦ ap (drop_edge a b) (add-high a b s h) ∙ own-undone a b s f a b (inl (refl, refl))
  | inr h ↦ ap (drop_edge a b) (add_low a b s h) ∙ own-undone a b s f b a (inr (refl, refl))
]
