-- The search for a rise as a loop goes through it, from level j - 1 downwards. It may begin above the top, where no count reaches its
-- threshold. Assumes nothing.
use mathlib.Core.Path.{◌≡◌, refl, sym, ap, ◌∙◌}
use mathlib.Core.Logic.{inl, inr}
use mathlib.Core.List.{List}
use Prim.Native.Nat.{ℕ, zero, suc, ◌-◌, ◌≤◌, ◌<◌}
use native.Mathlib.Omega.{arith}
use Rattle.model.specs.Shape.{Shape}
use Rattle.model.specs.State.{Kind, Rules, rules, State, phi}
use Rattle.model.specs.Bytes.{phi_at, phi_entry, read}
use Rattle.model.specs.Moves.{none, found}
use Rattle.model.specs.Change.{riser}
use Rattle.model.proofs.Tests.{le?}
use Rattle.model.proofs.Fields.{entry-write}
use Rattle.model.proofs.Limits.{phi_entry-low, phi_entry-above}
use Rattle.theory.proofs.Loops.{riser-stop, riser-a, riser-b, riser-next}
use Rattle.moves.specs.Proper.{Proper, Held}
use Rattle.moves.proofs.Held.{proper-top, proper-pos, held-good}

-- the entry for a count, which the bytes hold at every level, also above the top
pub held-entry : {S : Shape} {bs : List ℕ} → Held S bs → (v j : ℕ) → v < S.most → j < S.levels → phi_at S bs v j ≡ phi_entry (read S bs) v j
unfolding read
held-entry {S} {bs} h v j l k = ap (λ (x : List ℕ). phi_at S x v j) h.written ∙ entry-write (read S bs) (held-good h) v j l k

-- an entry that reaches the threshold of its level is no entry above the top: those are 0, and no threshold is
pub reached-low : {K : Kind} (s : State) → Proper K s → (v i : ℕ) → (rules K).thr i ≤ phi_entry s v i → i ≤ K.top
reached-low {K} s p v i t = elim (le? i K.top) [
  | inl l ↦ l
  | inr l ↦ absurd (omega (arith, phi_entry-above s v i (omega (arith, proper-top p)), proper-pos p i))
]

-- no level below j is above both ends
pub search-ends : (R : Rules) (a b j : ℕ) (s : State) → ((x : ℕ) → s.rank a ≤ x → s.rank b ≤ x → j ≤ x) → riser R a b j s ≡ none
unfolding riser
search-ends R a b zero s h = refl
search-ends R a b (suc i) s h = riser-stop R a b i s (elim (le? (s.rank a) i) [
  | inr l ↦ inl l
  | inl l ↦ elim (le? (s.rank b) i) [ inr k ↦ inr k | inl k ↦ absurd (omega (arith, h i l k)) ]
])

-- both ends are below level j - 1
pub record Above (a b j : ℕ) (s : State) : Type 0 where
  pub some : 1 ≤ j
  pub a-low : s.rank a ≤ j - 1
  pub b-low : s.rank b ≤ j - 1

-- once the search is no longer above the top, what is left to find below j is the answer
abbrev pub Left : Rules → ℕ → ℕ → ℕ → State → Type 0
Left R a b j s = j ≤ suc R.top → riser R a b j s ≡ riser R a b (suc R.top) s

-- it may begin at the top or anywhere above
pub search-starts : (R : Rules) (a b j : ℕ) (s : State) → suc R.top ≤ j → Left R a b j s
search-starts R a b j s l k = ap (λ (x : ℕ). riser R a b x s) (omega arith)

module _ {K : Kind} (a b j : ℕ) (s : State) (p : Proper K s) (h : Above a b j s) (left : Left (rules K) a b j s) where
  here : j ≡ suc (j - 1)
  here = omega (arith, h.some)

  -- up to the top the entries are the counts
  count : (v : ℕ) → j - 1 ≤ K.top → phi_entry s v (j - 1) ≡ phi s v (j - 1)
  count v l = phi_entry-low s v (j - 1) (omega (arith, proper-top p))

  pub search-a : (rules K).thr (j - 1) ≤ phi_entry s a (j - 1) → found (j - 1) a ≡ riser (rules K) a b (suc K.top) s
  search-a t =
      let l = reached-low s p a (j - 1) t in
      sym (ap (λ (x : ℕ). riser (rules K) a b x s) here
      ∙ riser-a (rules K) a b (j - 1) s h.a-low h.b-low (omega (arith, count a l)))
      ∙ left (omega arith)

  pub search-b : phi_entry s a (j - 1) < (rules K).thr (j - 1) → (rules K).thr (j - 1) ≤ phi_entry s b (j - 1)
      → found (j - 1) b ≡ riser (rules K) a b (suc K.top) s
  search-b t u =
      let l = reached-low s p b (j - 1) u in
      sym (ap (λ (x : ℕ). riser (rules K) a b x s) here
      ∙ riser-b (rules K) a b (j - 1) s h.a-low h.b-low (omega (arith, count a l)) (omega (arith, count b l)))
      ∙ left (omega arith)

  pub search-on : phi_entry s a (j - 1) < (rules K).thr (j - 1) → phi_entry s b (j - 1) < (rules K).thr (j - 1) → Left (rules K) a b (j - 1) s
  search-on t u k = elim (le? (j - 1) K.top) [
    | inr l ↦ search-starts (rules K) a b (j - 1) s l k
    | inl l ↦
        sym (ap (λ (x : ℕ). riser (rules K) a b x s) here
        ∙ riser-next (rules K) a b (j - 1) s h.a-low h.b-low (omega (arith, count a l)) (omega (arith, count b l)))
        ∙ left (omega arith)
  ]
