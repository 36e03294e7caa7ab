-- The pick as one pass over the queue, by rank: what it has found before place j, a step of it, and its end. Assumes nothing.
use mathlib.Core.Path.{◌≡◌, refl, sym, ap, ◌∙◌, subst}
use mathlib.Core.Logic.{◌≢◌, inl, inr}
use mathlib.Core.List.{List, [], ◌∷◌}
use Prim.Native.Nat.{ℕ, zero, suc, ◌+◌, ◌-◌, ◌≤◌, ◌<◌}
use native.Mathlib.Omega.{arith}
use lib.ListN.{length, get_or, drop}
use Rattle.model.specs.Lists.{All}
use Rattle.model.specs.Moves.{pick, none, found}
use Rattle.model.proofs.Tests.{eq?}
use Rattle.theory.specs.Waiting.{of_rank, queues_in}
use Rattle.theory.proofs.Arrivals.{rank-yes, rank-no, rank-none}
use Rattle.theory.proofs.Loops.{pick-nothing, pick-found}

-- `at` is the first of rank best, at a place before j
pub record First (rank : ℕ → ℕ) (l : List ℕ) (best at j : ℕ) : Type 0 where
  pub place : ℕ
  pub inside : place < j
  pub there : get_or l place 0 ≡ at
  pub ranked : rank at ≡ best
  pub before : (x : ℕ) → x < place → rank (get_or l x 0) < best

-- before place j no vertex has a rank above best, and `at` is the first of rank best, if best is not 0
pub record Best (rank : ℕ → ℕ) (l : List ℕ) (best at j : ℕ) : Type 0 where
  pub high : (x : ℕ) → x < j → rank (get_or l x 0) ≤ best
  pub is : 1 ≤ best → First rank l best at j

module _ (rank : ℕ → ℕ) (l : List ℕ) where
  pub best_none : Best rank l 0 0 0
  best_none = record { high = λ x b. absurd (omega arith); is = λ k. absurd (omega arith) }

  -- a fact about the places before j, and about j, is one about those before j + 1
  onward : (F : ℕ → Type 0) (j : ℕ) → ((x : ℕ) → x < j → F (rank (get_or l x 0))) → F (rank (get_or l j 0)) → (x : ℕ) → x < j + 1 → F (rank (get_or l x 0))
  onward F j g k x b = elim (eq? x j) [ inl e ↦ subst (λ (y : ℕ). F (rank (get_or l y 0))) (sym e) k | inr d ↦ g x (omega arith) ]

  -- the vertex at j has no higher rank
  pub best-same : {best at j : ℕ} → Best rank l best at j → rank (get_or l j 0) ≤ best → Best rank l best at (j + 1)
  best-same {best} {at} {j} g k = record {
    high = onward (λ r. r ≤ best) j g.high k;
    is = λ p. let f = g.is p in record {
      place = f.place;
      inside = omega (arith, f.inside);
      there = f.there;
      ranked = f.ranked;
      before = f.before;
    };
  }

  -- it has a higher rank
  pub best-more : {best at j : ℕ} → Best rank l best at j → best < rank (get_or l j 0) → Best rank l (rank (get_or l j 0)) (get_or l j 0) (j + 1)
  best-more {best} {at} {j} g k = record {
    high = onward (λ r. r ≤ rank (get_or l j 0)) j (λ x b. omega (arith, g.high x b)) (omega arith);
    is = λ p. record {
      place = j;
      inside = omega arith;
      there = refl;
      ranked = refl;
      before = λ x b. omega (arith, g.high x b);
    };
  }

-- what the queue has of the rank of its first vertex of that rank
first_of : (rank : ℕ → ℕ) (x : ℕ) (l : List ℕ) (p : ℕ) → p < length l → rank (get_or l p 0) ≡ x → ((y : ℕ) → y < p → rank (get_or l y 0) ≢ x)
    → of_rank rank x l ≡ get_or l p 0 ∷ of_rank rank x (drop (suc p) l)
first_of rank x [] p b e h = absurd (omega arith)
first_of rank x (v ∷ l) zero b e h = rank-yes rank x v l e
first_of rank x (v ∷ l) (suc p) b e h =
    rank-no rank x v l (h 0 (omega arith)) ∙ first_of rank x l p (omega arith) e (λ y c. h (suc y) (omega arith))

-- a fact about every place is one about every element
pub all-places : (P : ℕ → Type 0) (l : List ℕ) → ((y : ℕ) → y < length l → P (get_or l y 0)) → All P l
all-places P [] h = tt
all-places P (v ∷ l) h = (h 0 (omega arith), all-places P l (λ y b. h (suc y) (omega arith)))

-- the end of the pass
module _ {rank : ℕ → ℕ} {l : List ℕ} {best at j : ℕ} (g : Best rank l best at j) (e : j ≡ length l) (m : ℕ) where
  -- nobody has a rank above best
  pub none_above : (i : ℕ) → best ≤ i → queues_in rank l i ≡ []
  none_above i b = rank-none rank (suc i) l (all-places (λ v. rank v ≢ suc i) l (λ y c f. omega (arith, g.high y (omega arith))))

  pub best-nothing : best ≡ 0 → pick m (queues_in rank l) ≡ none
  best-nothing z = pick-nothing m (queues_in rank l) (λ i b. none_above i (omega arith))

  pub best-found : 1 ≤ best → best ≤ m → pick m (queues_in rank l) ≡ found (best - 1) at
  best-found k b =
      let f : First rank l best at j = g.is k in
      let r : rank (get_or l f.place 0) ≡ suc (best - 1) = ap rank f.there ∙ f.ranked ∙ omega arith in
      pick-found m (best - 1) at (of_rank rank (suc (best - 1)) (drop (suc f.place) l)) (queues_in rank l) (omega arith)
      (λ i c d. none_above i (omega arith))
      (first_of rank (suc (best - 1)) l f.place (omega (arith, f.inside)) r (λ y c z. omega (arith, f.before y c))
      ∙ ap (λ (v : ℕ). v ∷ of_rank rank (suc (best - 1)) (drop (suc f.place) l)) f.there)
