-- Sums over pairs, and two double counts: where each edge has one owner, there are as many edges as there are owned; and the neighbours of all
-- vertices together are twice as many as the edges. Assumes nothing.
use mathlib.Core.Path.{◌≡◌, refl, sym, ap, ◌∙◌, subst}
use mathlib.Core.Logic.{inl, inr}
use mathlib.Core.Bool.{Bool, true, false, ◌&&◌, ◌||◌}
use Prim.Native.Nat.{ℕ, zero, suc, ◌+◌, ◌*◌, ◌<◌}
use native.Mathlib.Omega.{arith}
use lib.Dec.{T, ltb}
use Rattle.model.specs.Counting.{sum, bit, count}
use Rattle.model.specs.State.{edge_count}
use Rattle.model.proofs.Tests.{eq?, le?, leb_yes, leb_no}
use Rattle.model.proofs.Counting.{sum-eq, sum-add, sum-zero, bit-no}

-- a sum of sums may be taken in either order
pub sum-swap : (f : ℕ → ℕ → ℕ) (m n : ℕ) → sum (λ v. sum (f v) n) m ≡ sum (λ w. sum (λ v. f v w) m) n
unfolding sum
sum-swap f zero n = sym (sum-zero n)
sum-swap f (suc m) n = ap (λ (x : ℕ). sum (f m) n + x) (sum-swap f m n) ∙ sym (sum-add (f m) (λ w. sum (λ v. f v w) m) n)

-- an alternative of which not both hold counts as its two parts
or-bits : (a b c : Bool) → (T b → T c → ⊥) → bit (a && (b || c)) ≡ bit (a && b) + bit (a && c)
or-bits false b c h = refl
or-bits true false c h = omega arith
or-bits true true false h = refl
or-bits true true true h = absurd (h tt tt)

-- whether o leads from v to w, upwards and downwards
abbrev up : (ℕ → ℕ → Bool) → ℕ → ℕ → ℕ
up o v w = bit (ltb v w && o v w)

abbrev down : (ℕ → ℕ → Bool) → ℕ → ℕ → ℕ
down o v w = bit (ltb w v && o v w)

-- what leads from a vertex to another leads upwards or downwards
module _ (o : ℕ → ℕ → Bool) (n : ℕ) (no_loop : (v : ℕ) → v < n → T (o v v) → ⊥) where
  both_ways : (v w : ℕ) → v < n → up o v w + down o v w ≡ bit (o v w)
  both_ways v w h = elim (eq? v w) [
    | inl e ↦
        let none : bit (o v w) ≡ 0 = bit-no (o v w) (λ t. no_loop v h (subst (λ (x : ℕ). T (o v x)) (sym e) t)) in
        omega (
          arith,
          none,
          ap (λ (b : Bool). bit (b && o v w)) (leb_no (suc v) w (omega arith)),
          ap (λ (b : Bool). bit (b && o v w)) (leb_no (suc w) v (omega arith)),
        )
    | inr d ↦ elim (le? v w) [
      | inl l ↦ omega (
        arith,
        ap (λ (b : Bool). bit (b && o v w)) (leb_yes (suc v) w (omega arith)),
        ap (λ (b : Bool). bit (b && o v w)) (leb_no (suc w) v (omega arith)),
      )
      | inr l ↦ omega (
        arith,
        ap (λ (b : Bool). bit (b && o v w)) (leb_no (suc v) w (omega arith)),
        ap (λ (b : Bool). bit (b && o v w)) (leb_yes (suc w) v (omega arith)),
      )
    ]
  ]

  all_ways : sum (λ v. sum (up o v) n) n + sum (λ v. sum (λ w. down o w v) n) n ≡ sum (λ v. count (o v) n) n
  unfolding count
  all_ways =
      let joined : sum (λ v. sum (up o v) n + sum (down o v) n) n ≡ sum (λ v. sum (λ w. bit (o v w)) n) n =
      sum-eq _ _ n (λ v hv. sym (sum-add (up o v) (down o v) n) ∙ sum-eq _ _ n (λ w hw. both_ways v w hv)) in
      omega (arith, joined, sum-add (λ v. sum (up o v) n) (λ v. sum (down o v) n) n, sum-swap (down o) n n)

-- where each edge has one owner
module _ (o : ℕ → ℕ → Bool) (n : ℕ) (once : (v w : ℕ) → v < n → w < n → T (o v w) → T (o w v) → ⊥) where
  pub double-count : edge_count n (λ v w. o v w || o w v) ≡ sum (λ v. count (o v) n) n
  unfolding count
  double-count =
      let split : sum (λ v. sum (λ w. bit (ltb v w && (o v w || o w v))) n) n ≡ sum (λ v. sum (up o v) n + sum (λ w. down o w v) n) n =
      sum-eq _ _ n (λ v hv. sum-eq _ _ n (λ w hw. or-bits (ltb v w) (o v w) (o w v) (once v w hv hw)) ∙ sum-add (up o v) (λ w. down o w v) n) in
      omega (
        arith,
        split,
        sum-add (λ v. sum (up o v) n) (λ v. sum (λ w. down o w v) n) n,
        all_ways o n (λ v h t. once v v h h t t),
      )

-- where each edge is at both its ends
module _ (there : ℕ → ℕ → Bool) (n : ℕ) (no_loop : (v : ℕ) → v < n → T (there v v) → ⊥) (turn : (v w : ℕ) → there v w ≡ there w v) where
  pub ends-twice : sum (λ v. count (there v) n) n ≡ 2 * edge_count n there
  unfolding count
  ends-twice =
      let same : sum (λ v. sum (λ w. down there w v) n) n ≡ sum (λ v. sum (up there v) n) n =
      sum-eq _ _ n (λ v hv. sum-eq _ _ n (λ w hw. ap (λ (b : Bool). bit (ltb v w && b)) (turn w v))) in
      omega (arith, same, all_ways there n no_loop)
