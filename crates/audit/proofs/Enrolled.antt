-- The rosters as they are tested, word by word, and as a sound rack has them, each vertex in the roster of its rank and in no other: the two
-- say the same. Assumes nothing.
use mathlib.Core.Path.{◌≡◌, refl, sym, ◌∙◌, subst}
use mathlib.Core.Logic.{inl, inr}
use mathlib.Core.List.{List}
use Prim.Native.Nat.{ℕ, zero, suc, ◌+◌, ◌*◌, ◌≤◌, ◌<◌}
use native.Mathlib.Numerals.{add-one}
use native.Mathlib.Omega.{arith}
use lib.Dec.{T, eqb, ltb, eqb→eq, ltb→lt, lt→ltb}
use lib.Bits.{bit_or}
use Rattle.model.specs.Shape.{Shape}
use Rattle.model.specs.Bytes.{top_at, rank_at, roster_at}
use Rattle.model.proofs.Tests.{eq?, le?, true-T, bool-ext, eqb_yes, or_cases, or_left, or_right}
use Rattle.bitset.specs.Words.{Rest}
use Rattle.bitset.proofs.Words.{rest_end}
use Rattle.bitset.proofs.Sets.{rest-or, none_rest}
use Rattle.audit.specs.Parts.{Settings, listed_in, AllRankedIn, RostersIn, Rosters}
use Rattle.audit.proofs.Words.{in-words}

-- ---- who is in a roster

module _ (S : Shape) (bs : List ℕ) (base : ℕ) where
  -- the words of the rosters, gathered in one
  pub listed-none : Rest (λ j. listed_in S bs 0 (base + j)) 0 0
  unfolding listed_in
  listed-none = none_rest (λ j. listed_in S bs 0 (base + j)) (λ j h t. t)

  pub listed_more : (m : ℕ) {x y : ℕ} → Rest (λ j. listed_in S bs m (base + j)) 0 x → Rest (λ j. roster_at S bs m (base + j)) 0 y
      → Rest (λ j. listed_in S bs (m + 1) (base + j)) 0 (bit_or x y)
  unfolding listed_in
  listed_more m {x} {y} a b = subst (λ (i : ℕ). Rest (λ j. listed_in S bs i (base + j)) 0 (bit_or x y)) (sym (add-one m)) (rest-or a b)

module _ (S : Shape) (bs : List ℕ) (v : ℕ) where
  listed-yes : (m r : ℕ) → r < m → T (roster_at S bs r v) → T (listed_in S bs m v)
  unfolding listed_in
  listed-yes zero r h t = absurd (omega arith)
  listed-yes (suc m) r h t = elim (eq? r m) [
    | inl e ↦ or_right (listed_in S bs m v) (roster_at S bs m v) (subst (λ (i : ℕ). T (roster_at S bs i v)) e t)
    | inr d ↦ or_left (listed_in S bs m v) (roster_at S bs m v) (listed-yes m r (omega arith) t)
  ]

  listed-where : (m : ℕ) → T (listed_in S bs m v) → (r : ℕ) × (r < m) × T (roster_at S bs r v)
  unfolding listed_in
  listed-where zero t = absurd t
  listed-where (suc m) t = elim (or_cases (listed_in S bs m v) (roster_at S bs m v) t) [
    | inl a ↦ let w = listed-where m a in (w.0, omega (arith, w.1), w.2)
    | inr a ↦ (m, omega arith, a)
  ]

-- a word in which none is listed
pub ranked-none : (S : Shape) (bs : List ℕ) (k : ℕ) {x : ℕ} → Rest (λ j. listed_in S bs (suc S.levels) (64 * k + j)) 0 x → x ≡ 0 → AllRankedIn S bs k
ranked-none S bs k a e r l j h t = absurd (rest_end a e j (omega arith) h (listed-yes S bs (64 * k + j) (suc S.levels) r l t))

-- ---- all words together

module _ {S : Shape} {bs : List ℕ} {n : ℕ} (m : ℕ) (all : S.most ≡ 64 * m) where
  pub words-right : ((k : ℕ) → k < m → RostersIn S bs n k) → Rosters S bs n
  words-right g = record {
    ranked = λ r l v h t. in-words (λ w. T (roster_at S bs r w) → rank_at bs w ≡ r) m (λ k i j b. (g k i).ranked r (omega arith) j b) v (omega (arith, all)) t;
    together = λ v h. in-words (λ w. listed_in S bs (suc S.levels) w ≡ ltb w n) m (λ k i j b. (g k i).together j b) v (omega (arith, all));
  }

  pub right-words : Rosters S bs n → (k : ℕ) → k < m → RostersIn S bs n k
  right-words g k i = record {
    ranked = λ r l j b t. g.ranked r (omega arith) (64 * k + j) (omega (arith, all)) t;
    together = λ j b. g.together (64 * k + j) (omega (arith, all));
  }

-- ---- from the tests to the facts, and back

module _ {S : Shape} {bs : List ℕ} {n : ℕ} (few : n ≤ S.most) (g : Rosters S bs n) where
  -- the roster in which v is, which is that of its rank
  enrolled-in : (v : ℕ) → v < n → (rank_at bs v ≤ S.levels) × T (roster_at S bs (rank_at bs v) v)
  enrolled-in v h =
      let w = listed-where S bs v (suc S.levels) (subst T (sym (g.together v (omega arith))) (lt→ltb v n h)) in
      let e : rank_at bs v ≡ w.0 = g.ranked w.0 (omega (arith, w.1)) v (omega arith) w.2 in
      (omega (arith, e, w.1), subst (λ (i : ℕ). T (roster_at S bs i v)) (sym e) w.2)

  pub enrolled-rank : (v : ℕ) → v < n → rank_at bs v ≤ S.levels
  enrolled-rank v h = (enrolled-in v h).0

  -- and it is none above the top
  pub enrolled-low : Settings S bs → (v : ℕ) → v < n → rank_at bs v ≤ suc (top_at bs)
  enrolled-low s v h = elim (le? (rank_at bs v) (suc (top_at bs))) [
    | inl l ↦ l
    | inr a ↦
        let e = enrolled-in v h in
        absurd (s.empty (rank_at bs v) (omega (arith, e.0)) a v (omega arith) e.1)
  ]

  pub enrolled-right : (v : ℕ) → v < n → (r : ℕ) → r < suc S.levels → roster_at S bs r v ≡ eqb (rank_at bs v) r
  enrolled-right v h r l = bool-ext (roster_at S bs r v) (eqb (rank_at bs v) r)
      (λ t. true-T (eqb_yes (rank_at bs v) r (g.ranked r (omega arith) v (omega arith) t)))
      (λ t. subst (λ (i : ℕ). T (roster_at S bs i v)) (eqb→eq (rank_at bs v) r t) (enrolled-in v h).1)

  pub enrolled-clear : (r : ℕ) → r < suc S.levels → (v : ℕ) → v < S.most → n ≤ v → T (roster_at S bs r v) → ⊥
  enrolled-clear r l v h a t =
      omega (arith, ltb→lt v n (subst T (g.together v h) (listed-yes S bs v (suc S.levels) r l t)))

module _ (S : Shape) (bs : List ℕ) (n : ℕ)
    (ranks : (v : ℕ) → v < n → rank_at bs v ≤ S.levels)
    (right : (v : ℕ) → v < n → (r : ℕ) → r < suc S.levels → roster_at S bs r v ≡ eqb (rank_at bs v) r)
    (clear : (r : ℕ) → r < suc S.levels → (v : ℕ) → v < S.most → n ≤ v → T (roster_at S bs r v) → ⊥) where
  -- who is in a roster is a vertex below n
  listed_below : (r : ℕ) → r < suc S.levels → (v : ℕ) → v < S.most → T (roster_at S bs r v) → v < n
  listed_below r l v h t = elim (le? n v) [ inl a ↦ absurd (clear r l v h a t) | inr a ↦ a ]

  pub enrolled-tested : Rosters S bs n
  enrolled-tested = record {
    ranked = λ r l v h t. eqb→eq (rank_at bs v) r (subst T (right v (listed_below r (omega arith) v h t) r (omega arith)) t);
    together = λ v h. bool-ext (listed_in S bs (suc S.levels) v) (ltb v n)
        (λ t. let w = listed-where S bs v (suc S.levels) t in lt→ltb v n (listed_below w.0 w.1 v h w.2))
        (λ t.
        let l : v < n = ltb→lt v n t in
        let i : rank_at bs v < suc S.levels = omega (arith, ranks v l) in
        listed-yes S bs v (suc S.levels) (rank_at bs v) i (true-T (right v l (rank_at bs v) i ∙ eqb_yes (rank_at bs v) (rank_at bs v) refl)));
  }
