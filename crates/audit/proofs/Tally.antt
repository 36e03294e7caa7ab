-- Laws of the tally: an edge more, a stretch of a row with no edge, a row more, and how large an entry gets. Assumes nothing.
use mathlib.Core.Path.{◌≡◌, refl, sym, ap, ◌∙◌, subst}
use mathlib.Core.Logic.{◌≢◌, inl, inr}
use mathlib.Core.Bool.{Bool, true, false, ◌&&◌}
use mathlib.Core.List.{List}
use Prim.Native.Nat.{ℕ, suc, ◌+◌, ◌*◌, ◌/◌, ◌%◌, ◌≤◌, ◌<◌}
use native.Mathlib.Nat.{mul_comm}
use native.Mathlib.Numerals.{add-one}
use native.Mathlib.Omega.{arith}
use lib.Dec.{T, eqb, ltb, leb→le, le→leb}
use lib.ListN.{length, get_or, set, length-set}
use lib.Seq.{get_or-set_same, get_or-set_other}
use Rattle.model.specs.Counting.{sum, bit, count}
use Rattle.model.specs.Shape.{Shape}
use Rattle.model.specs.Bytes.{rank_at, owns_at}
use Rattle.model.proofs.Tests.{eq?, le?, bool-ext, eqb_yes, eqb_no, leb_yes, leb_no, and_intro, and_left, and_right}
use Rattle.model.proofs.Counting.{sum-le, sum-point, sum_bound, sum-eq, bit_le, bit-yes, count-bound}
use Rattle.model.proofs.Parts.{rows-div, rows-mod, rows_inside}
use Rattle.model.proofs.Prefix.{count-suc, count-zero, count-skip}
use Rattle.audit.specs.Tally.{share, tallied, partly, ends, Added}

-- ---- an edge more in the tally

bump : (t : List ℕ) (i k : ℕ) → i < length t → get_or (set t i (get_or t i 0 + 1)) k 0 ≡ get_or t k 0 + bit (eqb k i)
bump t i k h = elim (eq? k i) [
  | inl e ↦
      let one : bit (eqb k i) ≡ 1 = ap bit (eqb_yes k i e) in
      ap (λ (m : ℕ). get_or (set t i (get_or t i 0 + 1)) m 0) e ∙ get_or-set_same t i (get_or t i 0 + 1) 0 h
      ∙ omega (arith, one, ap (λ (m : ℕ). get_or t m 0) e)
  | inr e ↦ get_or-set_other t i k (get_or t i 0 + 1) 0 e ∙ omega (arith, ap bit (eqb_no k i e))
]

ends_same : (v w r x s : ℕ) → r ≡ s → ends v w r x s ≡ bit (eqb x w) + bit (eqb x v)
unfolding ends
ends_same v w r x s e = rw (eqb_yes r s e, ends) refl

ends-other : (v w r x s : ℕ) → r ≢ s → ends v w r x s ≡ 0
unfolding ends
ends-other v w r x s d = rw (eqb_no r s d, ends) refl

-- an entry is one vertex's for one rank of k, and a tally has it
pub cell-inside : (S : Shape) (x r : ℕ) → x < S.most → r < S.levels → S.levels * x + r < S.levels * S.most
cell-inside S x r hx hr = omega (arith, rows_inside S.most S.levels x r hx hr, mul_comm S.most S.levels)

cell_same : (k x w r s : ℕ) → s < k → r ≡ s → eqb (k * x + s) (k * w + r) ≡ eqb x w
cell_same k x w r s h e = elim (eq? x w) [
  | inl q ↦ eqb_yes (k * x + s) (k * w + r) (omega (arith, ap (λ (y : ℕ). k * y) q)) ∙ sym (eqb_yes x w q)
  | inr d ↦ eqb_no (k * x + s) (k * w + r)
      (λ q. d (sym (rows-div k x s h) ∙ ap (λ (y : ℕ). y / k) q ∙ rows-div k w r (omega arith))) ∙ sym (eqb_no x w d)
]

cell_other : (k x w r s : ℕ) → r < k → s < k → r ≢ s → eqb (k * x + s) (k * w + r) ≡ false
cell_other k x w r s hr hs d =
    eqb_no (k * x + s) (k * w + r) (λ q. d (sym (rows-mod k w r hr) ∙ ap (λ (y : ℕ). y % k) (sym q) ∙ rows-mod k x s hs))

pub added : (S : Shape) (t : List ℕ) (v w r : ℕ) → length t ≡ S.levels * S.most → v < S.most → w < S.most → r < S.levels
    → let there = S.levels * w + r in
    let here = S.levels * v + r in
    let u = set t there (get_or t there 0 + 1) in
    Added S t (set u here (get_or u here 0 + 1)) v w r
added S t v w r long hv hw hr =
    let m = S.levels in
    let u = set t (m * w + r) (get_or t (m * w + r) 0 + 1) in
    let same : length u ≡ length t = length-set t (m * w + r) (get_or t (m * w + r) 0 + 1) in
    record {
      long = length-set u (m * v + r) (get_or u (m * v + r) 0 + 1) ∙ same;
      at = λ x s hs.
          let k = m * x + s in
          let first = bump t (m * w + r) k (omega (arith, cell-inside S w r hw hr)) in
          let second = bump u (m * v + r) k (omega (arith, same, cell-inside S v r hv hr)) in
          elim (eq? r s) [
            | inl e ↦ omega (arith, first, second, ends_same v w r x s e, ap bit (cell_same m x w r s hs e), ap bit (cell_same m x v r s hs e))
            | inr d ↦ omega (arith, first, second, ends-other v w r x s d, ap bit (cell_other m x w r s hr hs d), ap bit (cell_other m x v r s hr hs d))
          ];
    }

-- ---- a row

-- the edges of a row to vertices below p, at x: as the other end, and as the owner
pub there : (ℕ → Bool) → ℕ → ℕ → ℕ
there o p x = bit (ltb x p && o x)

pub here : (ℕ → Bool) → ℕ → ℕ → ℕ → ℕ
here o v p x = elim (eqb x v) [ true ↦ count o p | false ↦ 0 ]

pub here-same : (o : ℕ → Bool) (v p x : ℕ) → x ≡ v → here o v p x ≡ count o p
unfolding here
here-same o v p x e = rw (eqb_yes x v e, here) refl

pub here-other : (o : ℕ → Bool) (v p x : ℕ) → x ≢ v → here o v p x ≡ 0
unfolding here
here-other o v p x d = rw (eqb_no x v d, here) refl

module _ (S : Shape) (bs : List ℕ) (v p x r : ℕ) where
  pub share_other : rank_at bs v ≢ r → share S bs v p x r ≡ 0
  unfolding share
  share_other d = rw (eqb_no (rank_at bs v) r d, share) refl

  pub share-same : rank_at bs v ≡ r → share S bs v p x r ≡ there (owns_at S bs v) p x + here (owns_at S bs v) v p x
  unfolding share there here
  share-same e = rw (eqb_yes (rank_at bs v) r e, share) refl

there-yes : (o : ℕ → Bool) (p x : ℕ) → x < p → T (o x) → there o p x ≡ 1
unfolding there
there-yes o p x h t = bit-yes (ltb x p && o x) (and_intro (ltb x p) (o x) (le→leb (suc x) p h) t)

pub there-in : (o : ℕ → Bool) (p x : ℕ) → x < p → there o p x ≡ bit (o x)
unfolding there
there-in o p x h = ap (λ (b : Bool). bit (b && o x)) (leb_yes (suc x) p h)

there-past : (o : ℕ → Bool) (p x : ℕ) → p ≤ x → there o p x ≡ 0
unfolding there
there-past o p x h = ap (λ (b : Bool). bit (b && o x)) (leb_no (suc x) p (omega arith))

there-le : (o : ℕ → Bool) (p x : ℕ) → there o p x ≤ 1
unfolding there
there-le o p x = bit_le (ltb x p && o x) true (λ t. tt)

-- an edge more
there-add : (o : ℕ → Bool) (w x : ℕ) → T (o w) → there o (w + 1) x ≡ there o w x + bit (eqb x w)
unfolding there
there-add o w x t = elim (eq? x w) [
  | inl e ↦ omega (
    arith,
    there-yes o (w + 1) x (omega arith) (subst (λ (y : ℕ). T (o y)) (sym e) t),
    there-past o w x (omega arith),
    ap bit (eqb_yes x w e),
  )
  | inr d ↦ elim (le? w x) [
    | inl l ↦ omega (arith, there-past o (w + 1) x (omega arith), there-past o w x l, ap bit (eqb_no x w d))
    | inr l ↦
        let same : ltb x (w + 1) ≡ ltb x w = leb_yes (suc x) (w + 1) (omega arith) ∙ sym (leb_yes (suc x) w l) in
        omega (arith, ap (λ (b : Bool). bit (b && o x)) same, ap bit (eqb_no x w d))
  ]
]

-- none in a stretch
there-skip : (o : ℕ → Bool) (p q x : ℕ) → p ≤ q → ((j : ℕ) → p ≤ j → j < q → T (o j) → ⊥) → there o p x ≡ there o q x
unfolding there
there-skip o p q x h none = ap bit (bool-ext (ltb x p && o x) (ltb x q && o x)
    (λ t. let l : x < p = leb→le (suc x) p (and_left (ltb x p) (o x) t) in
    and_intro (ltb x q) (o x) (le→leb (suc x) q (omega arith)) (and_right (ltb x p) (o x) t))
    (λ t. let l : x < q = leb→le (suc x) q (and_left (ltb x q) (o x) t) in
    let s : T (o x) = and_right (ltb x q) (o x) t in
    elim (le? p x) [ inl a ↦ absurd (none x a l s) | inr a ↦ and_intro (ltb x p) (o x) (le→leb (suc x) p a) s ]))

here-add : (o : ℕ → Bool) (v w x : ℕ) → T (o w) → here o v (w + 1) x ≡ here o v w x + bit (eqb x v)
here-add o v w x t = elim (eq? x v) [
  | inl e ↦ omega (arith, here-same o v (w + 1) x e, here-same o v w x e, ap bit (eqb_yes x v e), ap (count o) (add-one w), count-suc o w, bit-yes (o w) t)
  | inr d ↦ omega (arith, here-other o v (w + 1) x d, here-other o v w x d, ap bit (eqb_no x v d))
]

here-skip : (o : ℕ → Bool) (v p q x : ℕ) → p ≤ q → ((j : ℕ) → p ≤ j → j < q → T (o j) → ⊥) → here o v p x ≡ here o v q x
here-skip o v p q x h none = elim (eq? x v) [
  | inl e ↦ here-same o v p x e ∙ count-skip o p q h none ∙ sym (here-same o v q x e)
  | inr d ↦ here-other o v p x d ∙ sym (here-other o v q x d)
]

pub share-add : (S : Shape) (bs : List ℕ) (v w x s : ℕ) → T (owns_at S bs v w) → share S bs v (w + 1) x s ≡ share S bs v w x s + ends v w (rank_at bs v) x s
share-add S bs v w x s t = elim (eq? (rank_at bs v) s) [
  | inl e ↦ omega (
    arith,
    share-same S bs v (w + 1) x s e,
    share-same S bs v w x s e,
    ends_same v w (rank_at bs v) x s e,
    there-add (owns_at S bs v) w x t,
    here-add (owns_at S bs v) v w x t,
  )
  | inr d ↦ omega (arith, share_other S bs v (w + 1) x s d, share_other S bs v w x s d, ends-other v w (rank_at bs v) x s d)
]

pub share-skip : (S : Shape) (bs : List ℕ) (v p q x s : ℕ) → p ≤ q → ((j : ℕ) → p ≤ j → j < q → T (owns_at S bs v j) → ⊥)
    → share S bs v p x s ≡ share S bs v q x s
share-skip S bs v p q x s h none = elim (eq? (rank_at bs v) s) [
  | inl e ↦ omega (
    arith,
    share-same S bs v p x s e,
    share-same S bs v q x s e,
    there-skip (owns_at S bs v) p q x h none,
    here-skip (owns_at S bs v) v p q x h none,
  )
  | inr d ↦ share_other S bs v p x s d ∙ sym (share_other S bs v q x s d)
]

pub share-none : (S : Shape) (bs : List ℕ) (v x s : ℕ) → share S bs v 0 x s ≡ 0
share-none S bs v x s = elim (eq? (rank_at bs v) s) [
  | inl e ↦ omega (arith, share-same S bs v 0 x s e, there-past (owns_at S bs v) 0 x (omega arith), none)
  | inr d ↦ share_other S bs v 0 x s d
]
  where
    none : here (owns_at S bs v) v 0 x ≡ 0
    none = elim (eq? x v) [ inl e ↦ here-same (owns_at S bs v) v 0 x e ∙ count-zero (owns_at S bs v) | inr d ↦ here-other (owns_at S bs v) v 0 x d ]

-- ---- a row more, and bounds

pub tallied-suc : (S : Shape) (bs : List ℕ) (v x r : ℕ) → tallied S bs (v + 1) x r ≡ tallied S bs v x r + share S bs v S.most x r
unfolding tallied sum
tallied-suc S bs v x r = ap (λ (k : ℕ). tallied S bs k x r) (add-one v) ∙ omega arith

pub tallied-none : (S : Shape) (bs : List ℕ) (x r : ℕ) → tallied S bs 0 x r ≡ 0
unfolding tallied sum
tallied-none S bs x r = refl

-- what a row of most places adds at x, at most: one, and all its edges if x is the row's vertex
limit : ℕ → ℕ → ℕ → ℕ
limit most x v = 1 + elim (eqb x v) [ true ↦ most | false ↦ 0 ]

limit-same : (most x v : ℕ) → x ≡ v → limit most x v ≡ 1 + most
unfolding limit
limit-same most x v e = rw (eqb_yes x v e, limit) refl

limit-other : (most x v : ℕ) → x ≢ v → limit most x v ≡ 1
unfolding limit
limit-other most x v d = rw (eqb_no x v d, limit) refl

limits : (most x k : ℕ) → sum (limit most x) k ≤ k + most
limits most x k =
    let ones : sum (λ v. 1) k ≤ k = omega (arith, sum_bound (λ v. 1) 1 k (λ v b. omega arith)) in
    elim (le? k x) [
      | inl l ↦ omega (arith, ones, sum-eq (limit most x) (λ v. 1) k (λ v b. limit-other most x v (omega arith)))
      | inr l ↦ omega (arith, ones, sum-point (limit most x) (λ v. 1) x k l (λ v b d. limit-other most x v (λ e. d (sym e))), limit-same most x x refl)
    ]

share-le : (S : Shape) (bs : List ℕ) (v p x r : ℕ) → p ≤ S.most → share S bs v p x r ≤ limit S.most x v
share-le S bs v p x r h = elim (eq? x v) [
  | inl q ↦ elim (eq? (rank_at bs v) r) [
    | inl e ↦ omega (
      arith,
      share-same S bs v p x r e,
      there-le (owns_at S bs v) p x,
      here-same (owns_at S bs v) v p x q,
      count-bound (owns_at S bs v) p,
      limit-same S.most x v q,
    )
    | inr d ↦ omega (arith, share_other S bs v p x r d, limit-same S.most x v q)
  ]
  | inr q ↦ elim (eq? (rank_at bs v) r) [
    | inl e ↦ omega (
      arith,
      share-same S bs v p x r e,
      there-le (owns_at S bs v) p x,
      here-other (owns_at S bs v) v p x q,
      limit-other S.most x v q,
    )
    | inr d ↦ omega (arith, share_other S bs v p x r d, limit-other S.most x v q)
  ]
]

-- an entry is one for each row at most, and all of one row
partly-le : (S : Shape) (bs : List ℕ) (v p x r : ℕ) → p ≤ S.most → partly S bs v p x r ≤ suc v + S.most
unfolding partly tallied sum
partly-le S bs v p x r h =
    omega (
      arith,
      sum-le (λ w. share S bs w S.most x r) (limit S.most x) v (λ w b. share-le S bs w S.most x r (omega arith)),
      share-le S bs v p x r h,
      limits S.most x (suc v),
    )

-- and so is one for all rows
pub tallied-le : (S : Shape) (bs : List ℕ) (k x r : ℕ) → tallied S bs k x r ≤ suc k + S.most
unfolding partly
tallied-le S bs k x r = omega (arith, partly-le S bs k 0 x r (omega arith))

-- where twice the places fit 16 bits, no entry comes near their end
pub partly-small : (S : Shape) → 2 * S.most < 65534 → (bs : List ℕ) (v p x r : ℕ) → v < S.most → p ≤ S.most → partly S bs v p x r < 65534
partly-small S fits bs v p x r hv hp = omega (arith, partly-le S bs v p x r hp)
