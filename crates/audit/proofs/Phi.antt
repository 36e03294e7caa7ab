-- The counts, from the tally: the count of x at j is the sum of the edges at x whose owners have ranks up to j. Assumes nothing.
use mathlib.Core.Path.{◌≡◌, refl, sym, ap, ap₂, ◌∙◌}
use mathlib.Core.Logic.{inl, inr}
use mathlib.Core.Bool.{Bool, true, false, ◌&&◌, ◌||◌}
use mathlib.Core.List.{List}
use Prim.Native.Nat.{ℕ, suc, ◌+◌, ◌*◌, ◌≤◌, ◌<◌}
use native.Mathlib.Nat.{mul-le-mul_right}
use native.Mathlib.Numerals.{add-one}
use native.Mathlib.Omega.{arith}
use lib.Dec.{T, leb, ltb, le→leb}
use lib.ListN.{length, get_or, replicate, length-replicate, get_or-replicate}
use Rattle.model.specs.Counting.{sum, bit, count}
use Rattle.model.specs.Shape.{Shape}
use Rattle.model.specs.State.{edge, near, below, phi, edge_count, edges}
use Rattle.model.specs.Bytes.{size_at, rank_at, owns_at, read}
use Rattle.model.proofs.Tests.{le?, eq?, leb_yes, leb_no}
use Rattle.model.proofs.Sums.{sum-swap, double-count}
use Rattle.model.proofs.Counting.{sum-eq, sum-add, sum-zero, sum-point, sum_bound, bit-no}
use Rattle.model.proofs.Prefix.{count-skip, count-ext}
use Rattle.model.proofs.Limits.{phi-above, phi-zero}
use Rattle.model.proofs.Reading.{read-size, read-rank, read-owns}
use Rattle.layout.specs.Rows.{degree_at}
use Rattle.audit.specs.Tally.{share, tallied, up_to, Holds}
use Rattle.audit.specs.Parts.{SumsFit}
use Rattle.audit.proofs.Tally.{cell-inside, tallied-none, tallied-le, there, here, there-in, here-same, here-other, share-same, share_other}

-- the entries for one rank more
pub up_to-none : (S : Shape) (t : List ℕ) (x : ℕ) → up_to S t x 0 ≡ 0
unfolding up_to sum
up_to-none S t x = refl

pub up_to-suc : (S : Shape) (t : List ℕ) (x j : ℕ) → up_to S t x (suc j) ≡ up_to S t x j + get_or t (S.levels * x + j) 0
unfolding up_to sum
up_to-suc S t x j = omega arith

pub up_to-more : (S : Shape) (t : List ℕ) (x j : ℕ) → up_to S t x (j + 1) ≡ up_to S t x j + get_or t (S.levels * x + j) 0
up_to-more S t x j = ap (up_to S t x) (add-one j) ∙ up_to-suc S t x j

-- those for rank 0
pub up_to-one : (S : Shape) (t : List ℕ) (x : ℕ) → up_to S t x 1 ≡ get_or t (S.levels * x) 0
up_to-one S t x =
    let first : S.levels * x + 0 ≡ S.levels * x = omega arith in
    omega (arith, up_to-suc S t x 0, up_to-none S t x, ap (λ (k : ℕ). get_or t k 0) first)

-- a tally's entries, by what it holds
pub up_to-holds : (S : Shape) (t : List ℕ) (f : ℕ → ℕ → ℕ) (x j : ℕ) → Holds S t f → x < S.most → j ≤ S.levels → up_to S t x j ≡ sum (f x) j
unfolding up_to
up_to-holds S t f x j h hx hj = sum-eq (λ r. get_or t (S.levels * x + r) 0) (f x) j (λ r b. h.at x r hx (omega arith))

-- after any rows their sums fit 16 bits, where twice the places for each rank do
pub sums-fit : (S : Shape) → S.levels * (2 * S.most + 1) < 65536 → (bs t : List ℕ) (n : ℕ) → n ≤ S.most → Holds S t (tallied S bs n)
    → (v : ℕ) → v < S.most → SumsFit S t v
sums-fit S fits bs t n few h v hv j l =
    omega (
      arith,
      up_to-holds S t (tallied S bs n) v j h hv l,
      sum_bound (tallied S bs n v) (2 * S.most + 1) j (λ r b. omega (arith, tallied-le S bs n v r)),
      mul-le-mul_right (2 * S.most + 1) l,
    )

-- before any row the tally holds nothing
pub zeros-hold : (S : Shape) (bs t : List ℕ) → t ≡ replicate (S.levels * S.most) 0 → Holds S t (tallied S bs 0)
zeros-hold S bs t e = record {
  long = ap length e ∙ length-replicate {A = ℕ} (S.levels * S.most) 0;
  at = λ x r hx hr. ap (λ (l : List ℕ). get_or l (S.levels * x + r) 0) e
      ∙ get_or-replicate {A = ℕ} (S.levels * S.most) (S.levels * x + r) 0 0 (cell-inside S x r hx hr) ∙ sym (tallied-none S bs x r);
}

-- ---- the counts of a rack whose edges are owned rightly

-- a row over all ranks below k: its edges, if its own rank is among them
module _ (S : Shape) (bs : List ℕ) (v p x k : ℕ) where
  ranks-in : rank_at bs v < k → sum (share S bs v p x) k ≡ there (owns_at S bs v) p x + here (owns_at S bs v) v p x
  ranks-in h =
      omega (
        arith,
        sum-point (share S bs v p x) (λ r. 0) (rank_at bs v) k h (λ r b d. share_other S bs v p x r (λ e. d (sym e))),
        sum-zero k,
        share-same S bs v p x (rank_at bs v) refl,
      )

  ranks-out : k ≤ rank_at bs v → sum (share S bs v p x) k ≡ 0
  ranks-out h = sum-eq (share S bs v p x) (λ r. 0) k (λ r b. share_other S bs v p x r (λ e. omega arith)) ∙ sum-zero k

-- an edge from x to w, and one to x from w, counted where w's rank is low: not both are there, and where x owns it w's rank is low
near-bits : (a b c : Bool) → (T a → T c) → (T a → T b → ⊥) → bit ((a || b) && c) ≡ bit (c && b) + bit a
near-bits false false false f g = refl
near-bits false false true f g = refl
near-bits false true false f g = refl
near-bits false true true f g = refl
near-bits true false false f g = absurd (f tt)
near-bits true false true f g = refl
near-bits true true c f g = absurd (g tt tt)

module _ (S : Shape) (bs : List ℕ)
    (few : size_at bs ≤ S.most)
    (within : (v : ℕ) → v < size_at bs → (w : ℕ) → w < S.most → size_at bs ≤ w → T (owns_at S bs v w) → ⊥)
    (high : (v : ℕ) → v < size_at bs → (w : ℕ) → w < size_at bs → T (owns_at S bs v w) → rank_at bs w ≤ rank_at bs v)
    (once : (v : ℕ) → v < size_at bs → (w : ℕ) → w < size_at bs → T (owns_at S bs v w) → T (owns_at S bs w v) → ⊥) where
  -- no edge leads past n
  pub degree-inside : (v : ℕ) → v < size_at bs → count (owns_at S bs v) S.most ≡ count (owns_at S bs v) (size_at bs)
  degree-inside v h = sym (count-skip (owns_at S bs v) (size_at bs) S.most few (λ w a b. within v h w b a))

  read-edge : (v w : ℕ) → v < size_at bs → w < size_at bs → edge (read S bs) v w ≡ (owns_at S bs v w || owns_at S bs w v)
  unfolding edge
  read-edge v w hv hw = ap₂ (λ (a b : Bool). a || b) (read-owns S bs v w hv hw) (read-owns S bs w v hw hv)

  module _ (x j : ℕ) (hx : x < size_at bs) where
    -- the rows, each over the ranks up to j
    by_rows : sum (tallied S bs (size_at bs) x) (suc j) ≡ sum (λ v. sum (share S bs v S.most x) (suc j)) (size_at bs)
    unfolding tallied
    by_rows = sum-swap (λ r v. share S bs v S.most x r) (suc j) (size_at bs)

    -- x above j: nothing
    phi-high : j < rank_at bs x → phi (read S bs) x j ≡ 0
    phi-high h = phi-zero (read S bs) x j (omega (arith, read-rank S bs x hx))

    rows-high : j < rank_at bs x → (v : ℕ) → v < size_at bs → sum (share S bs v S.most x) (suc j) ≡ 0
    rows-high h v hv = elim (le? (suc j) (rank_at bs v)) [
      | inl l ↦ ranks-out S bs v S.most x (suc j) l
      | inr l ↦
          let none : bit (owns_at S bs v x) ≡ 0 = bit-no (owns_at S bs v x) (λ t. omega (arith, high v hv x hx t)) in
          omega (
            arith,
            ranks-in S bs v S.most x (suc j) l,
            there-in (owns_at S bs v) S.most x (omega arith),
            none,
            here-other (owns_at S bs v) v S.most x (λ e. omega (arith, ap (rank_at bs) e)),
          )
    ]

    -- x up to j
    mine : ℕ → ℕ
    mine v = here (owns_at S bs x) v S.most x

    theirs : ℕ → Bool
    theirs v = leb (rank_at bs v) j && owns_at S bs v x

    own_row : (v : ℕ) → here (owns_at S bs v) v S.most x ≡ mine v
    unfolding mine
    own_row v = elim (eq? x v) [
      | inl e ↦ ap (λ (y : ℕ). here (owns_at S bs y) v S.most x) (sym e)
      | inr d ↦ here-other (owns_at S bs v) v S.most x d ∙ sym (here-other (owns_at S bs x) v S.most x d)
    ]

    rows-low : rank_at bs x ≤ j → (v : ℕ) → v < size_at bs → sum (share S bs v S.most x) (suc j) ≡ bit (theirs v) + mine v
    unfolding theirs mine
    rows-low h v hv = elim (le? (suc j) (rank_at bs v)) [
      | inl l ↦ omega (
        arith,
        ranks-out S bs v S.most x (suc j) l,
        ap (λ (b : Bool). bit (b && owns_at S bs v x)) (leb_no (rank_at bs v) j l),
        here-other (owns_at S bs x) v S.most x (λ e. omega (arith, ap (rank_at bs) e)),
      )
      | inr l ↦ omega (
        arith,
        ranks-in S bs v S.most x (suc j) l,
        there-in (owns_at S bs v) S.most x (omega arith),
        ap (λ (b : Bool). bit (b && owns_at S bs v x)) (leb_yes (rank_at bs v) j (omega arith)),
        own_row v,
      )
    ]

    all-mine : sum mine (size_at bs) ≡ count (owns_at S bs x) (size_at bs)
    unfolding mine
    all-mine =
        omega (
          arith,
          sum-point mine (λ v. 0) x (size_at bs) hx (λ v b d. here-other (owns_at S bs x) v S.most x (λ e. d (sym e))),
          sum-zero (size_at bs),
          here-same (owns_at S bs x) x S.most x refl,
          degree-inside x hx,
        )

    near-low : rank_at bs x ≤ j → (w : ℕ) → w < size_at bs → bit (near (read S bs) x j w) ≡ bit (theirs w) + bit (owns_at S bs x w)
    unfolding near theirs
    near-low h w hw =
        let low : leb ((read S bs).rank w) j ≡ leb (rank_at bs w) j = ap (λ (r : ℕ). leb r j) (read-rank S bs w hw) in
        ap bit (ap₂ (λ (a b : Bool). a && b) (read-edge x w hx hw) low)
        ∙ near-bits (owns_at S bs x w) (owns_at S bs w x) (leb (rank_at bs w) j)
        (λ t. le→leb (rank_at bs w) j (omega (arith, high x hx w hw t))) (once x hx w hw)

    phi-low : rank_at bs x ≤ j → phi (read S bs) x j ≡ count theirs (size_at bs) + count (owns_at S bs x) (size_at bs)
    unfolding below count
    phi-low h =
        phi-above (read S bs) x j (omega (arith, read-rank S bs x hx)) ∙ ap (λ (m : ℕ). sum (λ w. bit (near (read S bs) x j w)) m) (read-size S bs)
        ∙ sum-eq _ _ (size_at bs) (λ w hw. near-low h w hw) ∙ sum-add (λ w. bit (theirs w)) (λ w. bit (owns_at S bs x w)) (size_at bs)

    pub phi-tallied : phi (read S bs) x j ≡ sum (tallied S bs (size_at bs) x) (suc j)
    unfolding count
    phi-tallied = elim (le? (rank_at bs x) j) [
      | inl h ↦
          phi-low h
          ∙ omega (
            arith,
            all-mine,
            sum-add (λ v. bit (theirs v)) mine (size_at bs),
            sum-eq (λ v. sum (share S bs v S.most x) (suc j)) (λ v. bit (theirs v) + mine v) (size_at bs) (rows-low h),
            by_rows,
          )
      | inr h ↦
          phi-high h
          ∙ omega (
            arith,
            sum-zero (size_at bs),
            sum-eq (λ v. sum (share S bs v S.most x) (suc j)) (λ v. 0) (size_at bs) (rows-high h),
            by_rows,
          )
    ]

  -- the number of edges is what all rows own together
  pub edges-owned : edges (read S bs) ≡ sum (degree_at S bs) (size_at bs)
  unfolding edges degree_at
  edges-owned =
      ap (λ (m : ℕ). edge_count m (edge (read S bs))) (read-size S bs)
      ∙ sum-eq _ _ (size_at bs) (λ v hv. count-ext _ _ (size_at bs) (λ w hw. ap (λ (b : Bool). ltb v w && b) (read-edge v w hv hw)))
      ∙ double-count (owns_at S bs) (size_at bs) (λ v w hv hw. once v hv w hw)
      ∙ sum-eq _ _ (size_at bs) (λ v hv. sym (degree-inside v hv))
