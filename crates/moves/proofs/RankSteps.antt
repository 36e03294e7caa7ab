-- The steps of entering a level and of a fall lead to the writing of the state with the new rank. Assumes nothing.
use mathlib.Core.Path.{◌≡◌, sym, ap, ◌∙◌}
use mathlib.Core.Bool.{Bool}
use mathlib.Core.List.{List}
use Prim.Native.Nat.{ℕ, suc, ◌+◌, ◌≤◌, ◌<◌}
use native.Mathlib.Numerals.{add-one}
use native.Mathlib.Omega.{arith}
use lib.Dec.{T}
use Rattle.model.specs.Shape.{Shape}
use Rattle.model.specs.State.{Kind, State, edge, below, phi, edges}
use Rattle.model.specs.Bytes.{rank_at, Fields, image, mate_entry, fields_of, write}
use Rattle.model.proofs.Fields.{rank-image}
use Rattle.model.proofs.Facts.{Says}
use Rattle.layout.specs.Setters.{set_rank, set_phi}
use Rattle.layout.proofs.Images.{with_rank, set_rank-image}
use Rattle.layout.proofs.Said.{says-by}
use Rattle.moves.specs.Proper.{Proper, ranked, RowBelow}
use Rattle.moves.specs.Counts.{with_counts, recounted, none, lowered_counts, raised_counts}
use Rattle.moves.proofs.Held.{proper-shape, proper-top, proper-room, proper-few, proper-ranks}
use Rattle.moves.proofs.Keeps.{ranked-proper}
use Rattle.moves.proofs.Recount.{phi-fits, enter-own, enter-phi, fall-own, fall-phi, fall-owned}
use Rattle.moves.proofs.CountSteps.{set_count-proper, recounted-proper}

-- a new rank, where the counts are those of the new rank already
ranked-image : {K : Kind} (s : State) → Proper K s → (v x : ℕ) → v < s.n → x ≤ suc K.top
    → set_rank K.shape (image (with_counts (fields_of s) (phi (ranked v x s)))) v x ≡ write (ranked v x s)
unfolding with_rank with_counts fields_of write ranked edges edge mate_entry
ranked-image {K} s p v x l h =
    let f : Fields = with_counts (fields_of s) (phi (ranked v x s)) in
    ap (λ (T : Shape). set_rank T (image f) v x) (sym (proper-shape p))
    ∙ set_rank-image f p.good v x l (omega (arith, p.few)) (omega (arith, p.ranks v, p.range.room)) (omega (arith, proper-top p, p.range.room))

-- whatever the counts are, the rank is one that has a roster
pub rank-listed : {K : Kind} (s : State) → Proper K s → (counts : ℕ → ℕ → ℕ) (v : ℕ) → v < s.n
    → (bs : List ℕ) → bs ≡ image (with_counts (fields_of s) counts) → rank_at bs v ≤ K.shape.levels
unfolding with_counts fields_of
rank-listed s p counts v l bs e =
    omega (
      arith,
      ap (λ (b : List ℕ). rank_at b v) e ∙ rank-image (with_counts (fields_of s) counts) p.good v (omega (arith, p.few)),
      proper-ranks p v,
      proper-room p,
    )

module _ {K : Kind} (s : State) (p : Proper K s) (i v : ℕ) (l : v < s.n) (top : i ≤ K.top) (row : RowBelow i v s) where
  pub enter-counts : s.rank v ≤ i
      → recounted K.shape none (image (with_counts (fields_of s) (lowered_counts s i v))) v 0 (i + 1)
      ≡ image (with_counts (fields_of s) (phi (ranked v (suc i) s)))
  enter-counts r =
      recounted-proper s p (lowered_counts s i v) none v 0 (i + 1) (phi (ranked v (suc i) s)) (omega (arith, proper-few p))
      (omega arith) (λ j m k. enter-own s p i v j l (omega arith))
      (λ w j d. enter-phi s p i v w j l r row (λ e. omega (arith, d e (omega arith))))

  pub enter-bytes : s.rank v ≤ i
      → set_rank K.shape (recounted K.shape none (image (with_counts (fields_of s) (lowered_counts s i v))) v 0 (i + 1)) v (i + 1) ≡ write (ranked v (suc i) s)
  enter-bytes r =
      ap (λ (bs : List ℕ). set_rank K.shape bs v (i + 1)) (enter-counts r) ∙ rw add-one (ranked-image s p v (suc i) l (omega arith))

  module _ (r : s.rank v ≡ suc i) where
    -- the count of v at i is the number of its neighbours below i
    pub fall-counts : set_phi K.shape (image (with_counts (fields_of s) (raised_counts s i v))) v i (below s v i)
        ≡ image (with_counts (fields_of s) (phi (ranked v i s)))
    fall-counts =
        set_count-proper s p (raised_counts s i v) v i (below s v i) (phi (ranked v i s)) (omega (arith, proper-few p))
        (omega arith) (fall-own s p i v) (λ w j d. fall-phi s p i v w j l r row d)

    pub fall-bytes : set_rank K.shape (set_phi K.shape (image (with_counts (fields_of s) (raised_counts s i v))) v i (below s v i)) v i ≡ write (ranked v i s)
    fall-bytes = ap (λ (bs : List ℕ). set_rank K.shape bs v i) fall-counts ∙ ranked-image s p v i l (omega arith)

    pub fall-fits : below s v i < K.shape.most
    fall-fits = omega (arith, fall-own s p i v, phi-fits (ranked v i s) (ranked-proper s p v i l (omega arith)) v i)

    -- whether the counts that are raised stay below the threshold is whether those of the state with the new rank are
    pub fall-says : {b : Bool} (bar : ℕ) → Says b ((w : ℕ) → T (s.owns v w) → raised_counts s i v w i < bar)
        → Says b ((w : ℕ) → T (s.owns v w) → phi (ranked v i s) w i < bar)
    fall-says bar =
        says-by (λ low w t. omega (arith, fall-owned s p i v w l r row t, low w t))
        (λ low w t. omega (arith, fall-owned s p i v w l r row t, low w t))
