-- The pass over v's row, word by word: what is handed on before a word, and what the next word adds to it. Assumes nothing.
use mathlib.Core.Path.{◌≡◌, sym, ap, ◌∙◌, subst}
use mathlib.Core.Logic.{inl, inr}
use mathlib.Core.Bool.{Bool, false, not, ◌&&◌}
use mathlib.Core.List.{List}
use Prim.Native.Nat.{ℕ, suc, ◌+◌, ◌*◌, ◌≤◌, ◌<◌}
use native.Mathlib.Omega.{arith}
use lib.Dec.{T, eqb, ltb}
use Rattle.model.specs.Counting.{count}
use Rattle.model.specs.Shape.{Shape}
use Rattle.model.specs.State.{Kind, State, near, below}
use Rattle.model.specs.Bytes.{read, write}
use Rattle.model.specs.Moves.{hand_over}
use Rattle.model.specs.Change.{reown}
use Rattle.model.proofs.Tests.{le?, bool-ext, and_intro, and_left, and_right}
use Rattle.model.proofs.Counting.{count-bound}
use Rattle.model.proofs.Prefix.{count-zero, count_add, count-ext, count-skip}
use Rattle.theory.specs.Handing.{handed_on, Parts}
use Rattle.theory.proofs.Handing.{parts}
use Rattle.theory.proofs.HandLoops.{up_to, up_to-of, up_to-is, owned-zero, owned-both, owned-all}
use Rattle.layout.proofs.Walks.{row-whole}
use Rattle.moves.specs.Proper.{Proper, Ordered, Held}
use Rattle.moves.specs.Handing.{same_level, other_level, in_word, handed_in}
use Rattle.moves.specs.declared.Split.{Split}
use Rattle.moves.proofs.Edges.{edge_of, simple, owners, turned-proper}
use Rattle.moves.proofs.Held.{proper-shape, reads_as, held_of}
use Rattle.moves.proofs.Owning.{row_from}
use Rattle.moves.proofs.Handing.{same_of, same-is, other-of, other-is, word_of, word-is}

-- the two parts of a row, as the pass tells them apart
module _ {s t : State} {i v : ℕ} (P : Parts i v s t) (w : ℕ) where
  same-handed : same_level s i v w ≡ handed_on s t v w
  same-handed = bool-ext (same_level s i v w) (handed_on s t v w)
      (λ u. let h = same-is s i v w u in elim (P.each w h.0) [ inl a ↦ a | inr a ↦ absurd (omega (arith, (P.lower w a).low, h.1)) ])
      (λ u. let h = P.handed w u in same_of s i v w h.before h.level)

  other-near : other_level s i v w ≡ near t v i w
  other-near = bool-ext (other_level s i v w) (near t v i w)
      (λ u. let h = other-is s i v w u in elim (P.each w h.0) [ inl a ↦ absurd (h.1 (P.handed w a).level) | inr a ↦ a ])
      (λ u. let h = P.lower w u in other-of s i v w h.before (λ z. omega (arith, h.low)))

-- the edges to vertices below m are handed on
abbrev pub handed_below : ℕ → ℕ → ℕ → State → State
handed_below m i v s = handed_in (λ w. ltb w m) i v s

-- the words before word k are done
pub record Over (s : State) (i v : ℕ) (bs : List ℕ) (r : Split) (k : ℕ) : Type 0 where
  pub within : 64 * k ≤ s.kind.shape.most
  pub bytes : bs ≡ write (handed_below (64 * k) i v s)
  pub handed : r.handed ≡ count (same_level s i v) (64 * k)
  pub below : r.below ≡ count (other_level s i v) (64 * k)

module _ {K : Kind} (s : State) (p : Proper K s) (i v : ℕ) where
  own-not : T (same_level s i v v) → ⊥
  own-not t = p.no_loop v (same-is s i v v t).0

  -- nothing is handed on at first, and all at the end
  below_none : handed_below 0 i v s ≡ s
  unfolding handed_in reown up_to
  below_none = ap (reown s) (owned-zero v (same_level s i v) false s.owns own-not)

  below_all : (m : ℕ) → s.n ≤ m → handed_below m i v s ≡ hand_over i v s
  unfolding handed_in reown up_to hand_over same_level
  below_all m l = ap (reown s) (owned-all v (same_level s i v) false s.owns own-not m
      (λ w t. omega (arith, (p.inside v w (same-is s i v w t).0).1)))

  below-proper : (m : ℕ) → Proper K (handed_below m i v s)
  unfolding handed_in
  below-proper m =
      turned-proper s p v (λ w. same_level s i v w && ltb w m) false
      (λ w t. edge_of s v w (same-is s i v w (and_left (same_level s i v w) _ t)).0)

  -- from m on, v's row is as it was
  below_row : (m w : ℕ) → m ≤ w → (handed_below m i v s).owns v w ≡ s.owns v w
  unfolding handed_in reown up_to
  below_row m w l = row_from v (same_level s i v) false s.owns own-not m w l

  below-same : (m w : ℕ) → m ≤ w → same_level (handed_below m i v s) i v w ≡ same_level s i v w
  unfolding handed_in reown same_level
  below-same m w l = ap (λ (b : Bool). b && eqb (s.rank w) (suc i)) (below_row m w l)

  below_other : (m w : ℕ) → m ≤ w → other_level (handed_below m i v s) i v w ≡ other_level s i v w
  unfolding handed_in reown other_level
  below_other m w l = ap (λ (b : Bool). b && not (eqb (s.rank w) (suc i))) (below_row m w l)

  -- a word more
  below_word : (k : ℕ) → handed_in (in_word k 64) i v (handed_below (64 * k) i v s) ≡ handed_below (64 * (k + 1)) i v s
  unfolding handed_in reown up_to
  below_word k =
      let h : ℕ → Bool = same_level s i v in
      let t : State = handed_below (64 * k) i v s in
      let same : (x : ℕ) → 64 * k ≤ x → same_level t i v x ≡ h x = below-same (64 * k) in
      let word : (x : ℕ) → T (same_level t i v x && in_word k 64 x) → T (h x) × (x < 64 * (k + 1)) = λ x u.
      let r = word-is k 64 x (and_right (same_level t i v x) _ u) in
      (subst T (same x r.0) (and_left (same_level t i v x) _ u), omega (arith, r.1)) in
      ap (reown s) (owned-both v (up_to h (64 * k)) false s.owns (λ u. own-not (up_to-is h (64 * k) v u).0)
      (λ w. same_level t i v w && in_word k 64 w) (up_to h (64 * (k + 1)))
      (λ u. own-not (word v u).0)
      (λ x u. let r = up_to-is h (64 * k) x u in up_to-of h (64 * (k + 1)) x r.0 (omega (arith, r.1)))
      (λ x u. let r = word x u in up_to-of h (64 * (k + 1)) x r.0 r.1)
      (λ x u n. let r = up_to-is h (64 * (k + 1)) x u in up_to-of h (64 * k) x r.0 (elim (le? (64 * k) x) [
        | inl l ↦ absurd (n (and_intro (same_level t i v x) _ (subst T (sym (same x l)) r.0) (word_of k 64 x l (omega (arith, r.1)))))
        | inr l ↦ l
      ])))

  -- ---- the loop

  pub over-start : {bs : List ℕ} → bs ≡ write s → Over s i v bs (record { handed = 0; below = 0 }) 0
  over-start e = record {
    within = omega arith;
    bytes = e ∙ ap write (sym below_none);
    handed = sym (count-zero (same_level s i v));
    below = sym (count-zero (other_level s i v));
  }

  module _ {bs : List ℕ} {r : Split} {k : ℕ} (o : Over s i v bs r k) where
    over-read : read K.shape bs ≡ handed_below (64 * k) i v s
    over-read = reads_as bs (handed_below (64 * k) i v s) o.bytes (below-proper (64 * k))

    pub over-held : Held K.shape bs
    over-held = held_of bs (handed_below (64 * k) i v s) o.bytes (below-proper (64 * k))

    -- what the pass over the word asks
    pub over-asks : v < s.n → s.rank v ≡ suc i → 64 * k < s.n
        → Held K.shape bs × (((v < (read K.shape bs).n) × ((read K.shape bs).rank v ≡ suc i) × (64 * k < K.shape.most)) × ((r.handed ≤ K.shape.most) × (r.below ≤ K.shape.most)))
    unfolding handed_in reown
    over-asks l e c =
        let most : s.kind.shape.most ≡ K.shape.most = ap (λ (X : Shape). X.most) (proper-shape p) in (
          over-held,
          (
            (
              omega (arith, ap (λ (t : State). t.n) over-read),
              ap (λ (t : State). t.rank v) over-read ∙ e,
              omega (arith, p.few, most),
            ),
            (
              omega (arith, p.few, most, o.handed, count-bound (same_level s i v) (64 * k)),
              omega (arith, p.few, most, o.below, count-bound (other_level s i v) (64 * k)),
            ),
          ),
        )

    pub over-next : {bs' : List ℕ} {r' : Split} → 64 * k < s.n → bs' ≡ write (handed_in (in_word k 64) i v (read K.shape bs))
        → r'.handed ≡ r.handed + count (λ j. same_level (read K.shape bs) i v (64 * k + j)) 64
        → r'.below ≡ r.below + count (λ j. other_level (read K.shape bs) i v (64 * k + j)) 64
        → Over s i v bs' r' (k + 1)
    over-next {bs'} {r'} l e f g =
        let m : 64 * k + 64 ≡ 64 * (k + 1) = omega arith in
        let same-h : count (λ j. same_level (read K.shape bs) i v (64 * k + j)) 64 ≡ count (λ j. same_level s i v (64 * k + j)) 64 =
        ap (λ (t : State). count (λ j. same_level t i v (64 * k + j)) 64) over-read
        ∙ count-ext (λ j. same_level (handed_below (64 * k) i v s) i v (64 * k + j)) (λ j. same_level s i v (64 * k + j)) 64
        (λ j _. below-same (64 * k) (64 * k + j) (omega arith)) in
        let same-k : count (λ j. other_level (read K.shape bs) i v (64 * k + j)) 64 ≡ count (λ j. other_level s i v (64 * k + j)) 64 =
        ap (λ (t : State). count (λ j. other_level t i v (64 * k + j)) 64) over-read
        ∙ count-ext (λ j. other_level (handed_below (64 * k) i v s) i v (64 * k + j)) (λ j. other_level s i v (64 * k + j)) 64
        (λ j _. below_other (64 * k) (64 * k + j) (omega arith)) in
        record {
          within = omega (arith, p.few, row-whole p.good);
          bytes = e ∙ ap (λ (t : State). write (handed_in (in_word k 64) i v t)) over-read ∙ ap write (below_word k);
          handed = omega (arith, f, o.handed, same-h, count_add (same_level s i v) (64 * k) 64, ap (count (same_level s i v)) m);
          below = omega (arith, g, o.below, same-k, count_add (other_level s i v) (64 * k) 64, ap (count (other_level s i v)) m);
        }

    -- all words are done
    pub over-bytes : s.n ≤ 64 * k → bs ≡ write (hand_over i v s)
    over-bytes l = o.bytes ∙ ap write (below_all (64 * k) l)

    pub over-numbers : Ordered s → s.rank v ≡ suc i → s.n ≤ 64 * k
        → (r.handed ≡ count (handed_on s (hand_over i v s) v) s.n) × (r.below ≡ below (hand_over i v s) v i)
    unfolding below hand_over
    over-numbers q e l =
        let t : State = hand_over i v s in
        let P : Parts i v s t = parts s (simple s p) (owners s p q) i v e in (
          o.handed ∙ sym (count-skip (same_level s i v) s.n (64 * k) l (λ w a _ u. omega (arith, (p.inside v w (same-is s i v w u).0).1)))
              ∙ count-ext (same_level s i v) (handed_on s t v) s.n (λ w _. same-handed P w),
          o.below ∙ sym (count-skip (other_level s i v) s.n (64 * k) l (λ w a _ u. omega (arith, (p.inside v w (other-is s i v w u).0).1)))
              ∙ count-ext (other_level s i v) (near t v i) s.n (λ w _. other-near P w),
        )
