-- What a step does to the counts: nothing where the edges and ranks stay, and one at each neighbour where a vertex changes its rank.
-- Assumes nothing.
use mathlib.Core.Path.{◌≡◌, refl, sym, ap, ap₂, ◌∙◌, subst, fun_ext}
use mathlib.Core.Logic.{◌≢◌, inl, inr}
use mathlib.Core.Bool.{Bool, ◌&&◌}
use Prim.Native.Nat.{ℕ, suc, ◌+◌, ◌≤◌, ◌<◌}
use native.Mathlib.Omega.{arith}
use lib.Dec.{T, leb, eqb, eqb→eq}
use Rattle.model.specs.Counting.{bit, count}
use Rattle.model.specs.State.{Kind, State, edge, near, below, phi, edge_count, edges}
use Rattle.model.proofs.Tests.{eq?, le?, holds?, bool-ext, true-T, eqb_yes, and_intro, and_left, and_right}
use Rattle.model.proofs.Counting.{bit-yes, bit-no, count_at, count-some, count-miss}
use Rattle.model.proofs.Prefix.{count-ext}
use Rattle.model.proofs.Lists.{upd_same, upd_other}
use Rattle.model.proofs.Limits.{phi-below, phi-above, phi-zero, phi_none}
use Rattle.moves.specs.Proper.{Proper, ranked, RowBelow}
use Rattle.moves.specs.Counts.{hit, lowered_counts, raised_counts}
use Rattle.moves.proofs.Held.{proper-good, proper-few, proper-ranks}
use Rattle.moves.proofs.Edges.{edge-back, edge-turn, near_of, near-edge, near-low, edge-loop}
use Rattle.moves.proofs.Choices.{Hit, hit-says, hit-of, lowered-yes, lowered-no, raised-yes, raised-no}
use Rattle.moves.proofs.Keeps.{ranked-near, ranked-proper}

-- counts and the number of edges depend on edges and ranks alone
pub same-phi : (s t : State) → s.n ≡ t.n → ((v w : ℕ) → edge s v w ≡ edge t v w) → ((v : ℕ) → s.rank v ≡ t.rank v)
    → (v j : ℕ) → phi s v j ≡ phi t v j
unfolding below near
same-phi s t e f g v j =
    let b : below s v j ≡ below t v j =
    ap₂ count (fun_ext (λ w. ap₂ (λ (a : Bool) (r : ℕ). a && leb r j) (f v w) (g w))) e in
    elim (le? (s.rank v) j) [
      | inl l ↦ phi-above s v j l ∙ b ∙ sym (phi-above t v j (omega (arith, g v)))
      | inr l ↦ phi-zero s v j l ∙ sym (phi-zero t v j (omega (arith, g v)))
    ]

pub same_edges : (s t : State) → s.n ≡ t.n → ((v w : ℕ) → edge s v w ≡ edge t v w) → edges s ≡ edges t
unfolding edges
same_edges s t e f = ap₂ (λ (n : ℕ) (there : ℕ → ℕ → Bool). edge_count n there) e (fun_ext (λ v. fun_ext (λ w. f v w)))

-- A vertex u goes to rank x.
module _ (s : State) (u x : ℕ) where
  ranked-here : (ranked u x s).rank u ≡ x
  unfolding ranked
  ranked-here = upd_same s.rank u x u refl

  ranked-there : (w : ℕ) → w ≢ u → (ranked u x s).rank w ≡ s.rank w
  unfolding ranked
  ranked-there w d = upd_other s.rank u x w d

  ranked-edge : (v w : ℕ) → edge (ranked u x s) v w ≡ edge s v w
  unfolding ranked edge
  ranked-edge v w = refl

  -- the counts of another vertex w, seen from the levels above it, differ by u alone
  ranked-below : (w j : ℕ) → u < s.n → below (ranked u x s) w j + bit (near s w j u) ≡ below s w j + bit (near (ranked u x s) w j u)
  unfolding below near edge ranked
  ranked-below w j l =
      count_at (near (ranked u x s) w j) (near s w j) u s.n l (λ v d. ap (λ (r : ℕ). edge s w v && leb r j) (ranked-there v d))

  near-ranked : (w j : ℕ) → T (edge s w u) → x ≤ j → T (near (ranked u x s) w j u)
  near-ranked w j t l = near_of (ranked u x s) w j u (subst T (sym (ranked-edge w u)) t) (omega (arith, ranked-here))

  ranked-is-near : (w j : ℕ) → T (near (ranked u x s) w j u) → T (edge s w u) × (x ≤ j)
  ranked-is-near w j t =
      (subst T (ranked-edge w u) (near-edge (ranked u x s) w j u t), omega (arith, near-low (ranked u x s) w j u t, ranked-here))

module _ {K : Kind} (s : State) (p : Proper K s) where
  -- every count is below the number of places
  pub phi-fits : (v j : ℕ) → phi s v j < K.shape.most
  unfolding below
  phi-fits v j = elim (le? s.n v) [
    | inl l ↦ omega (arith, (proper-good p).some, (proper-good p).rows, phi_none s p.inside v j l)
    | inr l ↦ omega (
      arith,
      proper-few p,
      phi-below s v j,
      count-miss (near s v j) v s.n l (λ t. edge-loop s p v (near-edge s v j v t)),
    )
  ]

  -- where a rise takes 1 off a count, there is 1
  pub hit-counted : (i u w j : ℕ) → T (hit s i u w j) → 1 ≤ phi s w j
  unfolding below
  hit-counted i u w j t =
      let h : Hit s i u w j = hit-says s i u w j t in
      omega (
        arith,
        phi-above s w j h.seen,
        count-some (near s w j) s.n u (p.inside u w h.owned).0 (near_of s w j u (edge-back s w u h.owned) h.from),
      )

  -- u itself has as many neighbours below a level as before
  own_below : (u x j : ℕ) → below (ranked u x s) u j ≡ below s u j
  unfolding below ranked
  own_below u x j = count-ext (near (ranked u x s) u j) (near s u j) s.n (λ w l. ranked-near s p u x j w)

  -- and the same counts, above both its old rank and its new one
  own-above : (u x j : ℕ) → s.rank u ≤ j → x ≤ j → phi (ranked u x s) u j ≡ phi s u j
  own-above u x j h k = phi-above (ranked u x s) u j (omega (arith, ranked-here s u x)) ∙ own_below u x j ∙ sym (phi-above s u j h)

  -- the counts when u goes up to level i, owning exactly the edges to its neighbours below it
  pub enter-own : (i u j : ℕ) → u < s.n → j ≤ i → phi (ranked u (suc i) s) u j ≡ 0
  enter-own i u j l k = phi-zero (ranked u (suc i) s) u j (omega (arith, ranked-here s u (suc i)))

  enter-other : (i u w j : ℕ) → u < s.n → s.rank u ≤ i → RowBelow i u s → w ≢ u → s.rank w ≤ j
      → phi (ranked u (suc i) s) w j ≡ lowered_counts s i u w j
  enter-other i u w j l k f d seen =
      let new : phi (ranked u (suc i) s) w j ≡ below (ranked u (suc i) s) w j =
      phi-above (ranked u (suc i) s) w j (omega (arith, ranked-there s u (suc i) w d)) in
      let old : phi s w j ≡ below s w j = phi-above s w j seen in
      let at = ranked-below s u (suc i) w j l in
      elim (holds? (hit s i u w j)) [
        | inl t ↦
            let h : Hit s i u w j = hit-says s i u w j t in
            omega (
              arith,
              lowered-yes s i u w j t,
              bit-yes (near s w j u) (near_of s w j u (edge-back s w u h.owned) h.from),
              bit-no (near (ranked u (suc i) s) w j u) (λ b. omega (arith, (ranked-is-near s u (suc i) w j b).1, h.upto)),
            )
        | inr t ↦
            let same : near s w j u ≡ near (ranked u (suc i) s) w j u =
            bool-ext (near s w j u) (near (ranked u (suc i) s) w j u)
            (λ b. near-ranked s u (suc i) w j (near-edge s w j u b) (elim (le? j i) [
              | inl q ↦ absurd (t (hit-of s i u w j
                  (subst T (sym (f w)) (near_of s u i w (edge-turn s w u (near-edge s w j u b)) (omega arith)))
                  (near-low s w j u b) seen q))
              | inr q ↦ q
            ]))
            (λ b. near_of s w j u (ranked-is-near s u (suc i) w j b).0 (omega (arith, (ranked-is-near s u (suc i) w j b).1))) in
            omega (arith, lowered-no s i u w j t, ap bit same)
      ]

  pub enter-phi : (i u w j : ℕ) → u < s.n → s.rank u ≤ i → RowBelow i u s → (w ≡ u → i < j)
      → phi (ranked u (suc i) s) w j ≡ lowered_counts s i u w j
  enter-phi i u w j l k f d = elim (eq? w u) [
    | inl e ↦ subst (λ (y : ℕ). phi (ranked u (suc i) s) y j ≡ lowered_counts s i u y j) (sym e)
        (own-above u (suc i) j (omega (arith, d e)) (d e)
        ∙ sym (lowered-no s i u u j (λ t. p.no_loop u (hit-says s i u u j t).owned)))
    | inr e ↦ elim (le? (s.rank w) j) [
      | inl g ↦ enter-other i u w j l k f e g
      | inr g ↦ phi-zero (ranked u (suc i) s) w j (omega (arith, ranked-there s u (suc i) w e))
          ∙ sym (lowered-no s i u w j (λ t. omega (arith, (hit-says s i u w j t).seen)) ∙ phi-zero s w j g)
    ]
  ]

  -- the counts when v falls from level i, owning exactly the edges to its neighbours below it
  pub fall-own : (i v : ℕ) → phi (ranked v i s) v i ≡ below s v i
  fall-own i v = phi-above (ranked v i s) v i (omega (arith, ranked-here s v i)) ∙ own_below v i i

  fall-other : (i v w j : ℕ) → v < s.n → s.rank v ≡ suc i → RowBelow i v s → w ≢ v → s.rank w ≤ j
      → phi (ranked v i s) w j ≡ raised_counts s i v w j
  fall-other i v w j l e f d seen =
      let new : phi (ranked v i s) w j ≡ below (ranked v i s) w j = phi-above (ranked v i s) w j (omega (arith, ranked-there s v i w d)) in
      let old : phi s w j ≡ below s w j = phi-above s w j seen in
      let at = ranked-below s v i w j l in
      elim (holds? (s.owns v w && eqb j i)) [
        | inl t ↦
            let o : T (s.owns v w) = and_left (s.owns v w) _ t in
            let q : j ≡ i = eqb→eq j i (and_right (s.owns v w) _ t) in
            omega (
              arith,
              raised-yes s i v w j o q,
              bit-no (near s w j v) (λ b. omega (arith, near-low s w j v b)),
              bit-yes (near (ranked v i s) w j v) (near-ranked s v i w j (edge-back s w v o) (omega arith)),
            )
        | inr t ↦
            let same : near s w j v ≡ near (ranked v i s) w j v =
            bool-ext (near s w j v) (near (ranked v i s) w j v)
            (λ b. near-ranked s v i w j (near-edge s w j v b) (omega (arith, near-low s w j v b)))
            (λ b. let r = ranked-is-near s v i w j b in near_of s w j v r.0 (elim (eq? j i) [
              | inl q ↦ absurd (t (and_intro (s.owns v w) _
                  (subst T (sym (f w)) (near_of s v i w (edge-turn s w v r.0) (omega arith))) (true-T (eqb_yes j i q))))
              | inr q ↦ omega (arith, r.1)
            ])) in
            omega (
              arith,
              raised-no s i v w j (λ o q. t (and_intro (s.owns v w) _ o (true-T (eqb_yes j i q)))),
              ap bit same,
            )
      ]

  pub fall-phi : (i v w j : ℕ) → v < s.n → s.rank v ≡ suc i → RowBelow i v s → (w ≡ v → j ≢ i)
      → phi (ranked v i s) w j ≡ raised_counts s i v w j
  fall-phi i v w j l e f d = elim (eq? w v) [
    | inl g ↦ subst (λ (y : ℕ). phi (ranked v i s) y j ≡ raised_counts s i v y j) (sym g)
        (elim (le? i j) [
          | inl h ↦ own-above v i j (omega (arith, d g)) h
          | inr h ↦ phi-zero (ranked v i s) v j (omega (arith, ranked-here s v i)) ∙ sym (phi-zero s v j (omega arith))
        ] ∙ sym (raised-no s i v v j (λ o q. p.no_loop v o)))
    | inr g ↦ elim (le? (s.rank w) j) [
      | inl h ↦ fall-other i v w j l e f g h
      | inr h ↦ phi-zero (ranked v i s) w j (omega (arith, ranked-there s v i w g))
          ∙ sym (raised-no s i v w j (λ o q. omega (arith, near-low s v i w (subst T (f w) o))) ∙ phi-zero s w j h)
    ]
  ]

  -- the counts that are raised
  pub fall-owned : (i v w : ℕ) → v < s.n → s.rank v ≡ suc i → RowBelow i v s → T (s.owns v w) → phi (ranked v i s) w i ≡ raised_counts s i v w i
  fall-owned i v w l e f t = fall-phi i v w i l e f (λ g. absurd (p.no_loop v (subst (λ (y : ℕ). T (s.owns v y)) g t)))

-- they are below the number of places too
pub raised-fits : {K : Kind} (s : State) → Proper K s → (i v w : ℕ) → v < s.n → s.rank v ≡ suc i → RowBelow i v s → T (s.owns v w)
    → raised_counts s i v w i < K.shape.most
raised-fits s p i v w l e f t =
    omega (arith, fall-owned s p i v w l e f t, phi-fits (ranked v i s) (ranked-proper s p v i l (omega (arith, proper-ranks p v))) w i)
