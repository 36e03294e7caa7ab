-- An add and a drop of a valid state: what they leave, how many new pairs they make, and words that are sure to suffice for them. Assumes nothing.
use mathlib.Core.Path.{◌≡◌, refl, sym, ap, ◌∙◌, subst}
use mathlib.Core.Logic.{◌≢◌, inl, inr}
use mathlib.Core.Bool.{Bool}
use mathlib.Core.List.{List, []}
use Prim.Native.Nat.{ℕ, suc, ◌*◌, ◌/◌, ◌≤◌, ◌<◌}
use native.Mathlib.Omega.{arith}
use lib.Dec.{T, ltb}
use lib.ListN.{length}
use Rattle.model.specs.Lists.{Distinct}
use Rattle.model.specs.State.{edge, edge_count, edges, pairs, Rules, State}
use Rattle.model.specs.Valid.{Valid}
use Rattle.model.specs.Moves.{Run, found, promote}
use Rattle.model.specs.Change.{Changed, start, start_parted, riser, add, drop, done, add_edge, reown, with_edge, without_edge}
use Rattle.model.proofs.Tests.{eq?, eqb_yes, eqb_no, and_intro, and_left, and_right}
use Rattle.model.proofs.Counting.{sum-le, count-le}
use Rattle.theory.specs.Demand.{vertices}
use Rattle.theory.specs.Quick.{Quick, Suffices}
use Rattle.theory.proofs.Marks.{marks, Setting, setting, rejoin, Simple, Inv}
use Rattle.theory.proofs.Fits.{Fits, fits-edge}
use Rattle.theory.proofs.Runs.{Good}
use Rattle.theory.proofs.EdgeChange.{Added, Dropped, drop-inv}
use Rattle.theory.proofs.LevelZero.{rise-zero, settle-zero, parted-zero}
use Rattle.theory.proofs.Adding.{
  Fine,
  fine-news,
  fine-linked,
  start_fine,
  Reached,
  reached-low,
  Rises,
  Rose,
  riser-is,
  riser-ready,
  riser-good,
  adding-fine,
}
use Rattle.theory.proofs.Dropping.{parted-good, parted-fine}
use Rattle.theory.proofs.EdgeSets.{with-added, without-dropped, with-simple, without-simple, add-marks, add-fits, drop-fits}
use Rattle.theory.proofs.ValidState.{valid-simple, valid-fits, valid-inv, valid-of}

-- What an accepted change does, where `there` are the edges after it.
pub record Made (R : Rules) (s : State) (words : List ℕ) (there : ℕ → ℕ → Bool) (d : Changed) : Type 0 where
  pub zero_number : d.answer.number ≡ 0
  pub kind : d.state.kind ≡ s.kind
  pub size : d.state.n ≡ s.n
  pub edges : edge d.state ≡ there
  pub valid : Valid R d.state
  pub news-half : length d.news ≤ s.n / 2
  pub news-drawn : length d.news ≤ d.answer.draws
  pub news-linked : length d.news ≤ edge_count s.n there
  -- words that are sure to choose, as many as there are new pairs, suffice
  pub quick : (most : ℕ) → Quick s.n most words → length d.news ≤ most → d.answer.draws ≤ length words
  pub once : Distinct (vertices d.news)
  pub falls-few : d.answer.falls ≤ s.n * suc R.top
  pub pairs-held : d.answer.pairs ≡ pairs d.state

module _ (R : Rules) (pos : (j : ℕ) → 1 ≤ R.thr j) (s : State) (H : Valid R s) where
  done-made : (words : List ℕ) (there : ℕ → ℕ → Bool) (r : Run) → Simple s.n there → Fine (rejoin (setting R s) there) words r
      → Made R s words there (done r)
  unfolding done
  done-made words there r K F =
      let P : Setting = rejoin (setting R s) there in
      record {
        zero_number = refl;
        kind = F.good.fits.kind;
        size = F.good.fits.size;
        edges = fits-edge P K F.good.fits;
        valid = valid-of P K pos r.state H.some H.few F.good.fits F.good.inv;
        news-half = fine-news P words r F;
        news-drawn = F.good.counted;
        news-linked = fine-linked P K words r F;
        quick = λ k q h. omega (arith, F.exact k q h, q.many);
        once = F.good.new.once;
        falls-few = F.falls;
        pairs-held = refl;
      }

  -- an add and a drop, a the lower number or not
  module _ (words : List ℕ) (a b : ℕ) (p : a < s.n) (q : b < s.n) (ne : a ≢ b) where
    E : Simple s.n (edge s)
    E = valid-simple R s H

    -- ---- add: s₁ has the edge a-b, which was not there
    module _ (absent : T (edge s a b) → ⊥) where
      abbrev P : Setting
      P = rejoin (setting R s) (with_edge (edge s) a b)

      abbrev s₁ : State
      s₁ = add_edge a b s

      K : Simple s.n (with_edge (edge s) a b)
      K = with-simple s.n (edge s) a b E p q ne

      A : Added a b (edge s) (with_edge (edge s) a b)
      A = with-added (edge s) a b

      F : Fits P s₁
      F = add-fits (setting R s) E a b s (valid-fits R s H) absent ne

      I : Inv (setting R s) 0 [] (marks s₁)
      I = subst (Inv (setting R s) 0 []) (sym (add-marks a b s)) (valid-inv R s H)

      rises : Rises P a b (suc R.top) s₁ (riser R a b (suc R.top) s₁)
      rises = riser-is P K a b (suc R.top) s₁ F

      pub add-made : Made R s words (with_edge (edge s) a b) (done (add R words a b s))
      unfolding add
      add-made = done-made words (with_edge (edge s) a b) _ K (adding-fine P K pos words (edge s) E a b s₁ F A I p q (riser R a b (suc R.top) s₁) rises)

      -- a rise to level 0 makes one new pair
      pub add-zero : R.thr 0 ≡ 1 → (u : ℕ) → riser R a b (suc R.top) s₁ ≡ found 0 u → length (add R words a b s).news ≤ 1
      unfolding add
      add-zero one u e =
          let h : Reached P a b (suc R.top) s₁ 0 u = subst (Rises P a b (suc R.top) s₁) e rises in
          let g : Rose P K pos words 0 u s₁ = riser-ready P K pos words (edge s) E a b s₁ F A I p q 0 u h in
          rw (e, add)
          (omega (
            arith,
            settle-zero P K pos words one (promote words 0 u (start s₁)) (riser-good P K pos words (edge s) E a b s₁ F A I p q 0 u h),
            rise-zero P K pos words u s₁ I (reached-low h) g.ready.inv g.draws,
          ))

      edges_are : edges s₁ ≡ edge_count s.n (with_edge (edge s) a b)
      unfolding edges
      edges_are i = edge_count (F.size i) (fits-edge P K F i)

      pub add-quick : R.thr 0 ≡ 1 → {i u : ℕ} → riser R a b (suc R.top) s₁ ≡ found i u → Suffices s.n (edges s₁) i 1 words
          → (add R words a b s).draws ≤ length words
      unfolding done
      add-quick one {i} {u} e z = add-made.quick z.most z.quick (elim z.bound [
        | inl h ↦ omega (arith, add-made.news-half)
        | inr (inl h) ↦ omega (arith, add-made.news-linked, edges_are)
        | inr (inr h) ↦ omega (arith, add-zero one u (e ∙ ap (λ (x : ℕ). found x u) h.0))
      ])

    -- ---- drop: s₂ has lost the edge a-b, which joined mates or not
    abbrev P₂ : Setting
    P₂ = rejoin (setting R s) (without_edge (edge s) a b)

    abbrev s₂ : State
    s₂ = reown s (without_edge s.owns a b)

    K₂ : Simple s.n (without_edge (edge s) a b)
    K₂ = without-simple s.n (edge s) a b E

    D : Dropped a b (edge s) (without_edge (edge s) a b)
    D = without-dropped (edge s) a b

    F₂ : Fits P₂ s₂
    F₂ = drop-fits (setting R s) a b s (valid-fits R s H)

    pub drop-made : Made R s words (without_edge (edge s) a b) (done (drop R words a b s))
    unfolding drop reown
    drop-made = done-made words (without_edge (edge s) a b) _ K₂ (elim (eq? (s.mate a) b) [
      | inl e ↦ rw (eqb_yes (s.mate a) b e, drop) (parted-fine P₂ K₂ pos words (edge s) E a b s₂ F₂ D (valid-inv R s H) p q ne e)
      | inr e ↦ rw (eqb_no (s.mate a) b e, drop) (start_fine P₂ words s₂ F₂ (drop-inv (setting R s) a b (without_edge (edge s) a b) D (valid-inv R s H) e))
    ])

    -- a pair parted at level 0 leads to two new pairs at most
    pub drop-zero : R.thr 0 ≡ 1 → s.mate a ≡ b → s.rank a ≡ 1 → length (drop R words a b s).news ≤ 2
    unfolding drop reown
    drop-zero one e l =
        let m : s.rank b ≡ 1 = sym (ap s.rank e) ∙ H.mates-level a ∙ l in
        let G = parted-good P₂ K₂ pos words (edge s) E a b s₂ F₂ D (valid-inv R s H) p q ne e in
        rw (eqb_yes (s.mate a) b e, drop)
        (omega (
          arith,
          settle-zero P₂ K₂ pos words one (start_parted a b s₂) (subst (λ (x : ℕ). Good P₂ x [] (start_parted a b s₂)) l G),
          parted-zero a b s₂ l m,
        ))

    fewer : edge_count s.n (without_edge (edge s) a b) ≤ edges s
    unfolding edges without_edge
    fewer = sum-le _ _ s.n (λ v h. count-le _ _ s.n (λ w k t.
        and_intro (ltb v w) (edge s v w) (and_left (ltb v w) _ t) (and_left (edge s v w) _ (and_right (ltb v w) _ t))))

    pub drop-quick : R.thr 0 ≡ 1 → s.mate a ≡ b → {i : ℕ} → s.rank a ≡ suc i → Suffices s.n (edges s) i 2 words
        → (drop R words a b s).draws ≤ length words
    unfolding done
    drop-quick one e l z = drop-made.quick z.most z.quick (elim z.bound [
      | inl h ↦ omega (arith, drop-made.news-half)
      | inr (inl h) ↦ omega (arith, drop-made.news-linked, fewer)
      | inr (inr h) ↦ omega (arith, drop-zero one e (l ∙ ap suc h.0))
    ])
