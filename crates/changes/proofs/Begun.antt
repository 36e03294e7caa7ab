-- Where a change begins: a valid state with one edge more or less. Nothing is pending there, owners stand in order, and the search for a
-- rise finds a vertex that can be promoted. Assumes nothing.
use mathlib.Core.Path.{◌≡◌, refl, sym, ap, ◌∙◌, subst}
use mathlib.Core.Logic.{◌≢◌, ◌⊎◌, inl, inr}
use mathlib.Core.Bool.{not, ◌&&◌}
use Prim.Native.Nat.{ℕ, zero, suc, ◌≤◌, ◌<◌}
use native.Mathlib.Omega.{arith}
use lib.Dec.{T, eqb, eqb→eq}
use Rattle.model.specs.State.{Rules, State, below, phi, pending}
use Rattle.model.specs.Bytes.{no_mate, mate_entry}
use Rattle.model.specs.Valid.{Valid}
use Rattle.model.specs.Moves.{none, found}
use Rattle.model.specs.Change.{is_edge, without_edge, reown, owning, add_edge, riser}
use Rattle.model.proofs.Tests.{eq?, le?, and_left, and_right, or_cases}
use Rattle.model.proofs.Limits.{phi-below, mate_entry-free, mate_entry-mate}
use Rattle.theory.specs.Waiting.{marks, Paired}
use Rattle.theory.proofs.Takings.{pending-is}
use Rattle.theory.proofs.EdgeSets.{add-marks}
use Rattle.theory.proofs.Loops.{riser-stop, riser-a, riser-b, riser-next}
use Rattle.moves.specs.Proper.{Ordered}
use Rattle.edges.proofs.Changed.{add-size, add-high, add_low, add-rank, add-mate}

-- nothing is pending where every free vertex has rank 0
pub still : (s : State) → ((v : ℕ) → s.mate v ≡ v → s.rank v ≡ 0) → (v i : ℕ) → T (pending s i v) → ⊥
still s f v i t = let k = pending-is s i v t in omega (arith, f v k.0, k.1)

-- an edge more changes neither ranks nor mates
pub add-still : {R : Rules} (s : State) → Valid R s → (a b v i : ℕ) → T (pending (add_edge a b s) i v) → ⊥
add-still s ok a b = still (add_edge a b s) (λ v e. add-rank a b s v ∙ ok.free-low v (sym (add-mate a b s v) ∙ e))

-- mates name each other on one level, and an edge more changes nothing of that
pub valid-paired : {R : Rules} (s : State) → Valid R s → Paired s.n (marks s)
valid-paired s ok = record {
  back = ok.mates-back;
  level = ok.mates-level;
  high = λ v d. elim (le? 1 (s.rank v)) [ inl b ↦ b | inr b ↦ absurd (d (ok.low_free v (omega arith))) ];
  past = ok.past;
}

pub add-paired : (a b : ℕ) (s : State) → Paired s.n (marks s) → Paired (add_edge a b s).n (marks (add_edge a b s))
add-paired a b s p =
    subst (Paired (add_edge a b s).n) (sym (add-marks a b s)) (subst (λ (k : ℕ). Paired k (marks s)) (sym (add-size a b s)) p)

-- owners stay in order
owning-ordered : (s : State) (o e : ℕ) → Ordered s → s.rank e ≤ s.rank o → Ordered (owning o e s)
unfolding owning reown
owning-ordered s o e f l v w t = elim (or_cases (s.owns v w) (eqb v o && eqb w e) t) [
  | inl h ↦ f v w h
  | inr h ↦ omega (
    arith,
    ap s.rank (eqb→eq v o (and_left (eqb v o) (eqb w e) h)),
    ap s.rank (eqb→eq w e (and_right (eqb v o) (eqb w e) h)),
  )
]

pub add-ordered : (s : State) (a b : ℕ) → Ordered s → Ordered (add_edge a b s)
add-ordered s a b f = elim (le? (s.rank b) (s.rank a)) [
  | inl h ↦ subst Ordered (sym (add-high a b s h)) (owning-ordered s a b f h)
  | inr h ↦ subst Ordered (sym (add_low a b s h)) (owning-ordered s b a f (omega arith))
]

pub drop-ordered : (s : State) (a b : ℕ) → Ordered s → Ordered (reown s (without_edge s.owns a b))
unfolding reown without_edge
drop-ordered s a b f v w t = f v w (and_left (s.owns v w) (not (is_edge a b v w)) t)

-- The search for a rise: what it finds can be promoted.
pub record Riser (top a b i u : ℕ) (s : State) : Type 0 where
  pub end : (u ≡ a) ⊎ (u ≡ b)
  pub low : s.rank u ≤ i
  pub level : i ≤ top
  pub some : 1 ≤ below s u i

-- a threshold that is reached says that there is a neighbour below
reached : (R : Rules) → ((j : ℕ) → 1 ≤ R.thr j) → (s : State) (u i : ℕ) → R.thr i ≤ phi s u i → 1 ≤ below s u i
reached R pos s u i h = omega (arith, pos i, phi-below s u i)

found-level : {i j u v : ℕ} → found i u ≡ found j v → i ≡ j
found-level {i} {j} {u} {v} e = cc

found-vertex : {i j u v : ℕ} → found i u ≡ found j v → u ≡ v
found-vertex {i} {j} {u} {v} e = cc

-- the search that stopped at level j with vertex x
stopped : (R : Rules) → ((j : ℕ) → 1 ≤ R.thr j) → (a b j x : ℕ) (s : State) (i u : ℕ) → suc j ≤ suc R.top → (x ≡ a) ⊎ (x ≡ b) → s.rank x ≤ j → R.thr j ≤ phi s x j
    → found j x ≡ found i u → Riser R.top a b i u s
stopped R pos a b j x s i u l c k h e =
    let p : j ≡ i = found-level e in
    let q : x ≡ u = found-vertex e in
    record {
      end = elim c [ inl z ↦ inl (sym q ∙ z) | inr z ↦ inr (sym q ∙ z) ];
      low = omega (arith, ap s.rank q);
      level = omega arith;
      some = reached R pos s u i (subst (λ (y : ℕ). R.thr i ≤ phi s y i) q (subst (λ (y : ℕ). R.thr y ≤ phi s x y) p h));
    }

nowhere : (i u : ℕ) → none ≡ found i u → ⊥
nowhere i u e = let z : ◌≡◌ {A = ℕ} 0 1 = cc in omega arith

pub riser-of : (R : Rules) → ((j : ℕ) → 1 ≤ R.thr j) → (a b m : ℕ) (s : State) (i u : ℕ) → m ≤ suc R.top → riser R a b m s ≡ found i u → Riser R.top a b i u s
riser-of R pos a b zero s i u l e = absurd (nowhere i u (sym riser-zero ∙ e))
  where
    riser-zero : riser R a b zero s ≡ none
    riser-zero = unfold riser in refl
riser-of R pos a b (suc j) s i u l e = elim (le? (s.rank a) j) [
  | inr k ↦ absurd (nowhere i u (sym (riser-stop R a b j s (inl k)) ∙ e))
  | inl ka ↦ elim (le? (s.rank b) j) [
    | inr k ↦ absurd (nowhere i u (sym (riser-stop R a b j s (inr k)) ∙ e))
    | inl kb ↦ elim (le? (R.thr j) (phi s a j)) [
      | inl ha ↦ stopped R pos a b j a s i u l (inl refl) ka ha (sym (riser-a R a b j s ka kb ha) ∙ e)
      | inr ha ↦ elim (le? (R.thr j) (phi s b j)) [
        | inl hb ↦ stopped R pos a b j b s i u l (inr refl) kb hb (sym (riser-b R a b j s ka kb ha hb) ∙ e)
        | inr hb ↦ riser-of R pos a b j s i u (omega arith) (sym (riser-next R a b j s ka kb ha hb) ∙ e)
      ]
    ]
  ]
]

-- the entry of a's mate names b exactly if b is its mate
pub entry-names : (s : State) (a b : ℕ) → a ≢ b → b < no_mate → mate_entry s a ≡ b → s.mate a ≡ b
entry-names s a b d l e = elim (eq? (s.mate a) a) [
  | inl m ↦ absurd (omega (arith, mate_entry-free s a m))
  | inr m ↦ sym (mate_entry-mate s a m) ∙ e
]

pub entry-not : (s : State) (a b : ℕ) → a ≢ b → mate_entry s a ≢ b → s.mate a ≢ b
entry-not s a b d e m = e (mate_entry-mate s a (λ z. d (sym z ∙ m)) ∙ m)
