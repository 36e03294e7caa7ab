-- Every run on the way of an accepted change of a valid state is in order: from the run that the change settles from, taking by taking.
-- Assumes nothing.
use mathlib.Core.Path.{◌≡◌, refl, sym, subst}
use mathlib.Core.Logic.{◌≢◌, inl, inr}
use mathlib.Core.Bool.{Bool}
use mathlib.Core.List.{List, []}
use Prim.Native.Nat.{ℕ, suc, ◌≤◌, ◌<◌}
use lib.Dec.{T}
use Rattle.model.specs.State.{Rules, State, edge}
use Rattle.model.specs.Valid.{Valid}
use Rattle.model.specs.Moves.{Run, found, promote}
use Rattle.model.specs.Change.{Change, lower, upper, start, start_parted, reown, without_edge, with_edge, add_edge, riser, early}
use Rattle.model.proofs.Tests.{le?, leb_yes, leb_no}
use Rattle.theory.specs.Serving.{Settles, by-add, by-drop, Through, begun, taking}
use Rattle.theory.proofs.Marks.{Setting, setting, rules, rejoin, Simple, Inv}
use Rattle.theory.proofs.Runs.{Good}
use Rattle.theory.proofs.Takings.{Highest, good-highest}
use Rattle.theory.proofs.Settling.{turn-of}
use Rattle.theory.proofs.EdgeSets.{with-added, without-dropped, with-simple, without-simple, add-marks, add-fits, drop-fits}
use Rattle.theory.proofs.Adding.{Rises, riser-is, riser-good}
use Rattle.theory.proofs.Dropping.{parted-good}
use Rattle.theory.proofs.Numbers.{Fitting, early-zero}
use Rattle.theory.proofs.ValidState.{valid-simple, valid-fits, valid-inv}

-- the run is in order among the vertices of s, with the edges that the change has made of those of s
pub record OnTheWay (R : Rules) (s : State) (t : Run) : Type 0 where
  pub there : ℕ → ℕ → Bool
  pub simple : Simple s.n there
  pub m : ℕ
  pub good : Good (rejoin (setting R s) there) m [] t

-- a taking keeps a run in order
through-good : (P : Setting) (E : Simple P.n P.edge) (pos : (j : ℕ) → 1 ≤ P.thr j) (words : List ℕ) (m : ℕ) (r : Run) → Good P m [] r
    → (t : Run) → Through (rules P) words r t → (k : ℕ) × Good P k [] t
through-good P E pos words m r G _ begun = (m, G)
through-good P E pos words m r G _ (taking {t} {i} {v} way e) =
    let g = through-good P E pos words m r G t way in
    let h : Highest t.state (suc P.top) (found i v) = subst (Highest t.state (suc P.top)) e (good-highest P t g.1 (suc P.top)) in
    (suc i, (turn-of P E pos words g.0 i v t g.1 h).taken.good)

-- the two ends in order are two vertices, and those of an add are not joined
record TwoEnds (s : State) (code a b : ℕ) : Type 0 where
  pub a_in : a < s.n
  pub b-in : b < s.n
  pub apart : a ≢ b
  pub absent : code ≡ 1 → T (edge s a b) → ⊥

module _ (R : Rules) (pos : (j : ℕ) → 1 ≤ R.thr j) (s : State) (H : Valid R s) where
  E : Simple s.n (edge s)
  E = valid-simple R s H

  ends_of : (c : Change) → early s.n (edge s) c ≡ 0 → TwoEnds s c.code (lower c.a c.b) (upper c.a c.b)
  unfolding lower upper
  ends_of c z =
      let A : Fitting s.n (edge s) c = early-zero s.n (edge s) c z in
      elim (le? c.a c.b) [
        | inl l ↦ rw (leb_yes c.a c.b l, lower, upper) (record { a_in = A.a_in; b-in = A.b-in; apart = A.apart; absent = A.absent })
        | inr l ↦ rw (leb_no c.a c.b l, lower, upper) (record {
          a_in = A.b-in;
          b-in = A.a_in;
          apart = λ e. A.apart (sym e);
          absent = λ e h. A.absent e (E.turn c.b c.a h);
        })
      ]

  -- where a change settles from, the run is in order
  adding : (words : List ℕ) (a b i u : ℕ) → TwoEnds s 1 a b → riser R a b (suc R.top) (add_edge a b s) ≡ found i u
      → OnTheWay R s (promote words i u (start (add_edge a b s)))
  adding words a b i u A e =
      let there : ℕ → ℕ → Bool = with_edge (edge s) a b in
      let P : Setting = rejoin (setting R s) there in
      let K : Simple s.n there = with-simple s.n (edge s) a b E A.a_in A.b-in A.apart in
      let F = add-fits (setting R s) E a b s (valid-fits R s H) (A.absent refl) A.apart in
      let h = subst (Rises P a b (suc R.top) (add_edge a b s)) e (riser-is P K a b (suc R.top) (add_edge a b s) F) in
      record {
        there = there;
        simple = K;
        m = suc i;
        good = riser-good P K pos words (edge s) E a b (add_edge a b s) F (with-added (edge s) a b)
            (subst (Inv (setting R s) 0 []) (sym (add-marks a b s)) (valid-inv R s H)) A.a_in A.b-in i u h;
      }

  dropping : (words : List ℕ) (code a b : ℕ) → TwoEnds s code a b → s.mate a ≡ b
      → OnTheWay R s (start_parted a b (reown s (without_edge s.owns a b)))
  unfolding reown
  dropping words code a b A e =
      let there : ℕ → ℕ → Bool = without_edge (edge s) a b in
      let P : Setting = rejoin (setting R s) there in
      let K : Simple s.n there = without-simple s.n (edge s) a b E in
      let s₁ : State = reown s (without_edge s.owns a b) in
      record {
        there = there;
        simple = K;
        m = s.rank a;
        good = parted-good P K pos words (edge s) E a b s₁ (drop-fits (setting R s) a b s (valid-fits R s H)) (without-dropped (edge s) a b)
            (valid-inv R s H) A.a_in A.b-in A.apart e;
      }

  begins : (c : Change) → early s.n (edge s) c ≡ 0 → (r : Run) → Settles R s c r → OnTheWay R s r
  begins c z _ (by-add {i} {u} p e) =
      let a : ℕ = lower c.a c.b in
      let b : ℕ = upper c.a c.b in
      adding c.words a b i u (subst (λ (k : ℕ). TwoEnds s k a b) p (ends_of c z)) e
  begins c z _ (by-drop p e) = dropping c.words c.code (lower c.a c.b) (upper c.a c.b) (ends_of c z) e

  -- and so is every run on the way
  pub on-the-way : (c : Change) → early s.n (edge s) c ≡ 0 → (r t : Run) → Settles R s c r → Through R c.words r t → OnTheWay R s t
  on-the-way c z r t S way =
      let B : OnTheWay R s r = begins c z r S in
      let g = through-good (rejoin (setting R s) B.there) B.simple pos c.words B.m r B.good t way in
      record { there = B.there; simple = B.simple; m = g.0; good = g.1 }
