-- The two parts of a taken vertex's row: the edges that it hands on and those to vertices below are exactly the edges that it owned before.
-- Of every state in which each edge has one owner, no lower than the other end, and so at each taking of every accepted change of a valid state.
-- Assumes nothing.
use mathlib.Core.Path.{◌≡◌, refl, sym, ap, ◌∙◌, subst}
use mathlib.Core.Logic.{◌⊎◌, inl, inr}
use mathlib.Core.Bool.{Bool, ◌&&◌}
use mathlib.Core.List.{[], ◌∷◌}
use Prim.Native.Nat.{ℕ, suc, ◌≤◌, ◌<◌}
use native.Mathlib.Omega.{arith}
use lib.Dec.{T, eqb, leb}
use lib.ListN.{get_or}
use Rattle.model.specs.Counting.{sum, count}
use Rattle.model.specs.State.{Rules, rules, low_kind, State, edge, near, below}
use Rattle.model.specs.Valid.{Valid}
use Rattle.model.specs.Moves.{Run, found, owned_by, hand_over, pick}
use Rattle.model.specs.Change.{Change, early}
use Rattle.model.proofs.Tests.{bool-ext, le?, and_intro, and_left, and_right}
use Rattle.model.proofs.Counting.{count-parts}
use Rattle.theory.specs.Waiting.{marks}
use Rattle.theory.specs.Serving.{Settles, Through, Served, Foremost}
use Rattle.theory.specs.Handing.{handed_on, HandedOn, StillOwned, Parts}
use Rattle.theory.proofs.Marks.{Setting, setting, rejoin, Simple, near_in, near_of}
use Rattle.theory.proofs.Ownership.{Owns, handed-low, owned-of}
use Rattle.theory.proofs.Fits.{Fits, near-is, hand-fits, handed-near}
use Rattle.theory.proofs.OnTheWay.{OnTheWay, on-the-way}
use Rattle.theory.proofs.Serving.{who-is-taken}

module _ (P : Setting) (E : Simple P.n P.edge) (i v : ℕ) (s : State) (F : Fits P s) (e : s.rank v ≡ suc i) where
  -- the state after the hand-over, in which each edge still has one owner
  abbrev t : State
  t = hand_over i v s

  O : Owns P.edge t.owns (marks t)
  O = (hand-fits P E i v F e).owners

  -- v owns exactly the edges to its neighbours below the level
  pub handed-row : (w : ℕ) → t.owns v w ≡ near t v i w
  unfolding hand_over
  handed-row w =
      bool-ext (t.owns v w) (near_in P (marks s) v i w) (handed-near P E i v F e w).0 (handed-near P E i v F e w).1
      ∙ ap (λ (p : ℕ → Bool). p w) (sym (near-is P E (hand-fits P E i v F e) v i))

  -- those it owned before, too: an edge to a lower vertex has no other owner
  kept : (w : ℕ) → T (near t v i w) → StillOwned i v w s t
  unfolding hand_over
  kept w h =
      let k : T (t.owns v w) = subst T (sym (handed-row w)) h in
      let l : s.rank w < suc i = handed-low P E s.owns F.owners e w k in
      record {
        before = owned-of P.edge s.owns (marks s) F.owners v w (O.edges v w k) (omega (arith, l));
        low = omega (arith, l);
        after = k;
        alone = O.one v w k;
      }

  -- an edge that went to its other end leads to v's own level, since v keeps those to lower vertices
  went : (w : ℕ) → T (handed_on s t v w) → HandedOn i v w s t
  unfolding handed_on hand_over
  went w h =
      let b : T (s.owns v w) = and_left (s.owns v w) _ h in
      let a : T (t.owns w v) = and_right (s.owns v w) _ h in
      record {
        before = b;
        level = elim (le? (s.rank w) i) [
          | inl l ↦ absurd (O.one w v a ((handed-near P E i v F e w).1 (near_of P (marks s) v i w (F.owners.edges v w b) l)))
          | inr l ↦ omega (arith, F.owners.high v w b)
        ];
        after = a;
        gone = O.one w v a;
      }

  one_of : (w : ℕ) → T (s.owns v w) → T (handed_on s t v w) ⊎ T (near t v i w)
  unfolding handed_on
  one_of w h = elim (O.some v w (F.owners.edges v w h)) [
    | inl k ↦ inr (subst T (handed-row w) k)
    | inr k ↦ inl (and_intro (s.owns v w) _ h k)
  ]

  not-both : (w : ℕ) → T (handed_on s t v w) → T (near t v i w) → ⊥
  not-both w h k = (went w h).gone (kept w k).after

  pub fits-parts : Parts i v s t
  unfolding hand_over below
  fits-parts = record {
    handed = went;
    lower = kept;
    each = one_of;
    apart = not-both;
    whole = omega (
      arith,
      count-parts (handed_on s t v) (near t v i) (s.owns v) s.n (λ w h. (went w h).before) (λ w h. (kept w h).before) one_of not-both,
    );
  }

-- A hand-over of any vertex, in any state with one owner for each edge, no lower than the other end.
pub parts : (s : State) → Simple s.n (edge s) → Owns (edge s) s.owns (marks s) → (i v : ℕ) → s.rank v ≡ suc i → Parts i v s (hand_over i v s)
parts s E O i v e = fits-parts (setting (rules s.kind) s) E i v s (record { kind = refl; size = refl; owners = O }) e

-- Each taking of every change of a valid state that none of 7 to 11 fits, so of every accepted one.
pub taken-parts : (R : Rules) → ((j : ℕ) → 1 ≤ R.thr j) → (s : State) → Valid R s → (c : Change) → early s.n (edge s) c ≡ 0
    → (r t : Run) → Settles R s c r → Through R c.words r t → (i v : ℕ) → pick (suc R.top) t.queues ≡ found i v
    → Parts i v t.state (hand_over i v t.state)
taken-parts R pos s H c z r t S way i v e =
    let W : OnTheWay R s t = on-the-way R pos s H c z r t S way in
    let f : Foremost s.n (marks t.state) t.queues i v =
    subst (Served s.n (marks t.state) t.queues) e (who-is-taken R pos s H c z r t S way) in
    fits-parts (rejoin (setting R s) W.there) W.simple i v t.state W.good.fits f.waits.1.1

-- ---- A case, computed: 0 stands at level 1 and owns three edges, to 1 at its own level, and to 2 and 3 below. One goes, and two stay.
unfoldable pub trio : State
trio = record { kind = low_kind; n = 4; rank = λ v. get_or (2 ∷ 2 ∷ 1 ∷ 0 ∷ []) v 0; mate = λ v. v; owns = λ v w. eqb v 0 && (leb 1 w && leb w 3) }

pub trio-parts : (count (trio.owns 0) 4 ≡ 3) × (count (handed_on trio (hand_over 1 0 trio) 0) 4 ≡ 1) × (below (hand_over 1 0 trio) 0 1 ≡ 2)
unfolding trio count sum handed_on hand_over owned_by below near edge
trio-parts = (refl, refl, refl)
