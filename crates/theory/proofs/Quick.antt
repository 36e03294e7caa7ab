-- Words that are sure to suffice: where each of as many words as a change has new pairs chooses among any number of neighbours, every draw
-- uses one word, so that the change uses as many words as it has new pairs, and does not run out. Assumes nothing.
use mathlib.Core.Path.{◌≡◌, sym, subst}
use mathlib.Core.Logic.{inl, inr}
use mathlib.Core.List.{List, [], ◌∷◌}
use Prim.Native.Nat.{ℕ, zero, suc, ◌*◌, ◌≤◌, ◌<◌}
use native.Mathlib.Omega.{arith}
use lib.ListN.{length}
use Rattle.model.specs.Counting.{listed}
use Rattle.model.specs.State.{below}
use Rattle.model.specs.Words.{deciding}
use Rattle.model.specs.Moves.{Run, Found, none, found, spent, drawn, draw, lifted, promote, hand_over, handed, fall, due, scan, scan_from, take, pick, settle_in, settle, chosen}
use Rattle.model.proofs.Tests.{le?, holds?, T_true}
use Rattle.model.proofs.Counting.{count-some, count-bound}
use Rattle.model.proofs.Deciding.{deciding-here}
use Rattle.theory.specs.Quick.{Quick}
use Rattle.theory.proofs.Marks.{marks, Setting, rules, Simple, near_in, below_in, near_of}
use Rattle.theory.proofs.Invariant.{Draws}
use Rattle.theory.proofs.Fits.{Fits, below-is, hand-fits}
use Rattle.theory.proofs.Runs.{Good, Risen, due-low, scan-yes, scan-no, draws-of, risen, promote-good, passed-good}
use Rattle.theory.proofs.Takings.{take-draws, take-falls, fallen-good, Highest, good-highest}
use Rattle.theory.proofs.Settling.{Turn, turn-of}

-- as many words were used as there are new pairs, if these are at most so many
abbrev pub Exact : ℕ → Run → Type 0
Exact most r = length r.news ≤ most → r.draws ≡ length r.news

module _ (P : Setting) (E : Simple P.n P.edge) (pos : (j : ℕ) → 1 ≤ P.thr j) (words : List ℕ) (most : ℕ) (q : Quick P.n most words) where
  -- the neighbours to draw among: at least the one that is drawn, and at most all
  among : {i u y : ℕ} (r : Run) → Fits P r.state → Draws P i u y (marks r.state) → (1 ≤ below r.state u i) × (below r.state u i ≤ P.n)
  unfolding below_in
  among {i} {u} {y} r F c =
      let p : below r.state u i ≡ below_in P (marks r.state) u i = below-is P E F u i in
      let s : 1 ≤ below_in P (marks r.state) u i =
      count-some (near_in P (marks r.state) u i) P.n y (E.inside u y c.joined) (near_of P (marks r.state) u i y c.joined c.low) in
      (omega (arith, s), omega (arith, count-bound (near_in P (marks r.state) u i) P.n))

  draw-exact : {i u : ℕ} (r : Run) → Fits P r.state → Draws P i u (chosen words i u r) (marks r.state) → Exact most r
      → Exact most (draw words i u r)
  unfolding draw drawn spent
  draw-exact {i} {u} r F c e h =
      let d : r.draws ≡ length r.news = e (omega arith) in
      let k = among r F c in
      let z : deciding words r.draws (below r.state u i) ≡ r.draws =
      deciding-here words (below r.state u i) r.draws (omega (arith, q.many))
      (T_true (q.small r.draws (below r.state u i) (omega arith) k.0 k.1)) in
      omega (arith, z)

  -- a rise with its draw
  pub promote-exact : (i u : ℕ) (r : Run) → Fits P (lifted i u r).state → Draws P i u (chosen words i u (lifted i u r)) (marks (lifted i u r).state)
      → Exact most r → Exact most (promote words i u r)
  unfolding promote
  promote-exact i u r F c e = draw-exact (lifted i u r) F c e

  scan-exact : (i : ℕ) (Q : List ℕ) (r : Run) → Good P (suc i) Q r → i ≤ P.top → Exact most r → Exact most (scan (rules P) words i Q r)
  unfolding scan
  scan-exact i [] r G b e = e
  scan-exact i (w ∷ Q) r G b e = elim (holds? (due (rules P) i w r.state)) [
    | inl d ↦
        let l = due-low P E i w G.fits d in
        subst (Exact most) (sym (scan-yes P words i w Q r d))
        (scan-exact i Q (promote words i w r) (promote-good P E pos words i w Q r G b l.0 l.1).good b
        (let g : Risen P words i Q w r = risen P E pos words i w Q r G b l.0 l.1 in promote-exact i w r g.ready.fits g.draws e))
    | inr d ↦ subst (Exact most) (sym (scan-no P words i w Q r d))
        (scan-exact i Q r (passed-good P E pos words i w Q r G d) b e)
  ]

  take_exact : (i v : ℕ) (r : Run) → Good P (suc i) [] r → v < P.n → r.state.mate v ≡ v → r.state.rank v ≡ suc i → Exact most r
      → Exact most (take (rules P) words i v r)
  unfolding fall hand_over scan_from
  take_exact i v r G b hv lv e = elim (le? (P.thr i) (below_in P (marks r.state) v i)) [
    | inl h ↦
        subst (Exact most) (sym (take-draws P E pos words i v r G.fits lv h))
        (let F : Fits P (handed i v r).state = hand-fits P E i v G.fits lv in
        draw-exact (handed i v r) F (draws-of P E pos words i v (handed i v r) F hv lv (omega (arith, pos i))) e)
    | inr h ↦
        subst (Exact most) (sym (take-falls P E pos words i v r G.fits lv h))
        (scan-exact i (listed ((hand_over i v r.state).owns v) r.state.n) (fall i v (handed i v r))
        (fallen-good P E pos words i v r G b hv lv h) (omega (arith, G.inv.ranks v)) e)
  ]

  pub settle_in-exact : (f m : ℕ) (r : Run) → Good P m [] r → Exact most r → Exact most (settle_in (rules P) words f r)
  unfolding settle_in
  settle_in-exact zero m r G e = e
  settle_in-exact (suc f) m r G e = go (settle_in-exact f) (pick (suc P.top) r.queues) (good-highest P r G (suc P.top))
    where
      go : ((k : ℕ) (r₁ : Run) → Good P k [] r₁ → Exact most r₁ → Exact most (settle_in (rules P) words f r₁)) → (x : Found) → Highest r.state (suc P.top) x
          → Exact most (elim x [ none ↦ r | found i v ↦ settle_in (rules P) words f (take (rules P) words i v r) ])
      go ih none h = e
      go ih (found i v) h =
          let t : Turn P E pos words m i v r = turn-of P E pos words m i v r G h in
          ih (suc i) (take (rules P) words i v r) t.taken.good
          (take_exact i v r t.start (omega (arith, h.0, G.fits.size)) h.1.0 h.1.1.0 e)

  pub settle-exact : (m : ℕ) (r : Run) → Good P m [] r → Exact most r → Exact most (settle (rules P) words r)
  unfolding settle
  settle-exact m r G e = settle_in-exact (r.state.n * suc P.top) m r G e
