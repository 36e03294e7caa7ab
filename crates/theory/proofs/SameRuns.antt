-- Two runs of one setting with the same marks, queues, new pairs, draws and falls, whatever their owners: after a scan, a taking, a settling, an
-- add or a drop they are again the same in all this. Assumes nothing.
use mathlib.Core.Path.{◌≡◌, refl, sym, ap, ◌∙◌, subst}
use mathlib.Core.Logic.{◌≢◌, inl, inr}
use mathlib.Core.Bool.{Bool}
use mathlib.Core.List.{List, [], ◌∷◌}
use Prim.Native.Nat.{ℕ, zero, suc, ◌*◌, ◌≤◌, ◌<◌}
use native.Mathlib.Omega.{arith}
use lib.Dec.{T}
use Rattle.model.specs.Counting.{listed}
use Rattle.model.specs.State.{State}
use Rattle.model.specs.Moves.{handed, leave, join, take, fall, Run, Found, none, found, part, promote, hand_over, due, scan, scan_from, pick, settle_in, settle}
use Rattle.model.specs.Change.{start, start_parted, riser}
use Rattle.model.proofs.Tests.{holds?, le?}
use Rattle.theory.proofs.Marks.{Marks, marks, Setting, rejoin, rules, Simple, below_in, Inv}
use Rattle.theory.proofs.Fits.{Fits, hand-fits}
use Rattle.theory.proofs.Runs.{Good, passed-good, due-low, scan-yes, scan-no, promote-good}
use Rattle.theory.proofs.Takings.{take-draws, take-falls, fallen-good, Highest, good-highest}
use Rattle.theory.proofs.Settling.{Turn, turn-of}
use Rattle.theory.proofs.EdgeChange.{Added, Dropped}
use Rattle.theory.proofs.Adding.{Rises, reached-low, riser-is, riser-good}
use Rattle.theory.proofs.Dropping.{parted-good}
use Rattle.theory.proofs.Alike.{Alike, alike_of, due-alike, riser-alike, Same, fall-same, draw-same, promote-same, handed-same}

module _ (P : Setting) (E : Simple P.n P.edge) (pos : (j : ℕ) → 1 ≤ P.thr j) (words : List ℕ) where
  scan-same : {r r' : Run} (i : ℕ) (Q : List ℕ) → Same r r' → Good P (suc i) Q r → Good P (suc i) Q r' → i ≤ P.top
      → Same (scan (rules P) words i Q r) (scan (rules P) words i Q r')
  unfolding scan
  scan-same i [] S G G' b = S
  scan-same {r} {r'} i (w ∷ Q) S G G' b =
      let A : Alike r.state r'.state = alike_of P E G.fits G'.fits S.marked in
      let e : due (rules P) i w r.state ≡ due (rules P) i w r'.state = due-alike A (rules P) i w in
      elim (holds? (due (rules P) i w r.state)) [
        | inl d ↦
            let l = due-low P E i w G.fits d in
            let d' : T (due (rules P) i w r'.state) = subst T e d in
            let l' = due-low P E i w G'.fits d' in
            rw (scan-yes P words i w Q r d, scan-yes P words i w Q r' d')
            (scan-same {r = promote words i w r} {r' = promote words i w r'} i Q (promote-same P E words i w S G.fits G'.fits l.0 l'.0)
            (promote-good P E pos words i w Q r G b l.0 l.1).good (promote-good P E pos words i w Q r' G' b l'.0 l'.1).good b)
        | inr d ↦
            let d' : T (due (rules P) i w r'.state) → ⊥ = λ h. d (subst T (sym e) h) in
            rw (scan-no P words i w Q r d, scan-no P words i w Q r' d')
            (scan-same {r = r} {r' = r'} i Q S (passed-good P E pos words i w Q r G d) (passed-good P E pos words i w Q r' G' d') b)
      ]

  take_same : {r r' : Run} (i v : ℕ) → Same r r' → Good P (suc i) [] r → Good P (suc i) [] r' → r.state.mate v ≡ v → r.state.rank v ≡ suc i
      → v < P.n → Same (take (rules P) words i v r) (take (rules P) words i v r')
  unfolding hand_over scan_from fall
  take_same {r} {r'} i v S G G' hv lv b =
      let A : Alike r.state r'.state = alike_of P E G.fits G'.fits S.marked in
      let hv' : r'.state.mate v ≡ v = ap (λ (x : Marks). x.mate v) (sym S.marked) ∙ hv in
      let lv' : r'.state.rank v ≡ suc i = ap (λ (x : Marks). x.rank v) (sym S.marked) ∙ lv in
      let e : below_in P (marks r.state) v i ≡ below_in P (marks r'.state) v i = ap (λ (x : Marks). below_in P x v i) S.marked in
      elim (le? (P.thr i) (below_in P (marks r.state) v i)) [
        | inl h ↦ rw (take-draws P E pos words i v r G.fits lv h, take-draws P E pos words i v r' G'.fits lv' (omega arith))
            (draw-same P E words i v (record { marked = S.marked; queues = ap (leave v) S.queues; news = S.news; draws = S.draws; falls = S.falls })
            (hand-fits P E i v G.fits lv) (hand-fits P E i v G'.fits lv'))
        | inr h ↦
            let G₁ = fallen-good P E pos words i v r G b hv lv h in
            let G₁' = fallen-good P E pos words i v r' G' b hv' lv' (omega arith) in
            let l : List ℕ = listed ((hand_over i v r.state).owns v) r.state.n in
            let l' : List ℕ = listed ((hand_over i v r'.state).owns v) r'.state.n in
            let q : l' ≡ l = λ k. listed (handed-same P E words i v G'.fits G.fits (sym S.marked) lv' lv k) (sym A.size k) in
            rw (take-falls P E pos words i v r G.fits lv h, take-falls P E pos words i v r' G'.fits lv' (omega arith))
            (subst (λ (x : List ℕ). Same (scan (rules P) words i l (fall i v (handed i v r)))
            (scan (rules P) words i x (fall i v (handed i v r')))) (sym q)
            (scan-same i l (fall-same i v S) G₁
            (subst (λ (x : List ℕ). Good P (suc i) x (fall i v (handed i v r'))) q G₁') (omega (arith, G.inv.ranks v))))
      ]

  turn-same : {r r' : Run} (f m : ℕ) → Same r r' → Good P m [] r → Good P m [] r'
      → ((q q' : Run) (k : ℕ) → Same q q' → Good P k [] q → Good P k [] q' → Same (settle_in (rules P) words f q) (settle_in (rules P) words f q'))
      → (x : Found) → Highest r.state (suc P.top) x → Highest r'.state (suc P.top) x
      → Same (elim x [ none ↦ r | found i v ↦ settle_in (rules P) words f (take (rules P) words i v r) ])
      (elim x [ none ↦ r' | found i v ↦ settle_in (rules P) words f (take (rules P) words i v r') ])
  turn-same f m S G G' ih none h h' = S
  turn-same {r} {r'} f m S G G' ih (found i v) h h' =
      let t : Turn P E pos words m i v r = turn-of P E pos words m i v r G h in
      let t' : Turn P E pos words m i v r' = turn-of P E pos words m i v r' G' h' in
      let inside : v < P.n = omega (arith, h.0, G.fits.size) in
      ih (take (rules P) words i v r) (take (rules P) words i v r') (suc i)
      (take_same i v S t.start t'.start h.1.0 h.1.1.0 inside) t.taken.good t'.taken.good

  settle_in-same : (f : ℕ) (r r' : Run) (m : ℕ) → Same r r' → Good P m [] r → Good P m [] r'
      → Same (settle_in (rules P) words f r) (settle_in (rules P) words f r')
  unfolding settle_in
  settle_in-same zero r r' m S G G' = S
  settle_in-same (suc f) r r' m S G G' =
      let e : pick (suc P.top) r.queues ≡ pick (suc P.top) r'.queues = ap (pick (suc P.top)) S.queues in
      subst (λ (x : Found). Same (settle_in (rules P) words (suc f) r)
      (elim x [ none ↦ r' | found i v ↦ settle_in (rules P) words f (take (rules P) words i v r') ])) e
      (turn-same f m S G G' (settle_in-same f) (pick (suc P.top) r.queues) (good-highest P r G (suc P.top))
      (subst (Highest r'.state (suc P.top)) (sym e) (good-highest P r' G' (suc P.top))))

  settle-same : {r r' : Run} (m : ℕ) → Same r r' → Good P m [] r → Good P m [] r' → Same (settle (rules P) words r) (settle (rules P) words r')
  unfolding settle
  settle-same {r} {r'} m S G G' =
      subst (λ (x : ℕ). Same (settle_in (rules P) words (r.state.n * suc P.top) r) (settle_in (rules P) words (x * suc P.top) r'))
      (G.fits.size ∙ sym G'.fits.size) (settle_in-same (r.state.n * suc P.top) r r' m S G G')

  -- an add and a drop, once the edges are changed
  pub add_same : (there : ℕ → ℕ → Bool) → Simple P.n there → (a b : ℕ) (s s' : State) → Fits P s → Fits P s' → marks s ≡ marks s'
      → Added a b there P.edge
      → Inv (rejoin P there) 0 [] (marks s) → a < P.n → b < P.n
      → Same (elim (riser (rules P) a b (suc P.top) s) [ none ↦ start s | found i u ↦ settle (rules P) words (promote words i u (start s)) ])
      (elim (riser (rules P) a b (suc P.top) s') [ none ↦ start s' | found i u ↦ settle (rules P) words (promote words i u (start s')) ])
  add_same there K a b s s' F F' p A I l m =
      let e : riser (rules P) a b (suc P.top) s ≡ riser (rules P) a b (suc P.top) s' = riser-alike (alike_of P E F F' p) (rules P) a b (suc P.top) in
      subst (λ (x : Found). Same (elim (riser (rules P) a b (suc P.top) s) [ none ↦ start s | found i u ↦ settle (rules P) words (promote words i u (start s)) ])
      (elim x [ none ↦ start s' | found i u ↦ settle (rules P) words (promote words i u (start s')) ])) e
      (go (riser (rules P) a b (suc P.top) s) (riser-is P E a b (suc P.top) s F)
      (subst (Rises P a b (suc P.top) s') (sym e) (riser-is P E a b (suc P.top) s' F')))
    where
      begun : Same (start s) (start s')
      begun = unfold start in record { marked = p; queues = refl; news = refl; draws = refl; falls = refl }

      go : (x : Found) → Rises P a b (suc P.top) s x → Rises P a b (suc P.top) s' x
          → Same (elim x [ none ↦ start s | found i u ↦ settle (rules P) words (promote words i u (start s)) ])
          (elim x [ none ↦ start s' | found i u ↦ settle (rules P) words (promote words i u (start s')) ])
      go none h h' = begun
      go (found i u) h h' =
          let G : Good P (suc i) [] (promote words i u (start s)) = riser-good P E pos words there K a b s F A I l m i u h in
          let G' : Good P (suc i) [] (promote words i u (start s')) =
          riser-good P E pos words there K a b s' F' A (subst (Inv (rejoin P there) 0 []) p I) l m i u h' in
          settle-same (suc i) (unfold start in promote-same P E words i u begun F F' (reached-low h) (reached-low h')) G G'

  pub drop-same : (there : ℕ → ℕ → Bool) → Simple P.n there → (a b : ℕ) (s s' : State) → Fits P s → Fits P s' → marks s ≡ marks s'
      → Dropped a b there P.edge → Inv (rejoin P there) 0 [] (marks s) → a < P.n → b < P.n → a ≢ b → s.mate a ≡ b
      → Same (settle (rules P) words (start_parted a b s)) (settle (rules P) words (start_parted a b s'))
  unfolding start_parted part
  drop-same there K a b s s' F F' p D I l lb ne e =
      settle-same (s.rank a)
      (record {
        marked = ap (λ (x : Marks). marks (part a (record { kind = s.kind; n = s.n; rank = x.rank; mate = x.mate; owns = s.owns }))) p;
        queues = ap (λ (x : Marks). join b (x.rank b) (join a (x.rank a) (λ i. []))) p;
        news = refl;
        draws = refl;
        falls = refl;
      })
      (parted-good P E pos words there K a b s F D I l lb ne e)
      (subst (λ (k : ℕ). Good P k [] (start_parted a b s')) (ap (λ (x : Marks). x.rank a) (sym p))
      (parted-good P E pos words there K a b s' F' D (subst (Inv (rejoin P there) 0 []) p I) l lb ne (ap (λ (x : Marks). x.mate a) (sym p) ∙ e)))
