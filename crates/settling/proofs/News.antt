-- New pairs have no say in a run, and how many draws and falls a move adds. Assumes nothing.
use mathlib.Core.Path.{◌≡◌, refl, sym, ap, ◌∙◌, subst}
use mathlib.Core.Logic.{inl, inr}
use mathlib.Core.Bool.{Bool}
use mathlib.Core.List.{List}
use Prim.Native.Nat.{ℕ, zero, suc, ◌+◌, ◌≤◌}
use native.Mathlib.Omega.{arith}
use lib.Dec.{T}
use lib.ListN.{length, get_or}
use Rattle.model.specs.Counting.{listed}
use Rattle.model.specs.State.{Rules, State, near, below}
use Rattle.model.specs.Words.{deciding, place}
use Rattle.model.specs.Moves.{Run, lifted, handed, leave, join, parting, part, rise, marry, hand_over, fall, chosen, spent, drawn, draw, promote, due, scan_from}
use Rattle.model.proofs.Tests.{holds?, T_true, T_false}
use Rattle.model.proofs.Deciding.{deciding-most}
use Rattle.theory.proofs.Loops.{scan_step, scan_upto, scan_from-loop}
use Rattle.settling.specs.Settling.{visited}

-- runs that differ in their new pairs alone
pub record SameRun (r q : Run) : Type 0 where
  pub state : r.state ≡ q.state
  pub queues : r.queues ≡ q.queues
  pub draws : r.draws ≡ q.draws
  pub falls : r.falls ≡ q.falls

pub same_then : {r q p : Run} → SameRun r q → SameRun q p → SameRun r p
same_then a b = record {
  state = a.state ∙ b.state;
  queues = a.queues ∙ b.queues;
  draws = a.draws ∙ b.draws;
  falls = a.falls ∙ b.falls;
}

pub same_of : {r q : Run} → r ≡ q → SameRun r q
same_of e = record {
  state = ap (λ (x : Run). x.state) e;
  queues = ap (λ (x : Run). x.queues) e;
  draws = ap (λ (x : Run). x.draws) e;
  falls = ap (λ (x : Run). x.falls) e;
}

-- the first half of a promotion, of a taking, and of a fall
lifted-same : (i u : ℕ) {r q : Run} → SameRun r q → SameRun (lifted i u r) (lifted i u q)
lifted-same i u e = record {
  state = ap (λ (s : State). rise i u (part u s)) e.state;
  queues = λ k. parting (e.state k) u (e.queues k);
  draws = e.draws;
  falls = e.falls;
}

pub handed-same : (i v : ℕ) {r q : Run} → SameRun r q → SameRun (handed i v r) (handed i v q)
handed-same i v e = record { state = ap (hand_over i v) e.state; queues = ap (leave v) e.queues; draws = e.draws; falls = e.falls }

pub fall-same : (i v : ℕ) {r q : Run} → SameRun r q → SameRun (fall i v r) (fall i v q)
unfolding fall
fall-same i v {r} e = record {
  state = λ k. (fall i v (record { state = e.state k; queues = r.queues; news = r.news; draws = r.draws; falls = r.falls })).state;
  queues = ap (join v i) e.queues;
  draws = e.draws;
  falls = ap suc e.falls;
}

module _ (words : List ℕ) (i u : ℕ) {r q : Run} (e : SameRun r q) where
  pub chosen-same : chosen words i u r ≡ chosen words i u q
  unfolding chosen
  chosen-same = λ k. get_or (listed (near (e.state k) u i) (e.state k).n)
      (place words (e.draws k) (length (listed (near (e.state k) u i) (e.state k).n))) 0

  pub draw-same : SameRun (draw words i u r) (draw words i u q)
  unfolding draw drawn spent
  draw-same = record {
    state = λ k. marry u (chosen-same k) (rise i (chosen-same k) (part (chosen-same k) (e.state k)));
    queues = λ k. parting (e.state k) (chosen-same k) (e.queues k);
    draws = λ k. suc (deciding words (e.draws k) (below (e.state k) u i));
    falls = e.falls;
  }

pub promote-same : (words : List ℕ) (i u : ℕ) {r q : Run} → SameRun r q → SameRun (promote words i u r) (promote words i u q)
unfolding promote
promote-same words i u e = draw-same words i u (lifted-same i u e)

-- A vertex's turn in the scan, and the turns of the vertices below m that pass p.
module _ (R : Rules) (words : List ℕ) (i : ℕ) where
  pub visited-yes : (w : ℕ) (r : Run) → T (due R i w r.state) → visited R words i w r ≡ promote words i w r
  unfolding visited
  visited-yes w r t = rw (T_true {b = due R i w r.state} t, visited) refl

  pub visited-no : (w : ℕ) (r : Run) → (T (due R i w r.state) → ⊥) → visited R words i w r ≡ r
  unfolding visited
  visited-no w r t = rw (T_false {b = due R i w r.state} t, visited) refl

  pub visited-same : (w : ℕ) {r q : Run} → SameRun r q → SameRun (visited R words i w r) (visited R words i w q)
  visited-same w {r} {q} e = elim (holds? (due R i w r.state)) [
    | inl t ↦ same_then (same_of (visited-yes w r t)) (same_then (promote-same words i w e)
        (same_of (sym (visited-yes w q (subst (λ (s : State). T (due R i w s)) e.state t)))))
    | inr t ↦ same_then (same_of (visited-no w r t)) (same_then e
        (same_of (sym (visited-no w q (λ h. t (subst (λ (s : State). T (due R i w s)) (sym e.state) h))))))
  ]

  module _ (p : ℕ → Bool) where
    pub upto-none : (r : Run) → scan_upto R words i p 0 r ≡ r
    unfolding scan_upto
    upto-none r = refl

    pub upto-yes : (m : ℕ) (r : Run) → T (p m) → scan_upto R words i p (suc m) r ≡ visited R words i m (scan_upto R words i p m r)
    unfolding scan_upto scan_step visited
    upto-yes m r t = rw (T_true {b = p m} t, scan_upto) refl

    pub upto-no : (m : ℕ) (r : Run) → (T (p m) → ⊥) → scan_upto R words i p (suc m) r ≡ scan_upto R words i p m r
    unfolding scan_upto
    upto-no m r t = rw (T_false {b = p m} t, scan_upto) refl

    pub upto-same : (m : ℕ) {r q : Run} → SameRun r q → SameRun (scan_upto R words i p m r) (scan_upto R words i p m q)
    upto-same zero {r} {q} e = same_then (same_of (upto-none r)) (same_then e (same_of (sym (upto-none q))))
    upto-same (suc m) {r} {q} e = elim (holds? (p m)) [
      | inl t ↦ same_then (same_of (upto-yes m r t)) (same_then (visited-same m (upto-same m e)) (same_of (sym (upto-yes m q t))))
      | inr t ↦ same_then (same_of (upto-no m r t)) (same_then (upto-same m e) (same_of (sym (upto-no m q t))))
    ]

  pub scan_from-same : (v : ℕ) {r q : Run} → SameRun r q → SameRun (scan_from R words i v r) (scan_from R words i v q)
  scan_from-same v {r} {q} e =
      same_then (same_of (scan_from-loop R words i v r)) (same_then
      (subst (λ (s : State). SameRun (scan_upto R words i (r.state.owns v) r.state.n r) (scan_upto R words i (s.owns v) s.n q)) e.state
      (upto-same (r.state.owns v) r.state.n e)) (same_of (sym (scan_from-loop R words i v q))))

-- How far the draws and falls come: where neither the words used nor those lent are more than b, one more at most for each vertex visited.
module _ (words : List ℕ) (i : ℕ) {b : ℕ} (lent : length words ≤ b) where
  pub draw-room : (u : ℕ) (r : Run) → r.draws ≤ b → (draw words i u r).draws ≤ suc b
  unfolding draw drawn spent
  draw-room u r h = omega (arith, deciding-most words r.draws (below r.state u i) b h lent)

  pub promote-room : (u : ℕ) (r : Run) → r.draws ≤ b → (promote words i u r).draws ≤ suc b
  unfolding promote
  promote-room u r h = draw-room u (lifted i u r) h

  visited-room : (R : Rules) (w : ℕ) (r : Run) → r.draws ≤ b → (visited R words i w r).draws ≤ suc b
  visited-room R w r h = elim (holds? (due R i w r.state)) [
    | inl t ↦ rw (visited-yes R words i w r t) (promote-room w r h)
    | inr t ↦ rw (visited-no R words i w r t) (omega arith)
  ]

module _ (words : List ℕ) (i : ℕ) where
  pub promote-falls : (u : ℕ) (r : Run) → (promote words i u r).falls ≡ r.falls
  unfolding promote draw drawn
  promote-falls u r = refl

  visited-falls : (R : Rules) (w : ℕ) (r : Run) → (visited R words i w r).falls ≡ r.falls
  visited-falls R w r = elim (holds? (due R i w r.state)) [
    | inl t ↦ rw (visited-yes R words i w r t) (promote-falls w r)
    | inr t ↦ rw (visited-no R words i w r t) refl
  ]

  pub upto-room : (R : Rules) (p : ℕ → Bool) (m : ℕ) (r : Run) {b : ℕ} → length words ≤ b → r.draws ≤ b → (scan_upto R words i p m r).draws ≤ b + m
  upto-room R p zero r lent h = rw (upto-none R words i p r) (omega arith)
  upto-room R p (suc m) r {b} lent h =
      let n = upto-room R p m r lent h in
      elim (holds? (p m)) [
        | inl t ↦ rw (upto-yes R words i p m r t) (omega (arith, visited-room words i {b = b + m} (omega arith) R m (scan_upto R words i p m r) n))
        | inr t ↦ rw (upto-no R words i p m r t) (omega (arith, n))
      ]

  pub upto-falls : (R : Rules) (p : ℕ → Bool) (m : ℕ) (r : Run) → (scan_upto R words i p m r).falls ≡ r.falls
  upto-falls R p zero r = ap (λ (x : Run). x.falls) (upto-none R words i p r)
  upto-falls R p (suc m) r = elim (holds? (p m)) [
    | inl t ↦ rw (upto-yes R words i p m r t) (visited-falls R m (scan_upto R words i p m r) ∙ upto-falls R p m r)
    | inr t ↦ rw (upto-no R words i p m r t) (upto-falls R p m r)
  ]
