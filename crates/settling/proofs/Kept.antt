-- What every run of moves keeps, and that new pairs have no say in it. Assumes nothing.
use mathlib.Core.Path.{◌≡◌, refl, sym, subst}
use mathlib.Core.Logic.{inl, inr}
use mathlib.Core.Bool.{Bool}
use mathlib.Core.List.{List}
use Prim.Native.Nat.{ℕ, zero, suc, ◌+◌, ◌≤◌, ◌<◌, ◌^◌}
use native.Mathlib.Omega.{arith}
use lib.Dec.{T}
use lib.ListN.{length}
use Rattle.model.specs.State.{Rules, rules, Kind, State, below}
use Rattle.model.specs.Moves.{Run, handed, drawn, draw, hand_over, fall, scan_from, take}
use Rattle.model.proofs.Tests.{le?, holds?, leb_yes, leb_no}
use Rattle.theory.proofs.Loops.{scan_upto, scan_from-loop}
use Rattle.moves.specs.Proper.{Proper, Ordered, ranked}
use Rattle.moves.proofs.Keeps.{hand-row}
use Rattle.moves.proofs.Held.{proper-pos, proper-few}
use Rattle.settling.proofs.Steps.{kept_then, kept-none, hand-kept, fall-kept, draw-kept, visited-kept}
use Rattle.settling.proofs.News.{same_of, same_then, handed-same, fall-same, draw-same, upto-none, upto-yes, upto-no, draw-room, upto-room, upto-falls, scan_from-same}
pub use Rattle.settling.proofs.Steps.{SameEdges}
pub use Rattle.settling.proofs.News.{SameRun}

-- the scan: the vertices below m that pass p, which are vertices of the state
pub upto-kept : {K : Kind} (words : List ℕ) (i : ℕ) (p : ℕ → Bool) (r : Run) → Proper K r.state → Ordered r.state → i ≤ K.top
    → ((w : ℕ) → T (p w) → w < r.state.n) → (m : ℕ) → SameEdges K r.state (scan_upto (rules K) words i p m r).state
upto-kept {K} words i p r q o k h zero = rw (upto-none (rules K) words i p r) (kept-none r.state q o)
upto-kept {K} words i p r q o k h (suc m) =
    let a : SameEdges K r.state (scan_upto (rules K) words i p m r).state = upto-kept words i p r q o k h m in
    elim (holds? (p m)) [
      | inl t ↦ rw (upto-yes (rules K) words i p m r t)
          (kept_then a (visited-kept words i m (scan_upto (rules K) words i p m r) a.proper a.ordered (omega (arith, a.size, h m t)) k))
      | inr t ↦ rw (upto-no (rules K) words i p m r t) a
    ]

pub scan_from-kept : {K : Kind} (words : List ℕ) (i v : ℕ) (r : Run) → Proper K r.state → Ordered r.state → i ≤ K.top
    → SameEdges K r.state (scan_from (rules K) words i v r).state
scan_from-kept {K} words i v r p o k =
    rw (scan_from-loop (rules K) words i v r) (upto-kept words i (r.state.owns v) r p o k (λ w t. (p.inside v w t).1) r.state.n)

-- The two ways of a taking.
module _ (R : Rules) (words : List ℕ) (i v : ℕ) (r : Run) where
  pub take-draws : R.thr i ≤ below (hand_over i v r.state) v i → take R words i v r ≡ draw words i v (handed i v r)
  unfolding take
  take-draws h = rw (leb_yes (R.thr i) (below (hand_over i v r.state) v i) h, take) refl

  pub take-falls : below (hand_over i v r.state) v i < R.thr i
      → take R words i v r ≡ scan_from R words i v (fall i v (handed i v r))
  unfolding take
  take-falls h = rw (leb_no (R.thr i) (below (hand_over i v r.state) v i) h, take) refl

pub take-kept : {K : Kind} (words : List ℕ) (i v : ℕ) (r : Run) → Proper K r.state → Ordered r.state → v < r.state.n → r.state.rank v ≡ suc i
    → i ≤ K.top → SameEdges K r.state (take (rules K) words i v r).state
unfolding hand_over fall ranked
take-kept {K} words i v r p o l e k =
    let s : State = hand_over i v r.state in
    let a : SameEdges K r.state s = hand-kept r.state p o i v l e in
    elim (le? (K.growth ^ i) (below s v i)) [
      | inl h ↦ rw (take-draws (rules K) words i v r h)
          (kept_then a (draw-kept words i v (handed i v r) a.proper a.ordered l k (omega (arith, proper-pos p i))))
      | inr h ↦
          let b : SameEdges K s (ranked v i s) = fall-kept s a.proper a.ordered i v l e (hand-row r.state p i v o e) in
          rw (take-falls (rules K) words i v r h) (kept_then (kept_then a b) (scan_from-kept words i v (fall i v (handed i v r)) b.proper b.ordered k))
    ]

pub take-room : {K : Kind} (words : List ℕ) (i v : ℕ) (r : Run) → Proper K r.state → Ordered r.state → v < r.state.n → r.state.rank v ≡ suc i
    → i ≤ K.top → {b : ℕ} → length words ≤ b → r.draws ≤ b
    → ((take (rules K) words i v r).draws ≤ b + suc K.shape.most) × ((take (rules K) words i v r).falls ≤ suc r.falls)
unfolding draw drawn fall hand_over
take-room {K} words i v r p o l e k {b} lent few =
    let s : State = hand_over i v r.state in
    elim (le? (K.growth ^ i) (below s v i)) [
      | inl h ↦ rw (take-draws (rules K) words i v r h) (omega (arith, draw-room words i lent v (handed i v r) few), omega arith)
      | inr h ↦
          let q : Run = fall i v (handed i v r) in
          let d = upto-room words i (rules K) (q.state.owns v) q.state.n q lent few in
          let f = upto-falls words i (rules K) (q.state.owns v) q.state.n q in
          rw (take-falls (rules K) words i v r h, scan_from-loop (rules K) words i v q) (omega (arith, d, proper-few p), omega (arith, f))
    ]

pub take_same : (R : Rules) (words : List ℕ) (i v : ℕ) (r q : Run) → SameRun r q → SameRun (take R words i v r) (take R words i v q)
take_same R words i v r q e =
    let a : SameRun (handed i v r) (handed i v q) = handed-same i v e in
    elim (le? (R.thr i) (below (hand_over i v r.state) v i)) [
      | inl h ↦ same_then (same_of (take-draws R words i v r h)) (same_then (draw-same words i v a)
          (same_of (sym (take-draws R words i v q (subst (λ (s : State). R.thr i ≤ below (hand_over i v s) v i) e.state h)))))
      | inr h ↦ same_then (same_of (take-falls R words i v r h)) (same_then (scan_from-same R words i v (fall-same i v a))
          (same_of (sym (take-falls R words i v q (subst (λ (s : State). below (hand_over i v s) v i < R.thr i) e.state h)))))
    ]
