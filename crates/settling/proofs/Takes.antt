-- A taking on bytes: v leaves the queue and hands over, then it draws, or it falls, joins again, and its row is gone through. What each asks,
-- and what is left in the end. Assumes nothing.
use mathlib.Core.Path.{◌≡◌, refl, sym, ap, ◌∙◌, subst}
use mathlib.Core.Logic.{inl, inr}
use mathlib.Core.Bool.{Bool}
use mathlib.Core.List.{List}
use Prim.Native.Nat.{ℕ, zero, suc, ◌≤◌, ◌<◌, ◌^◌}
use native.Mathlib.Omega.{arith}
use lib.Dec.{T}
use Rattle.model.specs.Shape.{Shape}
use Rattle.model.specs.State.{Kind, Rules, State, below, phi}
use Rattle.model.specs.Bytes.{rules_at, kind_at, growth_at, top_at, read, write}
use Rattle.model.specs.Moves.{Run, without, handed, hand_over, fall, draw, due, scan_from, take}
use Rattle.model.proofs.Tests.{holds?}
use Rattle.theory.specs.Waiting.{join_queue}
use Rattle.theory.proofs.Loops.{scan_upto, scan_from-loop}
use Rattle.moves.specs.Proper.{Ordered, Held, RowBelow, ranked}
use Rattle.moves.proofs.Held.{proper-pos, kind-as, top-as, rules-as, reads_as, held_of}
use Rattle.moves.proofs.Keeps.{hand-row, ranked-row}
use Rattle.settling.specs.Settling.{running, HoldsWaitingBut, HoldsWaiting, Falling, Left, visited, draw_limit, take_limit}
use Rattle.settling.specs.declared.progress.Progress.{Progress}
use Rattle.settling.proofs.Steps.{hand-kept, fall-kept, due-reached}
use Rattle.settling.proofs.News.{draw-same, fall-same, scan_from-same, visited-no, upto-none, upto-yes, upto-no}
use Rattle.settling.proofs.Kept.{SameEdges, SameRun, take-draws, take-falls}
use Rattle.settling.proofs.Holding.{left-holds, left-levels, fallen-holds, fallen-levels}
use Rattle.settling.proofs.Written.{Draws, draws-of, levels-as, left-same, requeued}

-- v, waiting at level i, has left the queue and handed its edges of that level on, and k vertices are below: bs and p before, b and the queue
-- after
pub record Handed (S : Shape) (bs : List ℕ) (p : Progress) (i v k : ℕ) (b queue : List ℕ) : Type 0 where
  pub held : Held S bs
  pub ordered : Ordered (read S bs)
  pub inside : v < (read S bs).n
  pub free : (read S bs).mate v ≡ v
  pub rank : (read S bs).rank v ≡ suc i
  pub level : i ≤ top_at bs
  pub holds : HoldsWaiting p.queue (read S bs)
  pub left : queue ≡ without v p.queue
  pub bytes : b ≡ write (hand_over i v (read S bs))
  pub size : k ≡ below (hand_over i v (read S bs)) v i

module _ {S : Shape} {bs : List ℕ} {p : Progress} {i v k : ℕ} {b queue : List ℕ} (a : Handed S bs p i v k b queue) where
  handed-kept : SameEdges (kind_at S bs) (read S bs) (hand_over i v (read S bs))
  handed-kept = hand-kept (read S bs) a.held.proper a.ordered i v a.inside a.rank

  handed-read : read S b ≡ hand_over i v (read S bs)
  handed-read = reads_as b (hand_over i v (read S bs)) a.bytes handed-kept.proper

  -- the settings stay
  pub handed-growth : growth_at b ≡ growth_at bs
  handed-growth = ap (λ (K : Kind). K.growth) (kind-as b (hand_over i v (read S bs)) a.bytes handed-kept.proper)

  handed-top : top_at b ≡ top_at bs
  handed-top = top-as b (hand_over i v (read S bs)) a.bytes handed-kept.proper

  handed-rules : rules_at b ≡ rules_at bs
  handed-rules = rules-as b (hand_over i v (read S bs)) a.bytes handed-kept.proper

  pub handed-held : Held S b × Ordered (read S b)
  handed-held = (held_of b (hand_over i v (read S bs)) a.bytes handed-kept.proper, subst Ordered (sym handed-read) handed-kept.ordered)

  handed-row : RowBelow i v (hand_over i v (read S bs))
  handed-row = hand-row (read S bs) a.held.proper i v a.ordered a.rank

  -- a hand-over changes no mate and no rank
  handed-holds : HoldsWaitingBut v queue (hand_over i v (read S bs))
  unfolding hand_over
  handed-holds = let h : HoldsWaitingBut v queue (read S bs) = left-holds (read S bs) p.queue a.holds a.left in record { lists = h.lists; paired = h.paired }

  pub handed-waits : HoldsWaitingBut v queue (read S b)
  handed-waits = subst (HoldsWaitingBut v queue) (sym handed-read) handed-holds

  pub handed-falls : {bar : ℕ} → bar ≡ growth_at b ^ i → Falling S b i v k bar
  unfolding hand_over
  handed-falls e = record {
    inside = omega (arith, a.inside, ap (λ (s : State). s.n) handed-read);
    free = ap (λ (s : State). s.mate v) handed-read ∙ a.free;
    rank = ap (λ (s : State). s.rank v) handed-read ∙ a.rank;
    level = omega (arith, a.level, handed-top);
    row = subst (RowBelow i v) (sym handed-read) handed-row;
    size = a.size ∙ ap (λ (s : State). below s v i) (sym handed-read);
    barred = e;
  }

  pub handed-draws : growth_at bs ^ i ≤ k → p.tally.draws ≤ draw_limit → Draws S b i v k (requeued p queue) (read S b)
  unfolding hand_over
  handed-draws n x =
      draws-of (hand_over i v (read S bs)) a.bytes handed-kept.proper i v k (requeued p queue) (
        (handed-held.0, handed-kept.ordered),
        (
          (a.inside, a.free, a.rank, omega (arith, a.level, handed-top)),
          ((handed-row, omega (arith, proper-pos a.held.proper i, a.size), a.size), (handed-holds, x)),
        ),
      )

  -- the run that goes on from there is the definition's
  handed-run : SameRun (running S b (requeued p queue)) (handed i v (running S bs p))
  unfolding hand_over
  handed-run = record { state = handed-read; queues = levels-as queue handed-read ∙ left-levels (read S bs) p.queue v a.left; draws = refl; falls = refl }

  pub taken-draws : (words : List ℕ) {d : List ℕ} {r : Progress} → growth_at bs ^ i ≤ k
      → Left (draw words i v (running S b (requeued p queue))) d r → Left (take (rules_at bs) words i v (running S bs p)) d r
  taken-draws words n c =
      rw (take-draws (rules_at bs) words i v (running S bs p) (omega (arith, a.size))) (left-same (draw-same words i v handed-run) c)

  pub taken-falls : (words : List ℕ) {d : List ℕ} {r : Progress} → k < growth_at bs ^ i
      → Left (scan_from (rules_at b) words i v (fall i v (running S b (requeued p queue)))) d r → Left (take (rules_at bs) words i v (running S bs p)) d r
  taken-falls words {d} {r} n c =
      rw (take-falls (rules_at bs) words i v (running S bs p) (omega (arith, a.size)))
      (left-same (scan_from-same (rules_at bs) words i v (fall-same i v handed-run))
      (subst (λ (R : Rules). Left (scan_from R words i v (fall i v (running S b (requeued p queue)))) d r) handed-rules c))

-- v has fallen from level i and has joined the end of its new level: bs and p before, b and p' after
pub record Fallen (S : Shape) (bs : List ℕ) (p : Progress) (i v k bar : ℕ) (b : List ℕ) (p' : Progress) : Type 0 where
  pub held : Held S bs
  pub ordered : Ordered (read S bs)
  pub falls : Falling S bs i v k bar
  pub holds : HoldsWaitingBut v p.queue (read S bs)
  pub joined : p'.queue ≡ join_queue v i p.queue
  pub draws : p'.tally.draws ≡ p.tally.draws
  pub more : p'.tally.falls ≡ suc p.tally.falls
  pub bytes : b ≡ write (ranked v i (read S bs))

-- where nobody of the row is due, nothing happens in the scan
upto-quiet : (R : Rules) (words : List ℕ) (i : ℕ) (p : ℕ → Bool) (m : ℕ) (r : Run) → ((w : ℕ) → T (p w) → T (due R i w r.state) → ⊥)
    → scan_upto R words i p m r ≡ r
upto-quiet R words i p zero r h = upto-none R words i p r
upto-quiet R words i p (suc m) r h =
    let e : scan_upto R words i p m r ≡ r = upto-quiet R words i p m r h in
    elim (holds? (p m)) [
      | inl t ↦ upto-yes R words i p m r t ∙ ap (visited R words i m) e ∙ visited-no R words i m r (h m t)
      | inr t ↦ upto-no R words i p m r t ∙ e
    ]

-- what the scan after a fall asks
abbrev pub Scans : Shape → List ℕ → ℕ → ℕ → ℕ → Progress → State → Type 0
Scans S b i v bar p s =
    (Held S b × Ordered s)
    × (((v < s.n) × (i ≤ top_at b) × RowBelow i v s × (bar ≡ growth_at b ^ i)) × (HoldsWaiting p.queue s × (p.tally.draws ≤ take_limit S)))

module _ {S : Shape} {bs : List ℕ} {p : Progress} {i v k bar : ℕ} {b : List ℕ} {p' : Progress} (a : Fallen S bs p i v k bar b p') where
  fallen-kept : SameEdges (kind_at S bs) (read S bs) (ranked v i (read S bs))
  fallen-kept = fall-kept (read S bs) a.held.proper a.ordered i v a.falls.inside a.falls.rank a.falls.row

  fallen-read : read S b ≡ ranked v i (read S bs)
  fallen-read = reads_as b (ranked v i (read S bs)) a.bytes fallen-kept.proper

  -- the settings stay
  fallen-top : top_at b ≡ top_at bs
  fallen-top = top-as b (ranked v i (read S bs)) a.bytes fallen-kept.proper

  fallen-rules : rules_at b ≡ rules_at bs
  fallen-rules = rules-as b (ranked v i (read S bs)) a.bytes fallen-kept.proper

  pub fallen-scans : p.tally.draws ≤ take_limit S → Scans S b i v bar p' (read S b)
  fallen-scans x =
      subst (Scans S b i v bar p') (sym fallen-read) (
        (held_of b (ranked v i (read S bs)) a.bytes fallen-kept.proper, fallen-kept.ordered),
        (
          (
            omega (arith, fallen-kept.size, a.falls.inside),
            omega (arith, a.falls.level, fallen-top),
            ranked-row (read S bs) a.held.proper i v i a.falls.row,
            a.falls.barred ∙ sym (ap (λ (R : Rules). R.thr i) fallen-rules),
          ),
          (fallen-holds (read S bs) p.queue a.holds i a.joined a.falls.inside a.falls.free, omega (arith, a.draws)),
        ),
      )

  -- the run that goes on from there is the definition's
  fallen-run : SameRun (running S b p') (fall i v (running S bs p))
  unfolding fall ranked
  fallen-run = record {
    state = fallen-read;
    queues = levels-as p'.queue fallen-read ∙ fallen-levels (read S bs) p.queue a.holds i a.joined a.falls.inside a.falls.free;
    draws = a.draws;
    falls = a.more;
  }

  pub fallen-left : (words : List ℕ) {d : List ℕ} {r : Progress} → Left (scan_from (rules_at b) words i v (running S b p')) d r
      → Left (scan_from (rules_at bs) words i v (fall i v (running S bs p))) d r
  fallen-left words {d} {r} c =
      left-same (scan_from-same (rules_at bs) words i v fallen-run) (subst (λ (R : Rules). Left (scan_from R words i v (running S b p')) d r) fallen-rules c)

  -- all counts at i are below the threshold: nobody rises
  pub fallen-low : (words : List ℕ) → ((w : ℕ) → T ((read S bs).owns v w) → phi (ranked v i (read S bs)) w i < bar) → p.tally.draws ≤ take_limit S
      → Left (scan_from (rules_at bs) words i v (fall i v (running S bs p))) b p'
  unfolding fall ranked
  fallen-low words low x =
      let g = fallen-scans x in
      let r : Run = fall i v (running S bs p) in
      let quiet : (w : ℕ) → T ((read S bs).owns v w) → T (due (rules_at bs) i w r.state) → ⊥ =
      λ w o u. omega (arith, low w o, a.falls.barred, due-reached (rules_at bs) i w r.state u) in
      rw (scan_from-loop (rules_at bs) words i v r ∙ upto-quiet (rules_at bs) words i ((read S bs).owns v) (read S bs).n r quiet)
      (left-same fallen-run (record { rack = g.0.0.written; queues = refl; draws = refl; falls = refl; holds = g.1.1.0 }))
