-- Moves on bytes, one after the other: what the next one asks, and that the last bytes are the writing of the last state. Assumes nothing.
use mathlib.Core.Path.{◌≡◌, refl, sym, ap, ◌∙◌, subst}
use mathlib.Core.Logic.{◌≢◌}
use mathlib.Core.List.{List}
use Prim.Native.Nat.{ℕ, suc, ◌≤◌, ◌<◌}
use native.Mathlib.Omega.{arith}
use lib.Dec.{T}
use Rattle.model.specs.Shape.{Shape}
use Rattle.model.specs.State.{Kind, State, near, below}
use Rattle.model.specs.Bytes.{kind_at, top_at, phi_at, read, write}
use Rattle.model.specs.Moves.{Run, lifted, part, rise, marry, chosen, spent, drawn, draw, promote}
use Rattle.model.proofs.Limits.{phi-above}
use Rattle.theory.specs.Waiting.{marks, queues_in, part_queue}
use Rattle.theory.proofs.Fits.{lift-is}
use Rattle.moves.specs.Proper.{Proper, Ordered, Held, RowBelow, took_over}
use Rattle.moves.proofs.Edges.{near-low}
use Rattle.moves.proofs.Keeps.{part-proper, took-proper, took-row, ranked-row, rise-halves}
use Rattle.moves.proofs.Held.{reads_as, top-as, held_of, held_small, held-phi}
use Rattle.settling.specs.Settling.{running, HoldsWaitingBut, HoldsWaiting, Left, draw_limit}
use Rattle.settling.specs.declared.progress.Progress.{Progress}
use Rattle.settling.proofs.Steps.{SameEdges, lift-below, lift-kept, near-inside, near-other}
use Rattle.settling.proofs.News.{SameRun, draw-same}
use Rattle.settling.proofs.Holding.{risen-holds, risen-levels, drawn-holds, drawn-levels}

-- the queues that a queue makes of another state's ranks
pub levels-as : (queue : List ℕ) {s s' : State} → s ≡ s' → queues_in s.rank queue ≡ queues_in s'.rank queue
levels-as queue e = ap (λ (s : State). queues_in s.rank queue) e

-- what is left of a run is left of one that differs in its new pairs alone
pub left-same : {r q : Run} {bs : List ℕ} {p : Progress} → SameRun r q → Left r bs p → Left q bs p
left-same {r} {q} {bs} {p} e a = record {
  rack = a.rack ∙ ap write e.state;
  queues = levels-as p.queue (sym e.state) ∙ a.queues ∙ e.queues;
  draws = a.draws ∙ e.draws;
  falls = a.falls ∙ e.falls;
  holds = subst (HoldsWaiting p.queue) e.state a.holds;
}

-- where its state is proper, the bytes that a run leaves hold that state
pub left-run : {K : Kind} {r : Run} {bs : List ℕ} {p : Progress} → Left r bs p → Proper K r.state → SameRun (running K.shape bs p) r
left-run {K} {r} {bs} {p} a h =
    let e : read K.shape bs ≡ r.state = reads_as bs r.state a.rack h in
    record { state = e; queues = levels-as p.queue e ∙ a.queues; draws = a.draws; falls = a.falls }

-- what a move of the vertices in the queue alone leaves of a progress
abbrev pub requeued : Progress → List ℕ → Progress
requeued p queue = record { queue = queue; tally = p.tally }

-- the bytes hold an ordered state in which v stands below level i
pub record Rising (S : Shape) (bs : List ℕ) (i v : ℕ) : Type 0 where
  pub held : Held S bs
  pub ordered : Ordered (read S bs)
  pub inside : v < (read S bs).n
  pub low : (read S bs).rank v ≤ i
  pub level : i ≤ top_at bs

-- what a rise of v to level i asks of a state
abbrev pub Rises : List ℕ → ℕ → ℕ → State → Type 0
Rises bs i v s = ((v < s.n) × (s.rank v ≤ i) × (i ≤ top_at bs)) × ((w : ℕ) → T (s.owns v w) → s.rank w ≤ i)

-- what a draw at u among k asks of the bytes, their state, and the queue and the tally
abbrev pub Draws : Shape → List ℕ → ℕ → ℕ → ℕ → Progress → State → Type 0
Draws S b i u k p s =
    (Held S b × Ordered s) × (
    ((u < s.n) × (s.mate u ≡ u) × (s.rank u ≡ suc i) × (i ≤ top_at b))
    × ((RowBelow i u s × (1 ≤ below s u i) × (k ≡ below s u i)) × (HoldsWaitingBut u p.queue s × (p.tally.draws ≤ draw_limit)))
    )

pub draws-of : {K : Kind} {b : List ℕ} (s : State) → b ≡ write s → Proper K s → (i u k : ℕ) (p : Progress) → Draws K.shape b i u k p s
    → Draws K.shape b i u k p (read K.shape b)
draws-of {K} {b} s e h i u k p a = subst (Draws K.shape b i u k p) (sym (reads_as b s e h)) a

-- after its rise, a vertex's row holds exactly its neighbours below the level
lift-row : {K : Kind} (s : State) → Proper K s → Ordered s → (i u : ℕ) → u < s.n → s.rank u ≤ i → RowBelow i u (rise i u (part u s))
unfolding part
lift-row {K} s p o i u l m =
    let q : Proper K (part u s) = part-proper s p u l in
    subst (RowBelow i u) (rise-halves (part u s) q i u)
    (ranked-row (took_over i u (part u s)) (took-proper (part u s) q i u l) i u (suc i) (took-row (part u s) q i u (λ w t. omega (arith, o u w t))))

-- the state after v is parted, and after it has risen
module _ {S : Shape} {bs : List ℕ} {i v : ℕ} (a : Rising S bs i v) where
  parted-proper : Proper (kind_at S bs) (part v (read S bs))
  parted-proper = part-proper (read S bs) a.held.proper v a.inside

  lifted-kept : SameEdges (kind_at S bs) (read S bs) (rise i v (part v (read S bs)))
  lifted-kept = lift-kept (read S bs) a.held.proper a.ordered i v a.inside a.low a.level

module _ {S : Shape} {bs : List ℕ} {i v : ℕ} (a : Rising S bs i v) {b : List ℕ} where
  -- the bytes after v is parted
  parted-read : b ≡ write (part v (read S bs)) → read S b ≡ part v (read S bs)
  parted-read e = reads_as b (part v (read S bs)) e (parted-proper a)

  pub parted-rises : b ≡ write (part v (read S bs)) → (Held S b × Ordered (read S b)) × Rises b i v (read S b)
  unfolding part
  parted-rises e = (
    (held_of b (part v (read S bs)) e (parted-proper a), subst Ordered (sym (parted-read e)) a.ordered),
    subst (Rises b i v) (sym (parted-read e)) (
      (a.inside, a.low, omega (arith, a.level, top-as b (part v (read S bs)) e (parted-proper a))),
      (λ w t. omega (arith, a.low, a.ordered v w t)),
    ),
  )

  pub parted-lifts : b ≡ write (part v (read S bs)) → {d : List ℕ} → d ≡ write (rise i v (read S b)) → d ≡ write (rise i v (part v (read S bs)))
  parted-lifts e f = f ∙ ap (λ (s : State). write (rise i v s)) (parted-read e)

  -- the bytes after v is parted and has risen
  pub lifted-read : b ≡ write (rise i v (part v (read S bs))) → read S b ≡ rise i v (part v (read S bs))
  lifted-read e = reads_as b (rise i v (part v (read S bs))) e (lifted-kept a).proper

  pub lifted-held : b ≡ write (rise i v (part v (read S bs))) → Held S b
  lifted-held e = held_of b (rise i v (part v (read S bs))) e (lifted-kept a).proper

  -- v draws next
  module _ (e : b ≡ write (rise i v (part v (read S bs)))) (p : Progress) {queue : List ℕ} (h : HoldsWaiting p.queue (read S bs))
      (q : queue ≡ part_queue (marks (read S bs)) v p.queue) where
    -- its count before the rise is how many it draws among
    lifted-count : phi_at S bs v i ≡ below (rise i v (part v (read S bs))) v i
    lifted-count =
        held-phi a.held v i (held_small a.held v a.inside) a.level
        ∙ phi-above (read S bs) v i a.low ∙ sym (lift-below (read S bs) a.held.proper a.ordered i v a.inside)

    pub lifted-draws : (k : ℕ) → 1 ≤ below (read S bs) v i → p.tally.draws ≤ draw_limit → k ≡ phi_at S bs v i → Draws S b i v k (requeued p queue) (read S b)
    lifted-draws k n x g =
        let s : State = rise i v (part v (read S bs)) in
        draws-of s e (lifted-kept a).proper i v k (requeued p queue) (
          (lifted-held e, (lifted-kept a).ordered),
          (
            (
              omega (arith, (lifted-kept a).size, a.inside),
              (lift-is i v (read S bs)).mate-w,
              (lift-is i v (read S bs)).rank-w,
              omega (arith, a.level, top-as b s e (lifted-kept a).proper),
            ),
            (
              (
                lift-row (read S bs) a.held.proper a.ordered i v a.inside a.low,
                omega (arith, lift-below (read S bs) a.held.proper a.ordered i v a.inside),
                g ∙ lifted-count,
              ),
              (risen-holds (read S bs) p.queue v h q i a.inside, x),
            ),
          ),
        )

    pub promoted-left : (words : List ℕ) {d : List ℕ} {r : Progress} → Left (draw words i v (running S b (requeued p queue))) d r
        → Left (promote words i v (running S bs p)) d r
    unfolding promote
    promoted-left words c =
        let same : SameRun (running S b (requeued p queue)) (lifted i v (running S bs p)) = record {
          state = lifted-read e;
          queues = levels-as queue (lifted-read e) ∙ risen-levels (read S bs) p.queue v h q i;
          draws = refl;
          falls = refl;
        } in
        left-same (draw-same words i v same) c

-- y is a neighbour of u below level i
pub record Drawing (S : Shape) (bs : List ℕ) (i u y : ℕ) : Type 0 where
  pub rising : Rising S bs i y
  pub inside : u < (read S bs).n
  pub free : (read S bs).mate u ≡ u
  pub rank : (read S bs).rank u ≡ suc i
  pub near : T (near (read S bs) u i y)

pub drawing-of : {S : Shape} {bs : List ℕ} {i u y : ℕ} → Held S bs → Ordered (read S bs)
    → (u < (read S bs).n) × ((read S bs).mate u ≡ u) × ((read S bs).rank u ≡ suc i) × (i ≤ top_at bs) → T (near (read S bs) u i y) → Drawing S bs i u y
drawing-of {S} {bs} {i} {u} {y} h o l n = record {
  rising = record { held = h; ordered = o; inside = near-inside (read S bs) h.proper u i y n; low = near-low (read S bs) u i y n; level = l.3 };
  inside = l.0;
  free = l.1;
  rank = l.2;
  near = n;
}

pub drawing-other : {S : Shape} {bs : List ℕ} {i u y : ℕ} → Drawing S bs i u y → u ≢ y
drawing-other {S} {bs} {i} {u} {y} a = near-other (read S bs) a.rising.held.proper u i y a.near

-- u has drawn y, which is parted and has risen
module _ {S : Shape} {bs : List ℕ} {i u y : ℕ} (a : Drawing S bs i u y) {b : List ℕ} (e : b ≡ write (rise i y (part y (read S bs)))) where
  pub lifted-pairs : Held S b × ((u < (read S b).n) × (y < (read S b).n) × (u ≢ y))
  unfolding rise part
  lifted-pairs = (
    lifted-held a.rising e,
    subst (λ (s : State). (u < s.n) × (y < s.n) × (u ≢ y)) (sym (lifted-read a.rising e)) (a.inside, a.rising.inside, drawing-other a),
  )

  module _ (p : Progress) {queue : List ℕ} (h : HoldsWaitingBut u p.queue (read S bs)) (q : queue ≡ part_queue (marks (read S bs)) y p.queue) where
    pub drawn-left : (words : List ℕ) {d : List ℕ} {r : Progress} → y ≡ chosen words i u (running S bs p) → d ≡ write (marry u y (read S b))
        → (r.tally.draws ≡ spent words i u (running S bs p)) × (r.tally.falls ≡ p.tally.falls) × (r.queue ≡ queue) → Left (draw words i u (running S bs p)) d r
    unfolding draw drawn chosen spent
    drawn-left words {d} {r} c f g =
        subst (λ (x : ℕ). Left (drawn i u x (spent words i u (running S bs p)) (running S bs p)) d r) c (record {
          rack = f ∙ ap (λ (s : State). write (marry u y s)) (lifted-read a.rising e);
          queues = drawn-levels (read S bs) p.queue h (g.2 ∙ q) i (drawing-other a) a.free a.rank a.rising.inside;
          draws = g.0;
          falls = g.1;
          holds = drawn-holds (read S bs) p.queue h (g.2 ∙ q) i (drawing-other a) a.free a.rank a.rising.inside;
        })
