-- The queue through each move: it holds exactly the vertices that wait, and the queues of the levels that it makes are the definition's.
-- Assumes nothing.
use mathlib.Core.Path.{◌≡◌, refl, sym, ap, ◌∙◌, subst}
use mathlib.Core.Logic.{◌≢◌, inl, inr}
use mathlib.Core.List.{List, [], ◌∷◌}
use Prim.Native.Nat.{ℕ, suc, ◌<◌}
use native.Mathlib.Omega.{arith}
use lib.ListN.{length}
use Rattle.model.specs.Lists.{All, Mem, Distinct}
use Rattle.model.specs.State.{State}
use Rattle.model.specs.Moves.{without, leave, join, parting, part, rise, marry}
use Rattle.model.proofs.Lists.{pigeonhole, upd_same, upd_other}
use Rattle.theory.specs.Waiting.{marks, Waits, queues_in, join_queue, part_queue}
use Rattle.theory.proofs.Marks.{Fall}
use Rattle.theory.proofs.Fits.{lift-is, marry-is}
use Rattle.theory.proofs.Invariant.{Draw}
use Rattle.theory.proofs.Arrivals.{lists-without, queues-leave, queues-part}
use Rattle.theory.proofs.Queues.{mate-mated, mate-inside, lift-paired, pair-paired, fall-paired}
use Rattle.theory.proofs.Waiting.{risen-lists, risen-queues, drawn-lists, drawn-queues, fallen-lists, fallen-queues}
use Rattle.moves.specs.Proper.{ranked}
use Rattle.settling.specs.Settling.{HoldsOnly, HoldsWaitingBut, HoldsWaiting, CanPart}

-- every member of a list, one by one
pub all_of : (P : ℕ → Type 0) (l : List ℕ) → ((v : ℕ) → Mem v l → P v) → All P l
all_of P [] h = tt
all_of P (x ∷ l) h = (h x (inl refl), all_of P l (λ v m. h v (inr m)))

-- a queue of vertices below n that lacks one of them is shorter than n
spare : (n z : ℕ) (l : List ℕ) → Distinct l → ((v : ℕ) → Mem v l → v < n) → z < n → (Mem z l → ⊥) → length l < n
spare n z l once only inside out =
    omega (
      arith,
      pigeonhole n (z ∷ l) (all_of (λ y. z ≢ y) l (λ v m f. out (subst (λ (x : ℕ). Mem x l) (sym f) m)), once)
          (inside, all_of (λ v. v < n) l only),
    )

-- those of whom W holds wait
module _ (W : ℕ → Type 0) {queue : List ℕ} {s : State} (wait : (v : ℕ) → W v → Waits s.n (marks s) v) (h : HoldsOnly W queue s) where
  -- a vertex below n that isn't in the queue leaves a place
  pub place-for : (z : ℕ) → z < s.n → (W z → ⊥) → length queue < s.n
  place-for z inside out =
      spare s.n z queue h.lists.once (λ v m. (wait v (h.lists.only v m)).0) inside (λ m. out (h.lists.only z m))

  can-part : (v : ℕ) → CanPart s v queue
  can-part v = record {
    once = h.lists.once;
    absent = λ e m. omega (arith, e, (wait v (h.lists.only v m)).1.1);
    room = λ ne. (
      omega (arith, h.paired.high v ne, h.paired.level v),
      place-for (s.mate v) (mate-inside h.paired v ne) (λ w. mate-mated h.paired v ne (wait (s.mate v) w).1.0),
    );
  }

pub holds-part : {queue : List ℕ} {s : State} → HoldsWaiting queue s → (v : ℕ) → CanPart s v queue
holds-part {s = s} h = can-part (Waits s.n (marks s)) (λ x w. w) h

module _ {queue : List ℕ} {s : State} (u : ℕ) (h : HoldsWaitingBut u queue s) where
  pub but-part : (v : ℕ) → CanPart s v queue
  but-part = can-part (λ x. Waits s.n (marks s) x × (x ≢ u)) (λ x w. w.0) h

  pub but-place : u < s.n → length queue < s.n
  but-place b = place-for (λ x. Waits s.n (marks s) x × (x ≢ u)) (λ x w. w.0) h u b (λ w. w.1 refl)

-- The moves, each from the queue before it to the one that its function leaves.
module _ (s : State) (queue : List ℕ) {queue' : List ℕ} where
  -- v is parted and rises
  module _ (v : ℕ) (h : HoldsWaiting queue s) (q : queue' ≡ part_queue (marks s) v queue) (i : ℕ) where
    pub risen-holds : v < s.n → HoldsWaitingBut v queue' (rise i v (part v s))
    unfolding rise part
    risen-holds b = record { lists = rw q (risen-lists h.paired (lift-is i v s) h.lists); paired = lift-paired h.paired (lift-is i v s) b }

    pub risen-levels : queues_in (rise i v (part v s)).rank queue' ≡ parting s v (queues_in s.rank queue)
    unfolding rise part
    risen-levels = rw q (sym (sym (queues-part s v queue) ∙ risen-queues h.paired (lift-is i v s) h.lists))

  -- y is parted, rises and is the mate of u, which stands at level i without one
  module _ {u y : ℕ} (h : HoldsWaitingBut u queue s) (q : queue' ≡ part_queue (marks s) y queue) (i : ℕ)
      (ne : u ≢ y) (hu : s.mate u ≡ u) (ru : s.rank u ≡ suc i) (b : y < s.n) where
    draws : Draw i u y (marks s) (marks (marry u y (rise i y (part y s))))
    draws = record { mid = marks (rise i y (part y s)); up = lift-is i y s; two = marry-is u y (rise i y (part y s)) ne }

    apart : u ≢ s.mate y
    apart e = ne (sym hu ∙ ap s.mate e ∙ h.paired.back y)

    pub drawn-holds : HoldsWaiting queue' (marry u y (rise i y (part y s)))
    unfolding marry rise part
    drawn-holds = record {
      lists = rw q (drawn-lists h.paired ne hu draws h.lists);
      paired = pair-paired (lift-paired h.paired (lift-is i y s) b) (marry-is u y (rise i y (part y s)) ne)
          ((lift-is i y s).mate-o u ne apart ∙ hu) (lift-is i y s).mate-w ((lift-is i y s).rank-o u ne ∙ ru ∙ sym (lift-is i y s).rank-w)
          (omega (arith, (lift-is i y s).rank-o u ne, ru));
    }

    pub drawn-levels : queues_in (marry u y (rise i y (part y s))).rank queue' ≡ parting s y (queues_in s.rank queue)
    unfolding marry rise part
    drawn-levels = rw q (sym (sym (queues-part s y queue) ∙ drawn-queues h.paired ne hu draws h.lists))

  -- v is taken from the queue
  pub left-holds : {v : ℕ} → HoldsWaiting queue s → queue' ≡ without v queue → HoldsWaitingBut v queue' s
  left-holds {v} h q = record { lists = rw q (lists-without v h.lists); paired = h.paired }

  pub left-levels : (v : ℕ) → queue' ≡ without v queue → queues_in s.rank queue' ≡ leave v (queues_in s.rank queue)
  left-levels v q = rw q (queues-leave s.rank v queue)

  -- v falls from level i
  module _ {v : ℕ} (h : HoldsWaitingBut v queue s) (i : ℕ) (q : queue' ≡ join_queue v i queue) (b : v < s.n) (m : s.mate v ≡ v) where
    falls : Fall i v (marks s) (marks (ranked v i s))
    unfolding ranked
    falls = record { rank-v = upd_same s.rank v i v refl; rank-o = λ x d. upd_other s.rank v i x d; mate-o = λ x. refl }

    pub fallen-holds : HoldsWaiting queue' (ranked v i s)
    unfolding ranked
    fallen-holds = record { lists = rw q (fallen-lists falls b m h.lists); paired = fall-paired h.paired falls m b }

    pub fallen-levels : queues_in (ranked v i s).rank queue' ≡ join v i (queues_in s.rank queue)
    unfolding ranked
    fallen-levels = rw q (sym (fallen-queues falls b m h.lists))
