-- The queues of a run hold exactly the vertices that wait, each once, at its own level: they are made of one queue of all in the order
-- of their arrival. Every move keeps this, whichever neighbour is drawn. Assumes nothing.
use mathlib.Core.Path.{◌≡◌, sym, ap, ◌∙◌, subst}
use mathlib.Core.Logic.{◌≢◌, ◌⊎◌, inl, inr}
use mathlib.Core.List.{List, []}
use Prim.Native.Nat.{ℕ, suc, ◌≤◌, ◌<◌}
use native.Mathlib.Omega.{arith}
use Rattle.model.specs.Lists.{Mem, Lists}
use Rattle.model.specs.Moves.{without, leave}
use Rattle.model.proofs.Tests.{eq?, le?}
use Rattle.theory.specs.Waiting.{Waits, Paired, queues_in}
use Rattle.theory.specs.Serving.{PendingAt}
use Rattle.theory.proofs.Marks.{Marks, Setting, Lift, Pair, Fall, Inv}
use Rattle.theory.proofs.Arrivals.{lists-none, lists-without, rank-only, rank-whole, queues-leave, queues-none}

-- the queues are made of one queue of all, which lists W
pub record QueuedAs (W : ℕ → Type 0) (rank : ℕ → ℕ) (q : ℕ → List ℕ) : Type 0 where
  pub all : List ℕ
  pub lists : Lists W all
  pub queues : q ≡ queues_in rank all

-- the queues hold exactly the vertices that wait
abbrev pub Queued : ℕ → Marks → (ℕ → List ℕ) → Type 0
Queued n s q = QueuedAs (Waits n s) s.rank q

-- .. but for u, which is about to draw or to fall
abbrev pub QueuedBut : ℕ → ℕ → Marks → (ℕ → List ℕ) → Type 0
QueuedBut u n s q = QueuedAs (λ v. Waits n s v × (v ≢ u)) s.rank q

-- the queue of a level has exactly the vertices that are pending there
module _ {n : ℕ} {s : Marks} {q : ℕ → List ℕ} (h : Queued n s q) where
  pub queue-only : (i v : ℕ) → Mem v (q i) → PendingAt n s i v
  queue-only i v m =
      let k = rank-only s.rank (suc i) h.all v (subst (λ (p : ℕ → List ℕ). Mem v (p i)) h.queues m) in
      let w : Waits n s v = h.lists.only v k.0 in
      (w.0, (w.1.0, k.1))

  pub queue-whole : (i v : ℕ) → PendingAt n s i v → Mem v (q i)
  queue-whole i v a =
      subst (λ (p : ℕ → List ℕ). Mem v (p i)) (sym h.queues)
      (rank-whole s.rank (suc i) h.all v (h.lists.whole v (a.0, (a.1.0, omega (arith, a.1.1)))) a.1.1)

-- Where every free vertex is at level -1, nobody waits.
pub none-waits : (n : ℕ) (s : Marks) → ((v : ℕ) → s.mate v ≡ v → s.rank v ≤ 0) → Lists (Waits n s) []
none-waits n s h = lists-none (λ v w. omega (arith, h v w.1.0, w.1.1))

pub queued-none : (n : ℕ) (s : Marks) → ((v : ℕ) → s.mate v ≡ v → s.rank v ≤ 0) → Queued n s (λ i. [])
queued-none n s h = record { all = []; lists = none-waits n s h; queues = sym (queues-none s.rank) }

-- One is taken from its queue.
pub queued-left : (n u : ℕ) (s : Marks) (q : ℕ → List ℕ) → Queued n s q → QueuedBut u n s (leave u q)
queued-left n u s q h = record {
  all = without u h.all;
  lists = lists-without u h.lists;
  queues = ap (leave u) h.queues ∙ sym (queues-leave s.rank u h.all);
}

-- Mates stay mates.
pub paired-of : (P : Setting) {m : ℕ} {Q : List ℕ} {s : Marks} → Inv P m Q s → Paired P.n s
paired-of P I = record { back = I.mates-back; level = I.mates-level; high = I.mates-high; past = I.past }

module _ {n : ℕ} {s : Marks} (I : Paired n s) where
  -- a vertex with a mate, which is below n and has one too
  pub mate-mated : (w : ℕ) → s.mate w ≢ w → s.mate (s.mate w) ≢ s.mate w
  mate-mated w ne f = ne (sym f ∙ I.back w)

  pub mate-inside : (w : ℕ) → s.mate w ≢ w → s.mate w < n
  mate-inside w ne = elim (le? n (s.mate w)) [ inl b ↦ absurd (omega (arith, I.past (s.mate w) b, I.high w ne, I.level w)) | inr b ↦ b ]

module _ {n : ℕ} {s s₁ : Marks} (I : Paired n s) where
  -- a parting, with or without a rise
  pub lift-paired : {l w : ℕ} → Lift l w s s₁ → w < n → Paired n s₁
  lift-paired {l} {w} d wn = record {
    back = λ v. elim (sort v) [
      | inl p ↦ cc p
      | inr p ↦ cc (d.mate-o v p.0 p.1, d.mate-o (s.mate v) (other v p).0 (other v p).1, I.back v)
    ];
    level = λ v. elim (sort v) [
      | inl p ↦ ap s₁.rank p
      | inr p ↦ cc (d.mate-o v p.0 p.1, d.rank-o (s.mate v) (other v p).0, d.rank-o v p.0, I.level v)
    ];
    high = λ v h. elim (sort v) [
      | inl p ↦ absurd (h p)
      | inr p ↦ omega (arith, d.rank-o v p.0, I.high v (λ q. h (d.mate-o v p.0 p.1 ∙ q)))
    ];
    past = λ v h. elim (eq? v w) [ inl p ↦ absurd (omega arith) | inr p ↦ omega (arith, d.rank-o v p, I.past v h) ];
  }
    where
      sort : (v : ℕ) → (s₁.mate v ≡ v) ⊎ ((v ≢ w) × (v ≢ s.mate w))
      sort v = elim (eq? v w) [
        | inl p ↦ inl (cc d.mate-w)
        | inr p ↦ elim (eq? v (s.mate w)) [ inl q ↦ inl (cc d.mate-z) | inr q ↦ inr (p, q) ]
      ]

      other : (v : ℕ) → (v ≢ w) × (v ≢ s.mate w) → (s.mate v ≢ w) × (s.mate v ≢ s.mate w)
      other v p = ((λ e. p.1 (cc (I.back v))), (λ e. p.0 (cc (I.back v, I.back w))))

  -- a marriage of two free vertices on one level from 0 on
  pub pair-paired : {u y : ℕ} → Pair u y s s₁ → s.mate u ≡ u → s.mate y ≡ y → s.rank u ≡ s.rank y → 1 ≤ s.rank u → Paired n s₁
  pair-paired {u} {y} d hu hy e a = record {
    back = λ v. elim (sort v) [
      | inl p ↦ cc (d.mate-u, d.mate-y)
      | inr (inl p) ↦ cc (d.mate-u, d.mate-y)
      | inr (inr p) ↦ cc (d.mate-o v p.0 p.1, d.mate-o (s.mate v) (other v p).0 (other v p).1, I.back v)
    ];
    level = λ v. elim (sort v) [
      | inl p ↦ cc (d.mate-u, d.rank-o u, d.rank-o y)
      | inr (inl p) ↦ cc (d.mate-y, d.rank-o u, d.rank-o y)
      | inr (inr p) ↦ cc (d.mate-o v p.0 p.1, d.rank-o (s.mate v), d.rank-o v, I.level v)
    ];
    high = λ v h. elim (sort v) [
      | inl p ↦ omega (arith, d.rank-o v, ap s.rank p)
      | inr (inl p) ↦ omega (arith, d.rank-o v, ap s.rank p)
      | inr (inr p) ↦ omega (arith, d.rank-o v, I.high v (λ q. h (d.mate-o v p.0 p.1 ∙ q)))
    ];
    past = λ v h. omega (arith, d.rank-o v, I.past v h);
  }
    where
      sort : (v : ℕ) → (v ≡ u) ⊎ ((v ≡ y) ⊎ ((v ≢ u) × (v ≢ y)))
      sort v = elim (eq? v u) [ inl p ↦ inl p | inr p ↦ elim (eq? v y) [ inl q ↦ inr (inl q) | inr q ↦ inr (inr (p, q)) ] ]

      other : (v : ℕ) → (v ≢ u) × (v ≢ y) → (s.mate v ≢ u) × (s.mate v ≢ y)
      other v p = ((λ f. p.0 (cc (I.back v))), (λ f. p.1 (cc (I.back v))))

  -- the fall of a free vertex
  pub fall-paired : {i v : ℕ} → Fall i v s s₁ → s.mate v ≡ v → v < n → Paired n s₁
  fall-paired {i} {v} d h b = record {
    back = λ x. cc (d.mate-o x, d.mate-o (s.mate x), I.back x);
    level = λ x. elim (eq? x v) [
      | inl p ↦ ap s₁.rank (cc (d.mate-o x))
      | inr p ↦ cc (d.mate-o x, d.rank-o x p, d.rank-o (s.mate x) (λ e. p (cc (I.back x))), I.level x)
    ];
    high = λ x k. omega (arith, d.rank-o x (λ e. k (cc (d.mate-o x))), I.high x (λ q. k (d.mate-o x ∙ q)));
    past = λ x k. omega (arith, d.rank-o x (λ e. omega arith), I.past x k);
  }
