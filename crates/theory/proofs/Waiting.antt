-- The queue of all vertices that wait, through each move: a parting with or without a rise, a draw, a fall, and the parting of a drop. What
-- else is known of the vertices in it is kept. Assumes nothing.
use mathlib.Core.Path.{◌≡◌, refl, sym, ap, ◌∙◌, subst}
use mathlib.Core.Logic.{◌≢◌, ◌⊎◌, inl, inr}
use mathlib.Core.List.{List, [], ◌∷◌}
use Prim.Native.Nat.{ℕ, zero, suc, ◌≤◌, ◌<◌}
use native.Mathlib.Omega.{arith}
use Rattle.model.specs.Lists.{Lists}
use Rattle.model.specs.State.{State}
use Rattle.model.specs.Moves.{join, parting}
use Rattle.model.proofs.Tests.{eq?}
use Rattle.theory.specs.Waiting.{Waits, Paired, queues_in, join_queue, part_queue}
use Rattle.theory.proofs.Marks.{Marks, marks, Lift, Fall}
use Rattle.theory.proofs.Invariant.{Draw}
use Rattle.theory.proofs.Arrivals.{lists-as, lists-without, lists-end, queues-as, queues-join, queues-none, joins-none, joins-some, queue-free, queue-mated, queues-part}
use Rattle.theory.proofs.Queues.{Queued, QueuedBut, mate-mated, mate-inside}

-- a vertex that is neither w nor its mate waits exactly if it did
lift-waits : {l w x : ℕ} {s s₁ : Marks} (n : ℕ) → Lift l w s s₁ → x ≢ w → x ≢ s.mate w → Waits n s x → Waits n s₁ x
lift-waits {x = x} n d p q a = (a.0, (d.mate-o x p q ∙ a.1.0, omega (arith, d.rank-o x p, a.1.1)))

waits-lift : {l w x : ℕ} {s s₁ : Marks} (n : ℕ) → Lift l w s s₁ → x ≢ w → x ≢ s.mate w → Waits n s₁ x → Waits n s x
waits-lift {x = x} n d p q a = (a.0, (sym (d.mate-o x p q) ∙ a.1.0, omega (arith, d.rank-o x p, a.1.1)))

-- The parting of w, with or without a rise. A is what else is known of those in the queue.
module _ {n l w : ℕ} {s s₁ : Marks} (A : ℕ → Type 0) (I : Paired n s) (d : Lift l w s s₁) (known : s.mate w ≢ w → A (s.mate w)) where
  pub lifted-lists : {all : List ℕ} → Lists (λ v. Waits n s v × A v) all → Lists (λ v. (Waits n s₁ v × A v) × (v ≢ w)) (part_queue s w all)
  lifted-lists {all} h = elim (eq? (s.mate w) w) [
    | inl e ↦ rw (queue-free s w all e) (lists-as
        (λ v a. ((lift-waits n d a.1 (λ f. a.1 (f ∙ e)) a.0.0, a.0.1), a.1))
        (λ v a. ((waits-lift n d a.1 (λ f. a.1 (f ∙ e)) a.0.0, a.0.1), a.1))
        (lists-without w h))
    | inr ne ↦ rw (queue-mated s w all ne) (joins ne (s.rank (s.mate w)) refl)
  ]
    where
      z : ℕ
      z = s.mate w

      joins : s.mate w ≢ w → (x : ℕ) → s.rank (s.mate w) ≡ x → Lists (λ v. (Waits n s₁ v × A v) × (v ≢ w)) (join_queue (s.mate w) x all)
      joins ne zero e = absurd (omega (arith, I.high w ne, I.level w))
      joins ne (suc j) e =
          let alone : (v : ℕ) → Waits n s v → (v ≢ w) × (v ≢ z) = λ v a. (
            (λ f. ne (subst (λ (y : ℕ). s.mate y ≡ y) f a.1.0)),
            (λ f. mate-mated I w ne (subst (λ (y : ℕ). s.mate y ≡ y) f a.1.0)),
          ) in
          rw (joins-some z j all) (lists-as {W = λ v. (Waits n s v × A v) ⊎ (v ≡ z)}
          (λ v x. elim x [
            | inl a ↦ let o = alone v a.0 in ((lift-waits n d o.0 o.1 a.0, a.1), o.0)
            | inr a ↦ subst (λ (y : ℕ). (Waits n s₁ y × A y) × (y ≢ w)) (sym a)
                (((mate-inside I w ne, (d.mate-z, omega (arith, d.rank-o z ne, e))), known ne), ne)
          ])
          (λ v a. elim (eq? v z) [ inl f ↦ inr f | inr f ↦ inl (waits-lift n d a.1 f a.0.0, a.0.1) ])
          (lists-end z h (λ a. (alone z a.0).1 refl)))

  -- w is in it no longer, and no other rank changes
  pub lifted-queues : {all : List ℕ} → Lists (λ v. Waits n s v × A v) all → queues_in s.rank (part_queue s w all) ≡ queues_in s₁.rank (part_queue s w all)
  lifted-queues {all} h = queues-as s.rank s₁.rank (part_queue s w all) (λ v m. sym (d.rank-o v ((lifted-lists h).only v m).1))

-- w is parted and rises
module _ {n l w : ℕ} {s s₁ : Marks} (I : Paired n s) (d : Lift l w s s₁) {all : List ℕ} (h : Lists (Waits n s) all) where
  whoever : Lists (λ v. Waits n s v × Unit {0}) all
  whoever = lists-as (λ v a. (a, tt)) (λ v a. a.0) h

  pub risen-lists : Lists (λ v. Waits n s₁ v × (v ≢ w)) (part_queue s w all)
  risen-lists = lists-as (λ v a. (a.0.0, a.1)) (λ v a. ((a.0, tt), a.1)) (lifted-lists (λ v. Unit {0}) I d (λ ne. tt) whoever)

  pub risen-queues : queues_in s.rank (part_queue s w all) ≡ queues_in s₁.rank (part_queue s w all)
  risen-queues = lifted-queues (λ v. Unit {0}) I d (λ ne. tt) whoever

-- y is parted and rises, and is the mate of u, which was free
module _ {n i u y : ℕ} {s s' : Marks} (I : Paired n s) (ne : u ≢ y) (hu : s.mate u ≡ u) (d : Draw i u y s s') {all : List ℕ}
    (h : Lists (λ v. Waits n s v × (v ≢ u)) all) where
  other : s.mate y ≢ y → s.mate y ≢ u
  other m e = ne (sym hu ∙ ap s.mate (sym e) ∙ I.back y)

  pub drawn-lists : Lists (Waits n s') (part_queue s y all)
  drawn-lists =
      lists-as
      (λ v a. (a.0.0.0, (d.two.mate-o v a.0.1 a.1 ∙ a.0.0.1.0, omega (arith, d.two.rank-o v, a.0.0.1.1))))
      (λ v a.
      let vu : v ≢ u = λ e. ne (sym (sym d.two.mate-u ∙ ap s'.mate (sym e) ∙ a.1.0 ∙ e)) in
      let vy : v ≢ y = λ e. ne (sym d.two.mate-y ∙ ap s'.mate (sym e) ∙ a.1.0 ∙ e) in
      (((a.0, (sym (d.two.mate-o v vu vy) ∙ a.1.0, omega (arith, d.two.rank-o v, a.1.1))), vu), vy))
      (lifted-lists (λ v. v ≢ u) I d.up other h)

  pub drawn-queues : queues_in s.rank (part_queue s y all) ≡ queues_in s'.rank (part_queue s y all)
  drawn-queues = lifted-queues (λ v. v ≢ u) I d.up other h ∙ queues-as _ s'.rank (part_queue s y all) (λ v m. sym (d.two.rank-o v))

-- v falls to rank i and joins the end of its new level
module _ {n i v : ℕ} {s s' : Marks} (d : Fall i v s s') (b : v < n) (m : s.mate v ≡ v) {all : List ℕ}
    (h : Lists (λ x. Waits n s x × (x ≢ v)) all) where
  pub fallen-lists : Lists (Waits n s') (join_queue v i all)
  fallen-lists = joins i d.rank-v
    where
      to : (x : ℕ) → Waits n s x × (x ≢ v) → Waits n s' x
      to x a = (a.0.0, (d.mate-o x ∙ a.0.1.0, omega (arith, d.rank-o x a.1, a.0.1.1)))

      from : (x : ℕ) → x ≢ v → Waits n s' x → Waits n s x × (x ≢ v)
      from x ne a = ((a.0, (sym (d.mate-o x) ∙ a.1.0, omega (arith, d.rank-o x ne, a.1.1))), ne)

      joins : (k : ℕ) → s'.rank v ≡ k → Lists (Waits n s') (join_queue v k all)
      joins zero e = rw (joins-none v all) (lists-as to (λ x a. from x (λ f. omega (arith, ap s'.rank f, e, a.1.1)) a) h)
      joins (suc j) e = rw (joins-some v j all) (lists-as
          (λ x w. elim w [ inl a ↦ to x a | inr a ↦ subst (Waits n s') (sym a) (b, (d.mate-o v ∙ m, omega (arith, e))) ])
          (λ x a. elim (eq? x v) [ inl e ↦ inr e | inr ne ↦ inl (from x ne a) ])
          (lists-end v h (λ a. a.1 refl)))

  pub fallen-queues : join v i (queues_in s.rank all) ≡ queues_in s'.rank (join_queue v i all)
  fallen-queues =
      ap (join v i) (queues-as s.rank s'.rank all (λ x k. sym (d.rank-o x (h.only x k).1)))
      ∙ sym (queues-join s'.rank v i d.rank-v all)

-- "Parting by a drop puts the lower number first.": a and b were mates, and all was settled
module _ {n a b : ℕ} {s s₁ : Marks} (I : Paired n s) (low : (v : ℕ) → s.mate v ≡ v → s.rank v ≤ 0) (d : Lift (s.rank a) a s s₁)
    (la : a < n) (lb : b < n) (ne : a ≢ b) (m : s.mate a ≡ b) where
  high : (1 ≤ s.rank a) × (s.rank b ≡ s.rank a)
  high = (I.high a (λ e. ne (sym e ∙ m)), ap s.rank (sym m) ∙ I.level a)

  ranks : (v : ℕ) → s₁.rank v ≡ s.rank v
  ranks v = elim (eq? v a) [ inl e ↦ ap s₁.rank e ∙ d.rank-w ∙ ap s.rank (sym e) | inr f ↦ d.rank-o v f ]

  pub parted-lists : Lists (Waits n s₁) (a ∷ b ∷ [])
  parted-lists = record {
    once = ((ne, tt), (tt, tt));
    only = λ v k. elim k [
      | inl e ↦ subst (Waits n s₁) (sym e) (la, (d.mate-w, omega (arith, ranks a, high.0)))
      | inr k₁ ↦ elim k₁ [
        | inl e ↦ subst (Waits n s₁) (sym e) (lb, (subst (λ (y : ℕ). s₁.mate y ≡ y) m d.mate-z, omega (arith, ranks b, high)))
        | inr k₂ ↦ absurd k₂
      ]
    ];
    whole = λ v w. elim (eq? v a) [
      | inl e ↦ inl e
      | inr p ↦ elim (eq? v b) [
        | inl e ↦ inr (inl e)
        | inr q ↦ absurd (omega (arith, low v (sym (d.mate-o v p (λ z. q (z ∙ m))) ∙ w.1.0), w.1.1, ranks v))
      ]
    ];
  }

  pub parted-queues : join b (s.rank b) (join a (s.rank a) (λ i. [])) ≡ queues_in s₁.rank (a ∷ b ∷ [])
  parted-queues = two (s.rank a) refl (s.rank b) refl
    where
      two : (x : ℕ) → s.rank a ≡ x → (y : ℕ) → s.rank b ≡ y → join b y (join a x (λ i. [])) ≡ queues_in s₁.rank (a ∷ b ∷ [])
      two zero e y f = absurd (omega (arith, high))
      two (suc j) e zero f = absurd (omega (arith, high))
      two (suc j) e (suc k) f =
          ap (λ (q : ℕ → List ℕ). join b (suc k) (join a (suc j) q)) (sym (queues-none s₁.rank))
          ∙ ap (join b (suc k)) (sym (queues-join s₁.rank a (suc j) (ranks a ∙ e) []))
          ∙ sym (queues-join s₁.rank b (suc k) (ranks b ∙ f) (join_queue a (suc j) []))
          ∙ ap (queues_in s₁.rank) (unfold join_queue in refl)

-- The same of the queues.
module _ {n l w : ℕ} {s₁ : Marks} (s : State) (q : ℕ → List ℕ) (I : Paired n (marks s)) (d : Lift l w (marks s) s₁) where
  pub lifted-queued : Queued n (marks s) q → QueuedBut w n s₁ (parting s w q)
  lifted-queued h = record {
    all = part_queue (marks s) w h.all;
    lists = risen-lists I d h.lists;
    queues = ap (parting s w) h.queues ∙ sym (queues-part s w h.all) ∙ risen-queues I d h.lists;
  }

pub drawn-queued : {n i u y : ℕ} {s' : Marks} (s : State) (q : ℕ → List ℕ) → Paired n (marks s) → u ≢ y → s.mate u ≡ u
    → Draw i u y (marks s) s' → QueuedBut u n (marks s) q → Queued n s' (parting s y q)
drawn-queued {y = y} s q I ne hu d h = record {
  all = part_queue (marks s) y h.all;
  lists = drawn-lists I ne hu d h.lists;
  queues = ap (parting s y) h.queues ∙ sym (queues-part s y h.all) ∙ drawn-queues I ne hu d h.lists;
}

pub fallen-queued : {n v : ℕ} {s s' : Marks} (i : ℕ) (q : ℕ → List ℕ) → Fall i v s s' → v < n → s.mate v ≡ v → QueuedBut v n s q
    → Queued n s' (join v i q)
fallen-queued {v = v} i q d b m h = record {
  all = join_queue v i h.all;
  lists = fallen-lists d b m h.lists;
  queues = ap (join v i) h.queues ∙ fallen-queues d b m h.lists;
}

pub parted-queued : {n a b : ℕ} {s s₁ : Marks} → Paired n s → ((v : ℕ) → s.mate v ≡ v → s.rank v ≤ 0) → Lift (s.rank a) a s s₁
    → a < n → b < n → a ≢ b → s.mate a ≡ b → Queued n s₁ (join b (s.rank b) (join a (s.rank a) (λ i. [])))
parted-queued {a = a} {b = b} I low d la lb ne m = record {
  all = a ∷ b ∷ [];
  lists = parted-lists I low d la lb ne m;
  queues = parted-queues I low d la lb ne m;
}
