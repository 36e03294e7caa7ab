-- The first half of a rise: u takes the edges that vertices below level i own, a rank of these after the other. The count of u at i less the
-- edges that it owns is how many there are to take. Assumes nothing.
use mathlib.Core.Path.{◌≡◌, sym, ap, ◌∙◌, subst, fun_ext}
use mathlib.Core.Logic.{inl, inr}
use mathlib.Core.Bool.{Bool, true, ◌&&◌}
use mathlib.Core.List.{List}
use Prim.Native.Nat.{ℕ, ◌+◌, ◌≤◌, ◌<◌}
use native.Mathlib.Omega.{arith}
use lib.Dec.{T, leb, ltb, leb→le, le→leb, ltb→lt, lt→ltb}
use Rattle.model.specs.Counting.{count}
use Rattle.model.specs.State.{Kind, State, near, below, phi}
use Rattle.model.specs.Bytes.{read, write}
use Rattle.model.specs.Change.{reown}
use Rattle.model.proofs.Tests.{eq?, le?, holds?, bool-ext, T_true, T_false, and_intro, and_left, and_right}
use Rattle.model.proofs.Counting.{count-parts, count_none, count-some}
use Rattle.model.proofs.Prefix.{count-ext}
use Rattle.model.proofs.Limits.{phi-above}
use Rattle.theory.proofs.Ownership.{out, back, rest, turned}
use Rattle.moves.specs.Proper.{Proper, Ordered, Held, owner_at, took_from, took_over}
use Rattle.moves.proofs.Edges.{edge-cases, edge_of, edge-back, near_of, near-edge, near-low, edge-loop}
use Rattle.moves.proofs.Taking.{Takes, owner_of, owner-is, took-ext, takes_none, takes-more, left-owner, owner-left, takes-read, takes-held}

-- w owns its edge to u and stands below i: the edges that u takes
unfoldable pub owed : State → ℕ → ℕ → ℕ → Bool
owed s i u w = s.owns w u && leb (s.rank w) i

-- those of a rank below r, and the others
unfoldable pub owed_below : State → ℕ → ℕ → ℕ → ℕ → Bool
owed_below s i u r w = owed s i u w && ltb (s.rank w) r

unfoldable pub owed_from : State → ℕ → ℕ → ℕ → ℕ → Bool
owed_from s i u r w = owed s i u w && leb r (s.rank w)

-- the edges that owners of a rank below r had are taken, and the others are missing
pub record TakeOver (s : State) (i u : ℕ) (bs : List ℕ) (missing r : ℕ) : Type 0 where
  pub bytes : bs ≡ write (took_from (owed_below s i u r) u s)
  pub counted : missing ≡ count (owed_from s i u r) s.n

-- u may rise to i: it owns edges to vertices below i alone
pub record CanRise (K : Kind) (s : State) (i u : ℕ) : Type 0 where
  pub proper : Proper K s
  pub within : u < s.n
  pub low : (w : ℕ) → T (s.owns u w) → s.rank w ≤ i

module _ (s : State) (i u w : ℕ) where
  owed-of : T (s.owns w u) → s.rank w ≤ i → T (owed s i u w)
  unfolding owed
  owed-of o l = and_intro (s.owns w u) _ o (le→leb (s.rank w) i l)

  owed-is : T (owed s i u w) → T (s.owns w u) × (s.rank w ≤ i)
  unfolding owed
  owed-is t = (and_left (s.owns w u) _ t, leb→le (s.rank w) i (and_right (s.owns w u) _ t))

  below_of : (r : ℕ) → T (owed s i u w) → s.rank w < r → T (owed_below s i u r w)
  unfolding owed_below
  below_of r t l = and_intro (owed s i u w) _ t (lt→ltb (s.rank w) r l)

  below-is : (r : ℕ) → T (owed_below s i u r w) → T (owed s i u w) × (s.rank w < r)
  unfolding owed_below
  below-is r t = (and_left (owed s i u w) _ t, ltb→lt (s.rank w) r (and_right (owed s i u w) _ t))

  from-of : (r : ℕ) → T (owed s i u w) → r ≤ s.rank w → T (owed_from s i u r w)
  unfolding owed_from
  from-of r t l = and_intro (owed s i u w) _ t (le→leb r (s.rank w) l)

  from_is : (r : ℕ) → T (owed_from s i u r w) → T (owed s i u w) × (r ≤ s.rank w)
  unfolding owed_from
  from_is r t = (and_left (owed s i u w) _ t, leb→le r (s.rank w) (and_right (owed s i u w) _ t))

module _ {K : Kind} {s : State} {i u : ℕ} (q : CanRise K s i u) where
  -- what is owed is near, and what is near is owned or owed
  owed-near : (w : ℕ) → T (owed s i u w) → T (near s u i w)
  owed-near w t = let o = owed-is s i u w t in near_of s u i w (edge-back s u w o.0) o.1

  near-owed : (w : ℕ) → T (near s u i w) → (T (s.owns u w) → ⊥) → T (owed s i u w)
  near-owed w t n = elim (edge-cases s u w (near-edge s u i w t)) [
    | inl o ↦ absurd (n o)
    | inr o ↦ owed-of s i u w o (near-low s u i w t)
  ]

  owned-near : (w : ℕ) → T (s.owns u w) → T (near s u i w)
  owned-near w o = near_of s u i w (edge_of s u w o) (q.low w o)

  owned-paid : (w : ℕ) → T (s.owns u w) → T (owed s i u w) → ⊥
  owned-paid w o t = q.proper.owned-once u w o (owed-is s i u w t).0

  near-not : T (near s u i u) → ⊥
  near-not t = edge-loop s q.proper u (near-edge s u i u t)

  -- each neighbour below i is owned or owed
  pub owed-count : s.rank u ≤ i → phi s u i ≡ count (s.owns u) s.n + count (owed s i u) s.n
  unfolding below
  owed-count h =
      phi-above s u i h ∙ sym (count-parts (s.owns u) (owed s i u) (near s u i) s.n owned-near owed-near
      (λ w t. elim (holds? (s.owns u w)) [ inl o ↦ inl o | inr n ↦ inr (near-owed w t n) ]) owned-paid)

  -- taking what is owed is taking every edge to a vertex below i: the others are u's already
  taken-all : took_from (owed s i u) u s ≡ took_over i u s
  unfolding took_from took_over
  taken-all = ap (reown s) (fun_ext (λ x. fun_ext (λ y. elim (turned u (near s u i) true s.owns x y) [
    | out e t z ↦ elim (turned u (owed s i u) true s.owns x y) [
      | out f h r ↦ r ∙ sym z
      | back f h r ↦ absurd (near-not (subst (λ (x : ℕ). T (near s u i x)) f t))
      | rest f g r ↦ elim (holds? (s.owns u y)) [
        | inl o ↦ r ∙ ap (λ (x : ℕ). s.owns x y) e ∙ T_true o ∙ sym z
        | inr h ↦ absurd (f e (near-owed y t h))
      ]
    ]
    | back e t z ↦ elim (turned u (owed s i u) true s.owns x y) [
      | out f h r ↦ absurd (near-not (subst (λ (x : ℕ). T (near s u i x)) f t))
      | back f h r ↦ r ∙ sym z
      | rest f g r ↦
          r ∙ T_false (λ o. q.proper.owned-once x u (subst (λ (y : ℕ). T (s.owns x y)) e o) (elim (holds? (s.owns u x)) [
            | inl h ↦ h
            | inr h ↦ absurd (g e (near-owed x t h))
          ])) ∙ sym z
    ]
    | rest f g z ↦ elim (turned u (owed s i u) true s.owns x y) [
      | out e h r ↦ absurd (f e (owed-near y h))
      | back e h r ↦ absurd (g e (owed-near x h))
      | rest e h r ↦ r ∙ sym z
    ]
  ])))

  -- ---- the loop

  takes : (r : ℕ) → Takes K s u (owed_below s i u r)
  takes r = record { proper = q.proper; within = q.within; owes = λ w t. (owed-is s i u w (below-is s i u w r t).0).0 }

  -- an owner's rank is at least u's
  pub over-start : {bs : List ℕ} {missing : ℕ} → Ordered s → bs ≡ write s → missing ≡ count (owed s i u) s.n
      → TakeOver s i u bs missing (s.rank u)
  over-start o e m = record {
    bytes = e ∙ ap write (sym (takes_none (takes (s.rank u)) (λ w t.
        let b = below-is s i u w (s.rank u) t in omega (arith, b.1, o w u (owed-is s i u w b.0).0))));
    counted = m ∙ count-ext (owed s i u) (owed_from s i u (s.rank u)) s.n (λ w _.
        bool-ext (owed s i u w) (owed_from s i u (s.rank u) w)
        (λ t. from-of s i u w (s.rank u) t (o w u (owed-is s i u w t).0)) (λ t. (from_is s i u w (s.rank u) t).0));
  }

  module _ {bs : List ℕ} {missing r : ℕ} (G : TakeOver s i u bs missing r) where
    pub over-read : read K.shape bs ≡ took_from (owed_below s i u r) u s
    over-read = takes-read (takes r) G.bytes

    pub over-held : Held K.shape bs
    over-held = takes-held (takes r) G.bytes

    -- an edge is missing, so not every rank is done
    pub over-rank : 0 < missing → r ≤ i
    over-rank m = elim (le? r i) [
      | inl l ↦ l
      | inr l ↦
          let z = count_none (owed_from s i u r) s.n (λ w _ t.
          let b = from_is s i u w r t in omega (arith, b.1, (owed-is s i u w b.0).1)) in
          absurd (omega (arith, G.counted, z))
    ]

    -- the owners of rank r are still there
    module _ (l : r ≤ i) where
      abbrev then : State
      then = took_from (owed_below s i u r) u s

      still : (w : ℕ) → owner_at then r u w ≡ owner_at s r u w
      still w = bool-ext (owner_at then r u w) (owner_at s r u w) (λ t. (left-owner (takes r) r w t).0)
          (λ t. owner-left (takes r) r w t (λ b. omega (arith, (below-is s i u w r b).1, (owner-is s r u w t).1)))

      owner-owed : (w : ℕ) → T (owner_at s r u w) → T (owed s i u w) × (s.rank w ≡ r)
      owner-owed w t = let o = owner-is s r u w t in (owed-of s i u w o.0 (omega (arith, o.1)), o.1)

      -- they are those that are missing but for the higher ones
      parts : count (owner_at (read K.shape bs) r u) (read K.shape bs).n + count (owed_from s i u (r + 1)) s.n ≡ missing
      unfolding took_from reown
      parts =
          let e : count (owner_at (read K.shape bs) r u) (read K.shape bs).n ≡ count (owner_at s r u) s.n =
          ap (λ (x : State). count (owner_at x r u) x.n) over-read
          ∙ count-ext (owner_at then r u) (owner_at s r u) s.n (λ w _. still w) in
          let p = count-parts (owner_at s r u) (owed_from s i u (r + 1)) (owed_from s i u r) s.n
          (λ w t. let o = owner-owed w t in from-of s i u w r o.0 (omega (arith, o.1)))
          (λ w t. let b = from_is s i u w (r + 1) t in from-of s i u w r b.0 (omega (arith, b.1)))
          (λ w t.
          let b = from_is s i u w r t in
          elim (eq? (s.rank w) r) [
            | inl z ↦ inl (owner_of s r u w (owed-is s i u w b.0).0 z)
            | inr z ↦ inr (from-of s i u w (r + 1) b.0 (omega (arith, b.1)))
          ])
          (λ w t f. omega (arith, (owner-is s r u w t).1, (from_is s i u w (r + 1) f).1)) in
          omega (arith, e, p, G.counted)

      pub over-few : count (owner_at (read K.shape bs) r u) (read K.shape bs).n ≤ missing
      over-few = omega (arith, parts)

      next-rank : took_from (owner_at then r u) u then ≡ took_from (owed_below s i u (r + 1)) u s
      next-rank =
          takes-more (takes r) (owner_at then r u) (owed_below s i u (r + 1))
          (λ t. q.proper.no_loop u (owner-is s r u u (left-owner (takes r) r u t).0).0)
          (λ w t. let b = below-is s i u w r t in below_of s i u w (r + 1) b.0 (omega (arith, b.1)))
          (λ w t. let o = owner-owed w (left-owner (takes r) r w t).0 in below_of s i u w (r + 1) o.0 (omega (arith, o.1)))
          (λ w t n.
          let b = below-is s i u w (r + 1) t in
          elim (eq? (s.rank w) r) [
            | inl z ↦ absurd (n (subst T (sym (still w)) (owner_of s r u w (owed-is s i u w b.0).0 z)))
            | inr z ↦ below_of s i u w r b.0 (omega (arith, b.1))
          ])

      pub over-next : {cs : List ℕ} {missing' : ℕ} → cs ≡ write (took_from (owner_at (read K.shape bs) r u) u (read K.shape bs))
          → missing' + count (owner_at (read K.shape bs) r u) (read K.shape bs).n ≡ missing → TakeOver s i u cs missing' (r + 1)
      over-next e f = record {
        bytes = e ∙ ap (λ (x : State). write (took_from (owner_at x r u) u x)) over-read ∙ ap write next-rank;
        counted = omega (arith, f, parts);
      }

    -- nothing is missing
    pub over_none : missing ≡ 0 → bs ≡ write (took_over i u s)
    over_none z = G.bytes ∙ ap write (took-ext (owed_below s i u r) (owed s i u) u s (λ w t. (below-is s i u w r t).0)
        (λ w t. below_of s i u w r t (elim (le? r (s.rank w)) [
          | inl l ↦ absurd (omega (
            arith,
            G.counted,
            count-some (owed_from s i u r) s.n w (q.proper.inside w u (owed-is s i u w t).0).0 (from-of s i u w r t l),
          ))
          | inr l ↦ l
        ])) ∙ taken-all)

    -- every rank up to i is done, so nothing is missing
    pub over-end : i < r → bs ≡ write (took_over i u s)
    over-end l = over_none (elim (le? 1 missing) [ inl m ↦ absurd (omega (arith, over-rank m)) | inr z ↦ omega arith ])
