-- u takes edges from vertices that own one to it: what the state is then, and what it is where more are taken after. Assumes nothing.
use mathlib.Core.Path.{◌≡◌, refl, sym, ap, subst, fun_ext}
use mathlib.Core.Bool.{Bool, true}
use mathlib.Core.List.{List}
use Prim.Native.Nat.{ℕ, ◌<◌}
use lib.Dec.{T, eqb→eq}
use Rattle.model.specs.State.{Kind, State, edge}
use Rattle.model.specs.Bytes.{read, write}
use Rattle.model.specs.Change.{reown}
use Rattle.model.proofs.Tests.{bool-ext, true-T, eqb_yes, and_intro, and_left, and_right}
use Rattle.theory.proofs.Ownership.{out, back, rest, turned}
use Rattle.theory.proofs.HandLoops.{owned-both}
use Rattle.moves.specs.Proper.{Proper, Held, owner_at, took_from}
use Rattle.moves.proofs.Edges.{edge-back, turned-edge, turned-proper}
use Rattle.moves.proofs.Held.{reads_as, held_of}

-- ---- the owners of a rank

module _ (s : State) (r u w : ℕ) where
  pub owner_of : T (s.owns w u) → s.rank w ≡ r → T (owner_at s r u w)
  unfolding owner_at
  owner_of o e = and_intro (s.owns w u) _ o (true-T (eqb_yes (s.rank w) r e))

  pub owner-is : T (owner_at s r u w) → T (s.owns w u) × (s.rank w ≡ r)
  unfolding owner_at
  owner-is t = (and_left (s.owns w u) _ t, eqb→eq (s.rank w) r (and_right (s.owns w u) _ t))

-- ---- a taking

-- u may take the edges to the vertices that pass h: each of them owns one
pub record Takes (K : Kind) (s : State) (u : ℕ) (h : ℕ → Bool) : Type 0 where
  pub proper : Proper K s
  pub within : u < s.n
  pub owes : (w : ℕ) → T (h w) → T (s.owns w u)

pub takes-rank : {K : Kind} {s : State} → Proper K s → (r u : ℕ) → u < s.n → Takes K s u (owner_at s r u)
takes-rank {s = s} p r u l = record { proper = p; within = l; owes = λ w t. (owner-is s r u w t).0 }

-- some of these edges
pub takes-some : {K : Kind} {s : State} {u : ℕ} {h : ℕ → Bool} → Takes K s u h → (g : ℕ → Bool) → ((w : ℕ) → T (g w) → T (h w)) → Takes K s u g
takes-some q g f = record { proper = q.proper; within = q.within; owes = λ w t. q.owes w (f w t) }

-- the same edges
pub took-ext : (g h : ℕ → Bool) (u : ℕ) (s : State) → ((w : ℕ) → T (g w) → T (h w)) → ((w : ℕ) → T (h w) → T (g w))
    → took_from g u s ≡ took_from h u s
took-ext g h u s f b = ap (λ (p : ℕ → Bool). took_from p u s) (fun_ext (λ w. bool-ext (g w) (h w) (f w) (b w)))

module _ {K : Kind} {s : State} {u : ℕ} {h : ℕ → Bool} (q : Takes K s u h) where
  pub takes-not : T (h u) → ⊥
  takes-not t = q.proper.no_loop u (q.owes u t)

  pub takes-edge : (v w : ℕ) → edge (took_from h u s) v w ≡ edge s v w
  unfolding took_from
  takes-edge = turned-edge s q.proper u h true (λ w t. edge-back s u w (q.owes w t))

  pub takes-proper : Proper K (took_from h u s)
  unfolding took_from
  takes-proper = turned-proper s q.proper u h true (λ w t. edge-back s u w (q.owes w t))

  -- who still owns an edge to u: those of whom none was taken
  takes-kept : (w : ℕ) → (T (h w) → ⊥) → (took_from h u s).owns w u ≡ s.owns w u
  unfolding took_from reown
  takes-kept w n = elim (turned u h true s.owns w u) [
    | out e t c ↦ absurd (takes-not t)
    | back e t c ↦ absurd (n t)
    | rest e t c ↦ c
  ]

  takes-gone : (w : ℕ) → T (h w) → T ((took_from h u s).owns w u) → ⊥
  unfolding took_from reown
  takes-gone w t o = elim (turned u h true s.owns w u) [
    | out e b c ↦ takes-not b
    | back e b c ↦ subst T c o
    | rest e b c ↦ b refl t
  ]

  -- of rank r, too
  pub left-owner : (r w : ℕ) → T (owner_at (took_from h u s) r u w) → T (owner_at s r u w) × (T (h w) → ⊥)
  unfolding took_from reown
  left-owner r w t =
      let o = owner-is (took_from h u s) r u w t in
      let n : T (h w) → ⊥ = λ b. takes-gone w b o.0 in
      (owner_of s r u w (subst T (takes-kept w n) o.0) o.1, n)

  pub owner-left : (r w : ℕ) → T (owner_at s r u w) → (T (h w) → ⊥) → T (owner_at (took_from h u s) r u w)
  unfolding took_from reown
  owner-left r w t n = let o = owner-is s r u w t in owner_of (took_from h u s) r u w (subst T (sym (takes-kept w n)) o.0) o.1

  -- nothing is taken
  pub takes_none : ((w : ℕ) → T (h w) → ⊥) → took_from h u s ≡ s
  unfolding took_from reown
  takes_none n = ap (reown s) (fun_ext (λ v. fun_ext (λ w. elim (turned u h true s.owns v w) [
    | out e t c ↦ absurd (n w t)
    | back e t c ↦ absurd (n v t)
    | rest e t c ↦ c
  ])))

  -- then the edges to those who pass g are taken: together those to whoever passes r
  pub takes-more : (g r : ℕ → Bool) → (T (g u) → ⊥) → ((w : ℕ) → T (h w) → T (r w)) → ((w : ℕ) → T (g w) → T (r w))
      → ((w : ℕ) → T (r w) → (T (g w) → ⊥) → T (h w)) → took_from g u (took_from h u s) ≡ took_from r u s
  unfolding took_from reown
  takes-more g r n a b c = ap (reown s) (owned-both u h true s.owns takes-not g r n a b c)

  -- bytes that hold the state then
  pub takes-read : {bs : List ℕ} → bs ≡ write (took_from h u s) → read K.shape bs ≡ took_from h u s
  takes-read {bs} e = reads_as bs (took_from h u s) e takes-proper

  pub takes-held : {bs : List ℕ} → bs ≡ write (took_from h u s) → Held K.shape bs
  takes-held {bs} e = held_of bs (took_from h u s) e takes-proper
