-- A state is valid if a test that computes passes each of its n vertices and nothing stands from n on: for racks that are written down.
-- Assumes nothing.
use mathlib.Core.Path.{◌≡◌, refl, ap, ◌∙◌}
use mathlib.Core.Logic.{◌≢◌, inl, inr}
use mathlib.Core.Bool.{Bool, not, ◌&&◌, ◌||◌, cond}
use Prim.Native.Nat.{ℕ, suc, ◌≤◌, ◌<◌}
use native.Mathlib.Omega.{arith}
use lib.Dec.{T, leb, ltb, eqb, leb→le, ltb→lt, eqb→eq, eqb_refl, not_T, T_not}
use Rattle.model.specs.Counting.{every}
use Rattle.model.specs.Shape.{low}
use Rattle.model.specs.State.{Rules, rules, least_growth, most_growth, low_with, State, edge, phi}
use Rattle.model.specs.Bytes.{write}
use Rattle.model.specs.Sound.{sound}
use Rattle.model.specs.Valid.{Valid}
use Rattle.model.proofs.Tests.{le?, true-T, eqb_yes, leb_yes, and_left, and_right, or_cases}
use Rattle.model.proofs.Counting.{every-all}
use Rattle.model.proofs.Limits.{phi_none}
use Rattle.model.proofs.Shapes.{low-kind, thr-pos}
use Rattle.model.proofs.Bridge.{write-sound}

-- if a then b, as a test
abbrev implied : Bool → Bool → Bool
implied a b = not a || b

-- what is asked of each vertex: of its rank, its mate, its level if it is free and if it isn't, its counts, and each edge that it owns
abbrev rank_test : Rules → State → ℕ → Bool
rank_test R s v = leb (s.rank v) (suc R.top)

abbrev back_test : State → ℕ → Bool
back_test s v = eqb (s.mate (s.mate v)) v

abbrev link_test : State → ℕ → Bool
link_test s v = implied (not (eqb (s.mate v) v)) (edge s v (s.mate v))

abbrev level_test : State → ℕ → Bool
level_test s v = eqb (s.rank (s.mate v)) (s.rank v)

abbrev free_test : State → ℕ → Bool
free_test s v = implied (eqb (s.mate v) v) (eqb (s.rank v) 0)

abbrev low_test : State → ℕ → Bool
low_test s v = implied (eqb (s.rank v) 0) (eqb (s.mate v) v)

abbrev phi_test : Rules → State → ℕ → Bool
phi_test R s v = every (λ j. ltb (phi s v j) (R.thr j)) (suc R.top)

abbrev own_test : State → ℕ → ℕ → Bool
own_test s v w = implied (s.owns v w) (not (eqb v w) && (not (s.owns w v) && leb (s.rank w) (s.rank v)))

unfoldable pub tested : Rules → State → Bool
tested R s =
    every (rank_test R s) s.n && (every (back_test s) s.n && (every (link_test s) s.n && (every (level_test s) s.n
    && (every (free_test s) s.n && (every (low_test s) s.n && (every (phi_test R s) s.n && every (λ v. every (own_test s v) s.n) s.n))))))

-- a test that is implied, by one that holds
implied-by : (a b : Bool) → T (implied a b) → T a → T b
implied-by a b h t = elim (or_cases (not a) b h) [ inl n ↦ absurd (T_not a n t) | inr k ↦ k ]

-- the tests one by one
record Passed (R : Rules) (s : State) : Type 0 where
  pub ranks : T (every (rank_test R s) s.n)
  pub back : T (every (back_test s) s.n)
  pub links : T (every (link_test s) s.n)
  pub levels : T (every (level_test s) s.n)
  pub free : T (every (free_test s) s.n)
  pub low : T (every (low_test s) s.n)
  pub counts : T (every (phi_test R s) s.n)
  pub owned : T (every (λ v. every (own_test s v) s.n) s.n)

passed : (R : Rules) (s : State) → T (tested R s) → Passed R s
unfolding tested
passed R s h =
    let a = and_right (every (rank_test R s) s.n) _ h in
    let b = and_right (every (back_test s) s.n) _ a in
    let c = and_right (every (link_test s) s.n) _ b in
    let d = and_right (every (level_test s) s.n) _ c in
    let e = and_right (every (free_test s) s.n) _ d in
    let f = and_right (every (low_test s) s.n) _ e in
    record {
      ranks = and_left (every (rank_test R s) s.n) _ h;
      back = and_left (every (back_test s) s.n) _ a;
      links = and_left (every (link_test s) s.n) _ b;
      levels = and_left (every (level_test s) s.n) _ c;
      free = and_left (every (free_test s) s.n) _ d;
      low = and_left (every (low_test s) s.n) _ e;
      counts = and_left (every (phi_test R s) s.n) _ f;
      owned = and_right (every (phi_test R s) s.n) _ f;
    }

module _ (R : Rules) (pos : (j : ℕ) → 1 ≤ R.thr j) (s : State) (some : 1 ≤ s.n) (few : s.n ≤ s.kind.shape.most)
    (inside : (v w : ℕ) → T (s.owns v w) → (v < s.n) × (w < s.n)) (past : (v : ℕ) → s.n ≤ v → s.rank v ≡ 0)
    (alone : (v : ℕ) → s.n ≤ v → s.mate v ≡ v) (h : T (tested R s)) where
  p : Passed R s
  p = passed R s h

  -- what the test says of an edge that v owns
  own : (v w : ℕ) → T (s.owns v w) → T (not (eqb v w) && (not (s.owns w v) && leb (s.rank w) (s.rank v)))
  own v w t =
      implied-by (s.owns v w) _
      (every-all (own_test s v) s.n (every-all (λ v. every (own_test s v) s.n) s.n p.owned v (inside v w t).0) w (inside v w t).1) t

  -- a vertex is tested, or from n on
  by-range : (P : ℕ → Type 0) → ((v : ℕ) → v < s.n → P v) → ((v : ℕ) → s.n ≤ v → P v) → (v : ℕ) → P v
  by-range P f g v = elim (le? s.n v) [ inl l ↦ g v l | inr l ↦ f v l ]

  pub tested-valid : Valid R s
  tested-valid = record {
    some = some;
    few = few;
    inside = inside;
    past = past;
    ranks = by-range (λ v. s.rank v ≤ suc R.top)
        (λ v l. leb→le (s.rank v) _ (every-all (rank_test R s) s.n p.ranks v l)) (λ v l. omega (arith, past v l));
    no_loop = λ v t. T_not (eqb v v) (and_left (not (eqb v v)) _ (own v v t)) (eqb_refl v);
    owned-once = λ v w t u. T_not (s.owns w v) (and_left (not (s.owns w v)) _ (and_right (not (eqb v w)) _ (own v w t))) u;
    owner-high = λ v w t. leb→le (s.rank w) (s.rank v) (and_right (not (s.owns w v)) _ (and_right (not (eqb v w)) _ (own v w t)));
    mates-back = by-range (λ v. s.mate (s.mate v) ≡ v)
        (λ v l. eqb→eq (s.mate (s.mate v)) v (every-all (back_test s) s.n p.back v l))
        (λ v l. ap s.mate (alone v l) ∙ alone v l);
    mates-linked = by-range (λ v. s.mate v ≢ v → T (edge s v (s.mate v)))
        (λ v l d. implied-by (not (eqb (s.mate v) v)) _ (every-all (link_test s) s.n p.links v l)
        (not_T (eqb (s.mate v) v) (λ e. d (eqb→eq (s.mate v) v e))))
        (λ v l d. absurd (d (alone v l)));
    mates-level = by-range (λ v. s.rank (s.mate v) ≡ s.rank v)
        (λ v l. eqb→eq (s.rank (s.mate v)) (s.rank v) (every-all (level_test s) s.n p.levels v l)) (λ v l. ap s.rank (alone v l));
    free-low = by-range (λ v. s.mate v ≡ v → s.rank v ≡ 0)
        (λ v l e. eqb→eq (s.rank v) 0
        (implied-by (eqb (s.mate v) v) _ (every-all (free_test s) s.n p.free v l) (true-T (eqb_yes (s.mate v) v e))))
        (λ v l e. past v l);
    low_free = by-range (λ v. s.rank v ≡ 0 → s.mate v ≡ v)
        (λ v l e. eqb→eq (s.mate v) v
        (implied-by (eqb (s.rank v) 0) _ (every-all (low_test s) s.n p.low v l) (true-T (eqb_yes (s.rank v) 0 e))))
        (λ v l e. alone v l);
    phi-low = by-range (λ v. (j : ℕ) → j ≤ R.top → phi s v j < R.thr j)
        (λ v l j i. ltb→lt (phi s v j) (R.thr j)
        (every-all (λ j. ltb (phi s v j) (R.thr j)) (suc R.top) (every-all (phi_test R s) s.n p.counts v l) j (omega arith)))
        (λ v l j i. omega (arith, pos j, phi_none s inside v j l));
  }

-- A rack that is laid down: its settings, and the ranks, mates and owners of n vertices, whatever is said of others.
unfoldable pub laid : ℕ → ℕ → ℕ → (ℕ → ℕ) → (ℕ → ℕ) → (ℕ → ℕ → Bool) → State
laid growth top n rank mate owns = record {
  kind = low_with growth top;
  n = n;
  rank = λ v. cond (leb n v) 0 (rank v);
  mate = λ v. cond (leb n v) v (mate v);
  owns = λ v w. ltb v n && (ltb w n && owns v w);
}

-- It is sound, by a test of its vertices: a valid rack, and so are its bytes.
pub laid-sound : (growth top n : ℕ) (rank mate : ℕ → ℕ) (owns : ℕ → ℕ → Bool) → least_growth ≤ growth → growth ≤ most_growth → top < low.levels → 1 ≤ n
    → n ≤ low.most → T (tested (rules (low_with growth top)) (laid growth top n rank mate owns)) → T (sound low (write (laid growth top n rank mate owns)))
unfolding laid
laid-sound growth top n rank mate owns a b c some few h =
    let kind = low-kind growth top a b c in
    write-sound (laid growth top n rank mate owns) kind
    (tested-valid (rules (low_with growth top)) (thr-pos kind) (laid growth top n rank mate owns) some few
    (λ v w t. (ltb→lt v n (and_left (ltb v n) _ t), ltb→lt w n (and_left (ltb w n) _ (and_right (ltb v n) _ t))))
    (λ v l. rw (leb_yes n v l) refl) (λ v l. rw (leb_yes n v l) refl) h)
