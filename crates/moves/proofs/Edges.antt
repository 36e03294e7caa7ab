-- The edges of a proper state: who owns one, which vertices are near, and that turning edges at one vertex keeps the state proper and the
-- edges as they are. Assumes nothing.
use mathlib.Core.Path.{◌≡◌, ap}
use mathlib.Core.Logic.{◌⊎◌, inl, inr}
use mathlib.Core.Bool.{Bool}
use Prim.Native.Nat.{ℕ, ◌≤◌}
use native.Mathlib.Omega.{arith}
use lib.Dec.{T, leb, leb→le, le→leb}
use Rattle.model.specs.State.{Kind, State, edge, near}
use Rattle.model.specs.Moves.{owned_by}
use Rattle.model.specs.Change.{reown}
use Rattle.model.proofs.Tests.{and_intro, and_left, and_right, or_cases, or_left, or_right}
use Rattle.model.proofs.Limits.{edge-within}
use Rattle.theory.proofs.Marks.{Marks, marks, Simple}
use Rattle.theory.proofs.Ownership.{Owns, turned-owns, owners-edges}
use Rattle.moves.specs.Proper.{Proper, Ordered}

module _ (s : State) where
  pub edge-cases : (v w : ℕ) → T (edge s v w) → T (s.owns v w) ⊎ T (s.owns w v)
  unfolding edge
  edge-cases v w t = or_cases (s.owns v w) (s.owns w v) t

  pub edge_of : (v w : ℕ) → T (s.owns v w) → T (edge s v w)
  unfolding edge
  edge_of v w t = or_left (s.owns v w) (s.owns w v) t

  pub edge-back : (v w : ℕ) → T (s.owns w v) → T (edge s v w)
  unfolding edge
  edge-back v w t = or_right (s.owns v w) (s.owns w v) t

  pub edge-turn : (v w : ℕ) → T (edge s v w) → T (edge s w v)
  edge-turn v w t = elim (edge-cases v w t) [ inl o ↦ edge-back w v o | inr o ↦ edge_of w v o ]

  pub near_of : (v j w : ℕ) → T (edge s v w) → s.rank w ≤ j → T (near s v j w)
  unfolding near
  near_of v j w h k = and_intro (edge s v w) (leb (s.rank w) j) h (le→leb (s.rank w) j k)

  pub near-edge : (v j w : ℕ) → T (near s v j w) → T (edge s v w)
  unfolding near
  near-edge v j w h = and_left (edge s v w) (leb (s.rank w) j) h

  pub near-low : (v j w : ℕ) → T (near s v j w) → s.rank w ≤ j
  unfolding near
  near-low v j w h = leb→le (s.rank w) j (and_right (edge s v w) (leb (s.rank w) j) h)

-- marks that are all alike: no owner is too low for them
abbrev flat : Marks
flat = record { rank = λ v. 0; mate = λ v. v }

module _ {K : Kind} (s : State) (p : Proper K s) where
  pub edge-loop : (v : ℕ) → T (edge s v v) → ⊥
  edge-loop v t = elim (edge-cases s v v t) [ inl o ↦ p.no_loop v o | inr o ↦ p.no_loop v o ]

  pub simple : Simple s.n (edge s)
  simple = record { turn = edge-turn s; no_loop = edge-loop; inside = λ v w t. (edge-within s p.inside v w t).1 }

  pub owners : Ordered s → Owns (edge s) s.owns (marks s)
  owners o = record { edges = edge_of s; some = edge-cases s; one = p.owned-once; high = o }

  -- edges of u are turned, whichever way: each still has one owner
  module _ (u : ℕ) (q : ℕ → Bool) (d : Bool) (inside : (x : ℕ) → T (q x) → T (edge s u x)) where
    turned-flat : Owns (edge s) (owned_by u q d s.owns) flat
    turned-flat =
        turned-owns s.n (edge s) s.owns simple u q d inside flat flat
        (record { edges = edge_of s; some = edge-cases s; one = p.owned-once; high = λ v w t. omega arith })
        (λ v w t. omega arith)

    pub turned-edge : (v w : ℕ) → edge (reown s (owned_by u q d s.owns)) v w ≡ edge s v w
    unfolding edge reown
    turned-edge v w = ap (λ (f : ℕ → ℕ → Bool). f v w) (owners-edges s.n (edge s) (owned_by u q d s.owns) flat simple turned-flat)

    pub turned-proper : Proper K (reown s (owned_by u q d s.owns))
    unfolding reown
    turned-proper = record {
      kind = p.kind;
      good = p.good;
      range = p.range;
      few = p.few;
      inside = λ v w t. edge-within s p.inside v w (turned-flat.edges v w t);
      past-rank = p.past-rank;
      past-mate = p.past-mate;
      ranks = p.ranks;
      mates = p.mates;
      no_loop = λ v t. edge-loop v (turned-flat.edges v v t);
      owned-once = turned-flat.one;
    }
