-- What follows at once for the counts of a state, and for a valid state: nothing from n on, and every number fits its place in the bytes.
-- Assumes nothing.
use mathlib.Core.Path.{◌≡◌, refl, ap}
use mathlib.Core.Logic.{◌≢◌, inl, inr}
use mathlib.Core.Bool.{Bool, true, false, ◌&&◌}
use Prim.Native.Nat.{ℕ, suc, ◌-◌, ◌*◌, ◌/◌, ◌^◌, ◌≤◌, ◌<◌}
use native.Mathlib.Nat.{one-le-pow}
use native.Mathlib.Omega.{arith}
use lib.Dec.{T, leb, ltb, leb→le}
use Rattle.model.specs.Shape.{GoodShape}
use Rattle.model.specs.Counting.{count}
use Rattle.model.specs.State.{Rules, State, edge, near, below, phi, edges}
use Rattle.model.specs.Bytes.{no_mate, half, up_to_top, mate_entry, phi_entry}
use Rattle.model.specs.Valid.{Valid}
use Rattle.model.proofs.Tests.{eq?, le?, eqb_yes, eqb_no, leb_yes, leb_no, and_left, or_cases}
use Rattle.model.proofs.Counting.{sum_bound, count_none, count-miss}

pick-le : (b : Bool) (x : ℕ) → elim b as (λ y. ℕ) [ true ↦ x | false ↦ 0 ] ≤ x
pick-le true x = omega arith
pick-le false x = omega arith

pub phi-below : (s : State) (v j : ℕ) → phi s v j ≤ below s v j
unfolding phi
phi-below s v j = pick-le (leb (s.rank v) j) (below s v j)

-- a count, where the level is above the vertex's own and where it is not
pub phi-above : (s : State) (v j : ℕ) → s.rank v ≤ j → phi s v j ≡ below s v j
unfolding phi
phi-above s v j h = rw (leb_yes (s.rank v) j h, phi) refl

pub phi-zero : (s : State) (v j : ℕ) → j < s.rank v → phi s v j ≡ 0
unfolding phi
phi-zero s v j h = rw (leb_no (s.rank v) j h, phi) refl

-- no edge is counted at its own end, so each of at most suc m vertices counts at most m
pub edges-bound : (s : State) (m : ℕ) → s.n ≤ suc m → edges s ≤ s.n * m
unfolding edges
edges-bound s m h =
    sum_bound (λ v. count (λ w. ltb v w && edge s v w) s.n) m s.n
    (λ v l. omega (
      arith,
      count-miss (λ w. ltb v w && edge s v w) v s.n l
          (λ t. let z : v < v = leb→le (suc v) v (and_left (ltb v v) _ t) in omega arith),
    ))

-- what of their number doesn't fit two bytes fits the bytes that are not spare
pub edges_fit : (s : State) → GoodShape s.kind.shape → s.n ≤ s.kind.shape.most → edges s / half < 256 ^ (2 - s.kind.shape.spare)
edges_fit s good few = elim (eq? s.kind.shape.spare 0) [
  | inl z ↦ omega (
    arith,
    ap (λ (x : ℕ). 256 ^ (2 - x)) z,
    good.named,
    edges-bound s 65535 (omega (arith, good.named)),
  )
  | inr d ↦ omega (
    arith,
    one-le-pow (2 - s.kind.shape.spare) 256 (omega arith),
    good.edges (omega arith),
    edges-bound s 255 (omega (arith, good.edges (omega arith))),
  )
]

-- a vertex that is its own mate is written as free, and any other mate as it is
pub mate_entry-free : (s : State) (v : ℕ) → s.mate v ≡ v → mate_entry s v ≡ no_mate
unfolding mate_entry
mate_entry-free s v e = rw (eqb_yes (s.mate v) v e, mate_entry) refl

pub mate_entry-mate : (s : State) (v : ℕ) → s.mate v ≢ v → mate_entry s v ≡ s.mate v
unfolding mate_entry
mate_entry-mate s v e = rw (eqb_no (s.mate v) v e, mate_entry) refl

-- a count up to the top is written as it is, and 0 above
module _ (top : ℕ) (counts : ℕ → ℕ → ℕ) (v j : ℕ) where
  pub up_to-low : j ≤ top → up_to_top top counts v j ≡ counts v j
  unfolding up_to_top
  up_to-low h = rw (leb_yes j top h, up_to_top) refl

  pub up_to-above : top < j → up_to_top top counts v j ≡ 0
  unfolding up_to_top
  up_to-above h = rw (leb_no j top h, up_to_top) refl

  pub up_to-le : up_to_top top counts v j ≤ counts v j
  unfolding up_to_top
  up_to-le = pick-le (leb j top) (counts v j)

pub up_to-same : (top : ℕ) (c d : ℕ → ℕ → ℕ) (v j : ℕ) → c v j ≡ d v j → up_to_top top c v j ≡ up_to_top top d v j
unfolding up_to_top
up_to-same top c d v j e = ap (λ (x : ℕ). elim (leb j top) as (λ y. ℕ) [ true ↦ x | false ↦ 0 ]) e

-- and so are the counts of a state
module _ (s : State) (v j : ℕ) where
  pub phi_entry-low : j ≤ s.kind.top → phi_entry s v j ≡ phi s v j
  phi_entry-low = up_to-low s.kind.top (phi s) v j

  pub phi_entry-above : s.kind.top < j → phi_entry s v j ≡ 0
  phi_entry-above = up_to-above s.kind.top (phi s) v j

  pub phi_entry-le : phi_entry s v j ≤ phi s v j
  phi_entry-le = up_to-le s.kind.top (phi s) v j

-- where nothing is owned from n on, no edge leads there, and so nothing is counted there
module _ (s : State) (inside : (v w : ℕ) → T (s.owns v w) → (v < s.n) × (w < s.n)) where
  pub edge-within : (v w : ℕ) → T (edge s v w) → (v < s.n) × (w < s.n)
  unfolding edge
  edge-within v w t = elim (or_cases (s.owns v w) (s.owns w v) t) [
    | inl o ↦ inside v w o
    | inr o ↦ ((inside w v o).1, (inside w v o).0)
  ]

  pub phi_none : (v j : ℕ) → s.n ≤ v → phi s v j ≡ 0
  unfolding below near
  phi_none v j l =
      omega (
        arith,
        phi-below s v j,
        count_none (near s v j) s.n
            (λ w b t. let i = edge-within v w (and_left (edge s v w) _ t) in omega arith),
      )

module _ {R : Rules} {s : State} (ok : Valid R s) where
  pub size_few : s.n ≤ s.kind.shape.most
  size_few = ok.few

  pub edge-inside : (v w : ℕ) → T (edge s v w) → (v < s.n) × (w < s.n)
  edge-inside v w t = edge-within s ok.inside v w t

  pub edge-loop : (v : ℕ) → T (edge s v v) → ⊥
  unfolding edge
  edge-loop v t = elim (or_cases (s.owns v v) (s.owns v v) t) [ inl o ↦ ok.no_loop v o | inr o ↦ ok.no_loop v o ]

  pub mate-past : (v : ℕ) → s.n ≤ v → s.mate v ≡ v
  mate-past v l = ok.low_free v (ok.past v l)

  pub mate-inside : (v : ℕ) → s.mate v ≢ v → s.mate v < s.n
  mate-inside v d = (edge-inside v (s.mate v) (ok.mates-linked v d)).1

  pub phi-past : (v j : ℕ) → s.n ≤ v → phi s v j ≡ 0
  phi-past v j l = phi_none s ok.inside v j l

  pub phi-few : (v j : ℕ) → phi s v j < s.kind.shape.most
  unfolding below near
  phi-few v j = elim (le? s.n v) [
    | inl l ↦ omega (arith, phi-past v j l, ok.some, size_few)
    | inr l ↦ omega (
      arith,
      size_few,
      phi-below s v j,
      count-miss (near s v j) v s.n l (λ t. edge-loop v (and_left (edge s v v) _ t)),
    )
  ]

  pub mate_entry-few : GoodShape s.kind.shape → (v : ℕ) → mate_entry s v < 65536
  mate_entry-few good v = elim (eq? (s.mate v) v) [
    | inl e ↦ omega (arith, mate_entry-free s v e)
    | inr d ↦ omega (arith, mate_entry-mate s v d, mate-inside v d, size_few, good.named)
  ]
