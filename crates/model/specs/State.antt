-- Document 01, "Words of the rack": what a rack holds, free of its bytes. A board is a vertex, a link an edge, an idle vertex is free,
-- a waiting one is pending. Assumes nothing.
use Rattle.std.specs.Prelude.{Bool, true, false, ◌&&◌, ◌||◌, ℕ, suc, ◌^◌, ◌≤◌, ◌<◌, leb, ltb, eqb}
use Rattle.model.specs.Counting.{sum, count}
use Rattle.model.specs.Shape.{Shape, GoodShape, low}

-- what the moves ask of a rack's settings: the highest level, and the threshold of each level
pub record Rules : Type 0 where
  pub top : ℕ
  pub thr : ℕ → ℕ

-- What no change of a rack alters, beside n: its shape, and its settings. W-207: "A rack is made with growth g [..] and top level t"
pub record Kind : Type 0 where
  pub shape : Shape
  pub growth : ℕ
  pub top : ℕ

-- "The threshold at j is g to the power j, levels stop at t". In sentences of 01 that are quoted, [g] and [t] stand "for 4 and 3".
abbrev pub rules : Kind → Rules
rules K = record { top = K.top; thr = λ j. K.growth ^ j }

-- "growth g from 2 to 8"
abbrev pub least_growth : ℕ
least_growth = 2

abbrev pub most_growth : ℕ
most_growth = 8

-- settings in their ranges: "growth g from 2 to 8 and top level t from 0 to 3", a level that the shape has counts for
pub record InRange (K : Kind) : Type 0 where
  pub least : least_growth ≤ K.growth
  pub most : K.growth ≤ most_growth
  pub room : K.top < K.shape.levels

-- What is asked of a kind. Everything that is shown of a rack is shown for any kind that has it.
pub record GoodKind (K : Kind) : Type 0 where
  pub shape : GoodShape K.shape
  pub range : InRange K

-- the kind of document 01's rack with these settings
abbrev pub low_with : ℕ → ℕ → Kind
low_with growth top = record { shape = low; growth = growth; top = top }

-- "the short line means 4 and 3", "The short form of making gives 4 and 3 also"
abbrev pub short_growth : ℕ
short_growth = 4

abbrev pub short_top : ℕ
short_top = 3

abbrev pub low_kind : Kind
low_kind = low_with short_growth short_top

-- A rack: its n vertices are the numbers below n. The rank of a vertex is its level plus 1, so that a level below j is a rank of at
-- most j. "Each board has [..] at most one mate; without one it is idle": a free vertex is its own mate here.
-- "A link has one owner among its ends": `owns v w` says that v owns the edge v-w. From n on, ranks are 0, mates are the vertices
-- themselves, and nothing is owned.
pub record State : Type 0 where
  pub kind : Kind
  pub n : ℕ
  pub rank : ℕ → ℕ
  pub mate : ℕ → ℕ
  pub owns : ℕ → ℕ → Bool

-- "A link joins two different boards": there is an edge where one of its ends owns it; "linked boards are neighbours"
unfoldable pub edge : State → ℕ → ℕ → Bool
edge s v w = s.owns v w || s.owns w v

-- w is a neighbour of v, of a level below j
unfoldable pub near : State → ℕ → ℕ → ℕ → Bool
near s v j w = edge s v w && leb (s.rank w) j

-- the number of neighbours of v whose level is below j
unfoldable pub below : State → ℕ → ℕ → ℕ
below s v j = count (near s v j) s.n

-- "The count of board v at j (0 to [t]) is the number of neighbours whose level is below j if j is above v's level, and otherwise 0."
unfoldable pub phi : State → ℕ → ℕ → ℕ
phi s v j = elim (leb (s.rank v) j) [ true ↦ below s v j | false ↦ 0 ]

-- the number of edges among the vertices below n, each at its lower end
abbrev pub edge_count : ℕ → (ℕ → ℕ → Bool) → ℕ
edge_count n there = sum (λ v. count (λ w. ltb v w && there v w) n) n

unfoldable pub edges : State → ℕ
edges s = edge_count s.n (edge s)

-- "without one it is idle"
unfoldable pub free : State → ℕ → Bool
free s v = eqb (s.mate v) v

-- "A board is waiting if it is idle at level 0 or more": v is pending at level i
unfoldable pub pending : State → ℕ → ℕ → Bool
pending s i v = free s v && eqb (s.rank v) (suc i)

-- the pairs held, each at its lower vertex
unfoldable pub pairs : State → ℕ
pairs s = count (λ v. ltb v (s.mate v)) s.n

-- the rack of n vertices with no edge
unfoldable pub empty : Kind → ℕ → State
empty K n = record { kind = K; n = n; rank = λ v. 0; mate = λ v. v; owns = λ v w. false }
