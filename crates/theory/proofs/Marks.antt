-- What the proofs look at: the marks of the vertices (ranks and mates), the setting in which they change, the moves as relations between
-- the marks before and after, and the invariant. Whatever meets a move's equations serves, so that what is shown here holds for any
-- thresholds, any top level, any order of taking and any chosen neighbour. Assumes nothing.
use mathlib.Core.Path.{◌≡◌}
use mathlib.Core.Logic.{◌≢◌}
use mathlib.Core.Bool.{Bool, ◌&&◌}
use mathlib.Core.List.{List}
use Prim.Native.Nat.{ℕ, suc, ◌≤◌, ◌<◌}
use lib.Dec.{T, leb, leb→le, le→leb}
use Rattle.model.specs.Lists.{Mem}
use Rattle.model.specs.Counting.{count}
use Rattle.model.specs.State.{Rules, Kind, State, edge as edges-of}
use Rattle.model.proofs.Tests.{and_intro, and_left, and_right}
pub use Rattle.theory.specs.Waiting.{Marks, marks}

-- what does not change while a state settles: the kind of rack, the number of vertices, the top level, the thresholds and the edges
pub record Setting : Type 0 where
  pub kind : Kind
  pub n : ℕ
  pub top : ℕ
  pub thr : ℕ → ℕ
  pub edge : ℕ → ℕ → Bool

-- the setting of a state under the rules, and the rules of a setting
abbrev pub setting : Rules → State → Setting
setting R s = record { kind = s.kind; n = s.n; top = R.top; thr = R.thr; edge = edges-of s }

abbrev pub rules : Setting → Rules
rules P = record { top = P.top; thr = P.thr }

-- the same setting with other edges
abbrev pub rejoin : Setting → (ℕ → ℕ → Bool) → Setting
rejoin P there = record { kind = P.kind; n = P.n; top = P.top; thr = P.thr; edge = there }

-- the edges join two different vertices below n, both ways
pub record Simple (n : ℕ) (there : ℕ → ℕ → Bool) : Type 0 where
  pub turn : (v w : ℕ) → T (there v w) → T (there w v)
  pub no_loop : (v : ℕ) → T (there v v) → ⊥
  pub inside : (v w : ℕ) → T (there v w) → w < n

-- w is a neighbour of v, of a level below j
unfoldable pub near_in : Setting → Marks → ℕ → ℕ → ℕ → Bool
near_in P s v j w = P.edge v w && leb (s.rank w) j

pub near_of : (P : Setting) (s : Marks) (v j w : ℕ) → T (P.edge v w) → s.rank w ≤ j → T (near_in P s v j w)
unfolding near_in
near_of P s v j w h k = and_intro (P.edge v w) (leb (s.rank w) j) h (le→leb (s.rank w) j k)

pub near-edge : (P : Setting) (s : Marks) (v j w : ℕ) → T (near_in P s v j w) → T (P.edge v w)
unfolding near_in
near-edge P s v j w h = and_left (P.edge v w) (leb (s.rank w) j) h

pub near-low : (P : Setting) (s : Marks) (v j w : ℕ) → T (near_in P s v j w) → s.rank w ≤ j
unfolding near_in
near-low P s v j w h = leb→le (s.rank w) j (and_right (P.edge v w) (leb (s.rank w) j) h)

-- the number of neighbours of v whose level is below j: the count phi, where j is above v's level
unfoldable pub below_in : Setting → Marks → ℕ → ℕ → ℕ
below_in P s v j = count (near_in P s v j) P.n

-- The moves.
-- w's pair, if any, is parted, and w goes up to rank l (parting alone is the case that l is w's rank)
pub record Lift (l w : ℕ) (s s' : Marks) : Type 0 where
  pub rank-w : s'.rank w ≡ l
  pub rank-o : (x : ℕ) → x ≢ w → s'.rank x ≡ s.rank x
  pub mate-w : s'.mate w ≡ w
  pub mate-z : s'.mate (s.mate w) ≡ s.mate w
  pub mate-o : (x : ℕ) → x ≢ w → x ≢ s.mate w → s'.mate x ≡ s.mate x

-- u and y become mates
pub record Pair (u y : ℕ) (s s' : Marks) : Type 0 where
  pub rank-o : (x : ℕ) → s'.rank x ≡ s.rank x
  pub mate-u : s'.mate u ≡ y
  pub mate-y : s'.mate y ≡ u
  pub mate-o : (x : ℕ) → x ≢ u → x ≢ y → s'.mate x ≡ s.mate x

-- v falls to rank i
pub record Fall (i v : ℕ) (s s' : Marks) : Type 0 where
  pub rank-v : s'.rank v ≡ i
  pub rank-o : (x : ℕ) → x ≢ v → s'.rank x ≡ s.rank x
  pub mate-o : (x : ℕ) → s'.mate x ≡ s.mate x

-- The invariant while a state settles. m bounds the rank of a free vertex; while the vertices of Q are still to be scanned, their counts
-- at the level of rank m may be too high. `Inv P 0 []` says that the marks are settled.
pub record Inv (P : Setting) (m : ℕ) (Q : List ℕ) (s : Marks) : Type 0 where
  pub mates-back : (v : ℕ) → s.mate (s.mate v) ≡ v
  pub mates-level : (v : ℕ) → s.rank (s.mate v) ≡ s.rank v
  pub mates-joined : (v : ℕ) → s.mate v ≢ v → T (P.edge v (s.mate v))
  pub mates-high : (v : ℕ) → s.mate v ≢ v → 1 ≤ s.rank v
  pub ranks : (v : ℕ) → s.rank v ≤ suc P.top
  pub past : (v : ℕ) → P.n ≤ v → s.rank v ≡ 0
  pub free-low : (v : ℕ) → s.mate v ≡ v → s.rank v ≤ m
  pub few : (v j : ℕ) → j ≤ P.top → s.rank v ≤ j → (suc j ≡ m → Mem v Q → ⊥) → below_in P s v j < P.thr j
