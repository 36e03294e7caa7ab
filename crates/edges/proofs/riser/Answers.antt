-- `edges::riser` meets its contract. Assumes nothing.
use mathlib.Core.Path.{◌≡◌, sym, ◌∙◌}
use mathlib.Core.List.{List}
use Prim.Native.Nat.{ℕ, suc, ◌-◌, ◌^◌, ◌<◌}
use native.Mathlib.Omega.{arith}
use lib.ListN.{get_or}
use Rattle.model.specs.Shape.{low}
use Rattle.model.specs.State.{State}
use Rattle.model.specs.Bytes.{growth_at, top_at, rules_at, phi_at, phi_entry, read}
use Rattle.moves.specs.Proper.{Held}
use Rattle.moves.proofs.Held.{proper-ranks, held-range, held-room, held_small}
use Rattle.edges.proofs.Search.{held-entry, search-ends, Above, search-starts, search-a, search-b, search-on}
use Rattle.edges.proofs.Shifted.{Higher, higher-of}
use Rattle.edges.proofs.riser.Goals.{After-loop-j, At-loop-j, Else-bars-j, In-loop-j}
use Rattle.edges.proofs.riser.Goals as goal

abbrev rack-of : At-loop-j → List ℕ
rack-of c = c.args.rack.now

abbrev state-of : At-loop-j → State
state-of c = read low (rack-of c)

abbrev a-of : At-loop-j → ℕ
a-of c = c.args.a

abbrev b-of : At-loop-j → ℕ
b-of c = c.args.b

held : (c : At-loop-j) → Held low (rack-of c)
held c = c.requires.held

a_small : (c : At-loop-j) → a-of c < low.most
a_small c = held_small (held c) (a-of c) c.requires.a_bound.0

b-small : (c : At-loop-j) → b-of c < low.most
b-small c = held_small (held c) (b-of c) c.requires.a_bound.1

-- where the search ends
higher : (c : At-loop-j) → Higher (a-of c) (b-of c) c.max-low.result (state-of c)
higher c = higher-of (held c) (a-of c) (b-of c) (a_small c) (b-small c) c.rank.ensures c.rank-2.ensures c.max-low.ensures

-- the level j - 1 is above both ends
above : (c : In-loop-j) → Above (a-of (goal.at.In-loop-j c).At-loop-j) (b-of (goal.at.In-loop-j c).At-loop-j) c.loop-j.j
    (state-of (goal.at.In-loop-j c).At-loop-j)
above c =
    let h = higher (goal.at.In-loop-j c).At-loop-j in
    record { some = omega arith; a-low = omega (arith, h.a-low); b-low = omega (arith, h.b-low) }

level : (c : In-loop-j) → c.loop-j.j - 1 < low.levels
level c = omega (arith, (above c).some)

-- the threshold of the level j - 1
bar : (c : In-loop-j)
    → get_or c.thresholds-bars.result (c.loop-j.j - 1) 0 ≡ growth_at (rack-of (goal.at.In-loop-j c).At-loop-j) ^ (c.loop-j.j - 1)
bar c = c.thresholds-bars.ensures.1 (c.loop-j.j - 1) (level c)

-- a count at the level j - 1
a-count : (c : In-loop-j)
    → phi_at low (rack-of (goal.at.In-loop-j c).At-loop-j) (a-of (goal.at.In-loop-j c).At-loop-j) (c.loop-j.j - 1) ≡ phi_entry
    (state-of (goal.at.In-loop-j c).At-loop-j) (a-of (goal.at.In-loop-j c).At-loop-j) (c.loop-j.j - 1)
a-count c = held-entry (held (goal.at.In-loop-j c).At-loop-j) (a-of (goal.at.In-loop-j c).At-loop-j) (c.loop-j.j - 1)
    (a_small (goal.at.In-loop-j c).At-loop-j) (level c)

b-count : (c : In-loop-j)
    → phi_at low (rack-of (goal.at.In-loop-j c).At-loop-j) (b-of (goal.at.In-loop-j c).At-loop-j) (c.loop-j.j - 1) ≡ phi_entry
    (state-of (goal.at.In-loop-j c).At-loop-j) (b-of (goal.at.In-loop-j c).At-loop-j) (c.loop-j.j - 1)
b-count c = held-entry (held (goal.at.In-loop-j c).At-loop-j) (b-of (goal.at.In-loop-j c).At-loop-j) (c.loop-j.j - 1)
    (b-small (goal.at.In-loop-j c).At-loop-j) (level c)

pub rank-requires : goal.rank-requires
rank-requires c = record { v_lt_most = held_small c.requires.held c.args.a c.requires.a_bound.0 }

pub rank-requires-2 : goal.rank-requires-2
rank-requires-2 c = record { v_lt_most = held_small c.requires.held c.args.b c.requires.a_bound.1 }

pub thresholds-bars-requires : goal.thresholds-bars-requires
thresholds-bars-requires c = let h = c.requires.held in record { in_range = held-range h }

pub phi-requires : goal.phi-requires
phi-requires c = record {
  v_lt_most = omega (arith, a_small (goal.at.phi-requires c).At-loop-j, b-small (goal.at.phi-requires c).At-loop-j);
  j_lt_levels = omega (arith, level c);
}

pub phi-requires-in-loop-j : goal.phi-requires-in-loop-j
phi-requires-in-loop-j c = record {
  v_lt_most = omega (arith, a_small (goal.at.phi-requires-in-loop-j c).At-loop-j, b-small (goal.at.phi-requires-in-loop-j c).At-loop-j);
  j_lt_levels = omega (arith, level (goal.at.phi-requires-in-loop-j c).In-loop-j);
}

-- a's count does not reach the level
a-under : (c : Else-bars-j)
    → phi_entry (state-of (goal.at.Else-bars-j c).At-loop-j) (a-of (goal.at.Else-bars-j c).At-loop-j) (c.loop-j.j - 1) < growth_at
    (rack-of (goal.at.Else-bars-j c).At-loop-j) ^ (c.loop-j.j - 1)
a-under c = omega (arith, a-count (goal.at.Else-bars-j c).In-loop-j, c.if-bars-j.false, c.phi.ensures, bar (goal.at.Else-bars-j c).In-loop-j)

pub loop-j-init : goal.loop-j-init
loop-j-init c = let r = c.args.rack.now in
    search-starts (rules_at r) c.args.a c.args.b low.levels (read low r) (omega (arith, held-room c.requires.held))

pub loop-j-preserved : goal.loop-j-preserved
loop-j-preserved c = search-on (a-of (goal.at.loop-j-preserved c).At-loop-j) (b-of (goal.at.loop-j-preserved c).At-loop-j) c.loop-j.j
    (state-of (goal.at.loop-j-preserved c).At-loop-j) (held (goal.at.loop-j-preserved c).At-loop-j).proper
    (above (goal.at.loop-j-preserved c).In-loop-j) c.loop-j.invariant (a-under (goal.at.loop-j-preserved c).Else-bars-j)
    (omega (
      arith,
      b-count (goal.at.loop-j-preserved c).In-loop-j,
      c.if-bars-j-2.false,
      c.phi-in-loop-j.ensures,
      bar (goal.at.loop-j-preserved c).In-loop-j,
    ))

-- the ranks are at most the top level's, so that a search that ends at them is not above the top
pub returns-after-loop-j : goal.returns-after-loop-j
returns-after-loop-j c = let at = (goal.at.returns-after-loop-j c).At-loop-j in
    let p = (held at).proper in
    let h = higher at in
    let l = h.least (suc (top_at (rack-of at))) (proper-ranks p (a-of at)) (proper-ranks p (b-of at)) in
    sym (search-ends (rules_at (rack-of at)) (a-of at) (b-of at) c.loop-j.j (state-of at) (λ x p q. omega (arith, c.loop-j-test.false, h.least x p q)))
    ∙ c.loop-j.invariant (omega (arith, c.loop-j-test.false, l))

pub returns-then-bars-j : goal.returns-then-bars-j
returns-then-bars-j c = search-a (a-of (goal.at.returns-then-bars-j c).At-loop-j) (b-of (goal.at.returns-then-bars-j c).At-loop-j) c.loop-j.j
    (state-of (goal.at.returns-then-bars-j c).At-loop-j) (held (goal.at.returns-then-bars-j c).At-loop-j).proper
    (above (goal.at.returns-then-bars-j c).In-loop-j) c.loop-j.invariant
    (omega (
      arith,
      a-count (goal.at.returns-then-bars-j c).In-loop-j,
      c.if-bars-j.true,
      c.phi.ensures,
      bar
          (goal.at.returns-then-bars-j c).In-loop-j,
    ))

pub returns-then-bars-j-2 : goal.returns-then-bars-j-2
returns-then-bars-j-2 c = search-b (a-of (goal.at.returns-then-bars-j-2 c).At-loop-j) (b-of (goal.at.returns-then-bars-j-2 c).At-loop-j) c.loop-j.j
    (state-of (goal.at.returns-then-bars-j-2 c).At-loop-j) (held (goal.at.returns-then-bars-j-2 c).At-loop-j).proper
    (above (goal.at.returns-then-bars-j-2 c).In-loop-j) c.loop-j.invariant (a-under (goal.at.returns-then-bars-j-2 c).Else-bars-j)
    (omega (
      arith,
      b-count (goal.at.returns-then-bars-j-2 c).In-loop-j,
      c.if-bars-j-2.true,
      c.phi-in-loop-j.ensures,
      bar
          (goal.at.returns-then-bars-j-2 c).In-loop-j,
    ))
