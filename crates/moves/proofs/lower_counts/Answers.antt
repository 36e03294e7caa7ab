-- `moves::lower_counts` meets its contract. The loop's invariant: the vertices of u's row that the walk has passed have their new counts.
-- Assumes nothing.
use mathlib.Core.Path.{◌≡◌, ◌∙◌}
use Prim.Native.Nat.{ℕ, ◌≤◌, ◌<◌}
use native.Mathlib.Omega.{arith}
use lib.Dec.{T}
use Rattle.model.specs.Counting.{upd}
use Rattle.model.specs.Shape.{low}
use Rattle.model.specs.State.{State}
use Rattle.model.specs.Bytes.{phi_at, read}
use Rattle.moves.specs.Counts.{hit, lowered_counts}
use Rattle.moves.proofs.Held.{held-room, held-rank}
use Rattle.moves.proofs.Recount.{hit-counted}
use Rattle.moves.proofs.Choices.{hit-of}
use Rattle.model.proofs.Shapes.{low-good}
use Rattle.layout.proofs.Walks.{row-whole}
use Rattle.layout.proofs.Reached.{reached, further-less}
use Rattle.moves.proofs.CountWalk.{Counted, counted-rank, counted-phi, Walk, u-small, row-starts, w-reached, w-small, w-owned, row-goes-on, row_ends, row_low, lowered-quiet, lowered-turn}
use Rattle.moves.proofs.lower_counts.Goals.{After-place-w, After-rank-r, At-loop-at, In-loop-at, After-step_counts, Start}
use Rattle.moves.proofs.lower_counts.Goals as goal

walk : (d : Start)
    → Walk low d.args.rack.now (lowered_counts (read low d.args.rack.now) d.args.i d.args.u) d.args.u
walk d = record {
  held = d.requires.held;
  inside = d.requires.u_bound.0;
  quiet = lowered-quiet (read low d.args.rack.now) d.args.i d.args.u;
}

level : (at : At-loop-at) → at.args.i < low.levels
level at = omega (arith, held-room at.requires.held, at.requires.u_bound.2)

abbrev state : At-loop-at → State
state at = read low at.args.rack.now

some : (c : In-loop-at) → 0 < c.loop-at.at.rest
some c = omega (arith, c.loop-at-test.true)

-- what holds in a turn
place : (c : After-place-w) → c.place-w.result ≡ reached low.most c.loop-at.at
place c = w-reached (walk (goal.at.After-place-w c).Start) c.loop-at.invariant (some (goal.at.After-place-w c).In-loop-at) c.place-w.ensures

small : (c : After-place-w) → c.place-w.result < low.most
small c = w-small (walk (goal.at.After-place-w c).Start) c.loop-at.invariant (some (goal.at.After-place-w c).In-loop-at) c.place-w.ensures

owned : (c : After-place-w) → T ((state (goal.at.After-place-w c).At-loop-at).owns c.args.u c.place-w.result)
owned c = w-owned (walk (goal.at.After-place-w c).Start) c.loop-at.invariant (some (goal.at.After-place-w c).In-loop-at) c.place-w.ensures

from_is : (at : At-loop-at) → at.rank-from.result ≡ (state at).rank at.args.u
from_is at =
    at.rank-from.ensures ∙ held-rank at.requires.held at.args.u (u-small (walk (goal.at.At-loop-at at).Start))

rank_is : (c : After-rank-r) → c.rank-r.result ≡ (state (goal.at.After-rank-r c).At-loop-at).rank c.place-w.result
rank_is c =
    let l = c.loop-at in
    c.rank-r.ensures ∙ counted-rank
    (state (goal.at.After-rank-r c).At-loop-at) c.requires.held.proper l.invariant.counts l.rack l.invariant.is c.place-w.result
    (small (goal.at.After-rank-r c).After-place-w)

rank-low : (c : After-place-w) → (state (goal.at.After-place-w c).At-loop-at).rank c.place-w.result ≤ c.args.i
rank-low c =
    row_low (state (goal.at.After-place-w c).At-loop-at) c.args.i c.args.u c.place-w.result c.requires.row_below (owned c)

-- w's counts from both ranks up to i are at least 1
counted : (c : After-place-w) (x : ℕ) → c.rank-from.result ≤ x
    → (state (goal.at.After-place-w c).At-loop-at).rank c.place-w.result ≤ x → x ≤ c.args.i
    → 1 ≤ phi_at low c.loop-at.rack c.place-w.result x
counted c x p q r =
    let a = c.args in
    let l = c.loop-at in
    let s = state (goal.at.After-place-w c).At-loop-at in
    let w = c.place-w.result in
    let there : T (hit s a.i a.u w x) = hit-of s a.i a.u w x (owned c) (omega (arith, from_is (goal.at.After-place-w c).At-loop-at)) q r in
    omega (
      arith,
      counted-phi s c.requires.held.proper l.invariant.counts l.rack l.invariant.is w x (small c)
          (omega (arith, level (goal.at.After-place-w c).At-loop-at)),
      l.invariant.left w x (omega (arith, place c)),
      hit-counted s c.requires.held.proper a.i a.u w x there,
    )

-- after the step w has its new counts
turned : (c : After-step_counts)
    → let a = c.args in
    let w = c.place-w.result in Counted (state (goal.at.After-step_counts c).At-loop-at)
    (upd c.loop-at.invariant.counts w (lowered_counts (state (goal.at.After-step_counts c).At-loop-at) a.i a.u w)) c.step_counts.new.rack
turned c =
    let a = c.args in
    let l = c.loop-at in
    let f = from_is (goal.at.After-step_counts c).At-loop-at in
    let r = rank_is (goal.at.After-step_counts c).After-rank-r in
    let b = rank-low (goal.at.After-step_counts c).After-place-w in
    let m = c.max-j.ensures in
    let under = c.requires.u_bound in
    let s = state (goal.at.After-step_counts c).At-loop-at in
    let at = place (goal.at.After-step_counts c).After-place-w in
    let few = small (goal.at.After-step_counts c).After-place-w in
    lowered-turn s c.requires.held.proper a.i a.u l.rack l.at l.invariant c.place-w.result c.step_counts.new.rack at few under.2
    (owned (goal.at.After-step_counts c).After-place-w) c.max-j.result
    (omega arith) (omega arith) (λ x p q. omega arith) (omega arith) c.step_counts.ensures

pub loop-at-init : goal.loop-at-init
loop-at-init c = row-starts (walk (goal.at.loop-at-init c).Start) c.first-at.ensures

pub overflow_sub-i : goal.overflow_sub-i
overflow_sub-i c =
    omega (
      arith,
      from_is (goal.at.overflow_sub-i c).At-loop-at,
      rank_is (goal.at.overflow_sub-i c).After-rank-r,
      rank-low (goal.at.overflow_sub-i c).After-place-w,
      c.max-j.ensures,
    )

pub step_counts-requires : goal.step_counts-requires
step_counts-requires c =
    let r = rank_is (goal.at.step_counts-requires c).After-rank-r in
    let f = from_is (goal.at.step_counts-requires c).At-loop-at in
    let b = rank-low (goal.at.step_counts-requires c).After-place-w in
    let m = c.max-j.ensures in
    record {
      w_lt_most = (small (goal.at.step_counts-requires c).After-place-w, omega (arith, level (goal.at.step_counts-requires c).At-loop-at));
      by_index = λ x a b. counted (goal.at.step_counts-requires c).After-place-w x (omega arith) (omega arith) (omega arith);
    }

pub loop-at-smaller : goal.loop-at-smaller
loop-at-smaller c = let here = c.loop-at.invariant.here (some (goal.at.loop-at-smaller c).In-loop-at) in
    omega (
      arith,
      small (goal.at.loop-at-smaller c).After-place-w,
      place (goal.at.loop-at-smaller c).After-place-w,
      further-less (row-whole low-good)
          (some (goal.at.loop-at-smaller c).In-loop-at) here c.next-at.ensures,
    )

pub loop-at-preserved : goal.loop-at-preserved
loop-at-preserved c = row-goes-on (walk (goal.at.loop-at-preserved c).Start) c.loop-at.invariant
    (some (goal.at.loop-at-preserved c).In-loop-at) c.place-w.ensures (turned (goal.at.loop-at-preserved c).After-step_counts) c.next-at.ensures

pub returns : goal.returns
returns c = row_ends (walk (goal.at.returns c).Start) c.loop-at.invariant c.loop-at-test.false
