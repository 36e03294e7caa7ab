-- `settling::take` meets its contract. Assumes nothing.
use mathlib.Core.Path.{◌≡◌, ap, ◌∙◌}
use Prim.Native.Nat.{ℕ, ◌≤◌, ◌<◌, ◌^◌}
use native.Mathlib.Omega.{arith}
use Rattle.model.specs.Shape.{low}
use Rattle.model.specs.Bytes.{growth_at}
use Rattle.moves.proofs.Held.{held-range}
use Rattle.settling.proofs.Takes.{Handed, handed-growth, handed-held, handed-waits, handed-falls, handed-draws, taken-draws, taken-falls}
use Rattle.settling.proofs.take.Goals.{After-hand_over-k, After-threshold-bar, Else-bar-k, Then-bar-k}
use Rattle.settling.proofs.take.Goals as goal

handed : (c : After-hand_over-k) →
    let a = c.args in
    Handed low a.rack.now a.progress.now a.i a.v c.hand_over-k.result.below c.hand_over-k.new.rack c.leave.new.self
handed c =
    record {
      held = c.requires.held.0;
      ordered = c.requires.held.1;
      inside = c.requires.v_bound.0;
      free = c.requires.v_bound.1;
      rank = c.requires.v_bound.2;
      level = c.requires.v_bound.3;
      holds = c.requires.holds_waiting.0;
      left = c.leave.ensures;
      bytes = c.hand_over-k.ensures.rack_after;
      size = c.hand_over-k.ensures.below_value;
    }

-- what the test says of the vertices below
abbrev bar : After-threshold-bar → ℕ
bar c = let a = c.args in growth_at a.rack.now ^ a.i

bar-is : (c : After-threshold-bar) → c.threshold-bar.result ≡ bar c
bar-is c = c.threshold-bar.ensures ∙ ap (λ (g : ℕ). g ^ c.args.i) (handed-growth (handed (goal.at.After-threshold-bar c).After-hand_over-k))

enough : (c : Then-bar-k) → bar (goal.at.Then-bar-k c).After-threshold-bar ≤ c.hand_over-k.result.below
enough c = omega (arith, c.if-bar-k.true, bar-is (goal.at.Then-bar-k c).After-threshold-bar)

few : (c : Else-bar-k) → c.hand_over-k.result.below < bar (goal.at.Else-bar-k c).After-threshold-bar
few c = omega (arith, c.if-bar-k.false, bar-is (goal.at.Else-bar-k c).After-threshold-bar)

pub threshold-bar-requires-clause-in_range : goal.threshold-bar-requires-clause-in_range
threshold-bar-requires-clause-in_range c = held-range (handed-held (handed (goal.at.threshold-bar-requires-clause-in_range c).After-hand_over-k)).0

pub draw-requires : goal.draw-requires
draw-requires c =
    let all = handed-draws (handed (goal.at.draw-requires c).After-hand_over-k) (enough (goal.at.draw-requires c).Then-bar-k)
    (omega (arith, c.requires.holds_waiting.1.draws)) in
    record { held = all.0; u_bound = all.1.0; row_below = all.1.1.0; holds_waiting_but = all.1.1.1 }

pub returns-then-bar-k : goal.returns-then-bar-k
returns-then-bar-k c = taken-draws (handed (goal.at.returns-then-bar-k c).After-hand_over-k) c.args.words.now
    (enough (goal.at.returns-then-bar-k c).Then-bar-k) c.draw.ensures

pub fall-requires : goal.fall-requires
fall-requires c = let a = handed (goal.at.fall-requires c).After-hand_over-k in
    record {
      held = handed-held a;
      falling = handed-falls a c.threshold-bar.ensures;
      holds_waiting_but = (handed-waits a, c.requires.holds_waiting.1);
    }

pub returns : goal.returns
returns c = taken-falls (handed (goal.at.returns c).After-hand_over-k) c.args.words.now (few (goal.at.returns c).Else-bar-k) c.fall.ensures
