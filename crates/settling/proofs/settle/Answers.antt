-- `settling::settle` meets its contract. The loop's invariant is `TakingsLeft`: as many takings as are left lead from the bytes and the progress
-- as they are now to where the settling leads. Assumes nothing.
use mathlib.Core.Path.{◌≡◌, sym}
use Prim.Native.Nat.{suc, ◌<◌}
use native.Mathlib.Omega.{arith}
use Rattle.model.specs.Shape.{low}
use Rattle.model.specs.Bytes.{top_at, read}
use Rattle.model.specs.Moves.{pick, found}
use Rattle.theory.specs.Waiting.{queues_in}
use Rattle.settling.proofs.Holding.{all_of}
use Rattle.settling.proofs.SettleLoop.{taking-of, takings, takings-few, going_start, going-room, going-rest, going-used, going_on}
use Rattle.settling.proofs.settle.Goals.{In-Some}
use Rattle.settling.proofs.settle.Goals as goal

pub overflow_mul-limit : goal.overflow_mul-limit
overflow_mul-limit c = omega (arith, takings-few c.requires.held.0 _ _ c.size.ensures c.top.ensures)

pub loop-init : goal.loop-init
loop-init c = going_start _ _ _ _ c.requires.held.0 c.requires.held.1 c.requires.holds_waiting.0 c.requires.holds_waiting.1 (omega arith)
    (omega (arith, takings c.requires.held.0 _ _ c.size.ensures c.top.ensures))

pub pick-requires : goal.pick-requires
pick-requires c =
    let g = c.loop.invariant in
    record {
      held = g.held;
      inside = rw c.as_slice.ensures (all_of (λ v. v < (read low c.loop.rack).n) c.loop.progress.queue (λ v m. (g.holds.lists.only v m).0));
    }

pub returns-in_default : goal.returns-in_default
returns-in_default c = going-rest c.loop.invariant (rw c.as_slice.ensures at (sym c.in_default.ensures))

-- what was picked is the pick of the queues
picked : (c : In-Some) →
    let l = c.loop in
    pick (suc (top_at l.rack)) (queues_in (read low l.rack).rank l.progress.queue) ≡ found c.in-Some.next.level c.in-Some.next.vertex
picked c = rw c.as_slice.ensures at (sym c.in-Some.ensures)

pub take-requires : goal.take-requires
take-requires c =
    let g = c.loop.invariant in
    let a = taking-of _ _ _ _ g.held.proper g.holds (picked (goal.at.take-requires c).In-Some) in
    record { held = (g.held, g.ordered); v_bound = (a.inside, a.free, a.rank, a.level); holds_waiting = (g.holds, going-room g (omega arith)) }

pub loop-preserved : goal.loop-preserved
loop-preserved c = going_on c.loop.invariant (picked (goal.at.loop-preserved c).In-Some) _ (omega arith) c.take.ensures

pub returns : goal.returns
returns c = going-used c.loop.invariant (omega arith)
