-- `settling::settle` meets its contract. The loop's invariant is `TakingsLeft`: as many takings as are left lead from the bytes and the progress
-- as they are now to where the settling leads. Assumes nothing.
use Prim.Native.Nat.{◌-◌}
use Rattle.model.specs.Shape.{low}
use Rattle.model.specs.Bytes.{rules_at}
use Rattle.settling.specs.Settling.{running}
use Rattle.settling.proofs.SettleLoop.{TakingsLeft}
use Rattle.settling.proofs.settle.Given as goal

abbrev pub invariant-loop : goal.invariant-loop
invariant-loop l =
    TakingsLeft low (rules_at l.initial.rack) l.words (running low l.initial.rack l.initial.progress) l.rack (l.limit - l.counter) l.progress
