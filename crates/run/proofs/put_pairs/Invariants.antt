-- `run::put_pairs` meets its contract. The invariant is `Listed` of `Pairs`. Assumes nothing.
use Rattle.run.proofs.Pairs.{Listed}
use Rattle.run.proofs.put_pairs.Given as goal

abbrev pub invariant-loop-v : goal.invariant-loop-v
invariant-loop-v l = Listed l.rack l.initial.out l.out l.at l.v
