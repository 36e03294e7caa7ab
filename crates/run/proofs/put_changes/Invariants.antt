-- `run::put_changes` meets its contract. The invariant is `Going` of `Turns`. Assumes nothing.
use Rattle.run.proofs.Turns.{Going}
use Rattle.run.proofs.put_changes.Given as goal

abbrev pub invariant-loop-head : goal.invariant-loop-head
invariant-loop-head l = let t = l.trace-inside in
    Going t.heads.now t.words.now l.initial.rack l.rack l.initial.out l.out l.head-index l.w l.at
