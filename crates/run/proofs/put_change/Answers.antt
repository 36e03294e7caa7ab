-- `run::put_change` meets its contract. Assumes nothing.
use native.Mathlib.Omega.{arith}
use Rattle.calls.specs.Terms.{code_of}
use Rattle.trace.proofs.RecordFits.{draws-few}
use Rattle.changes.specs.Sounded.{brought}
use Rattle.run.proofs.Turns.{sounded-valid}
use Rattle.run.proofs.put_change.Goals as goal

-- the draws fit the record's figure
pub put_outcome-requires-clause-draws_fit : goal.put_outcome-requires-clause-draws_fit
put_outcome-requires-clause-draws_fit c = let a = c.args in
    let few = draws-few _ (sounded-valid c.requires.sounded) (brought (code_of a.line.kind) a.line.a a.line.b a.words.now) c.requires.words_len_bound.0 in
    rw (c.change-answer.ensures.answers, c.from-code.ensures) (omega (arith, few))
