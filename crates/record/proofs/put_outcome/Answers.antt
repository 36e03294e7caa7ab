-- `record::put_outcome` meets its contract: the line is that of the number and the figures that the answer stands for. Assumes nothing.
use Rattle.std.proofs.Common.{ap}
use Rattle.model.specs.Change.{refused}
use Rattle.model.specs.Record.{answer_line}
use Rattle.text.proofs.Over.{put_as}
use Rattle.record.specs.Line.{answered}
use Rattle.record.proofs.put_outcome.Goals as goal

pub returns-in-Ok : goal.returns-in-Ok
returns-in-Ok c = rw c.in-Ok.is c.put_answer.ensures

pub returns-in-Err : goal.returns-in-Err
unfolding refused
returns-in-Err c = rw c.in-Err.is (put_as _ _ (ap (λ k. answer_line (answered k 0 0 0)) c.from.ensures) c.put_answer-in-Err.ensures)
