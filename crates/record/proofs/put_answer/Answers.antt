-- `record::put_answer` meets its contract. By its number: the line of `model` is that of a change made or of one refused. Assumes nothing.
use Rattle.std.proofs.Common.{sym, ap, ◌∙◌, arith}
use Rattle.text.proofs.Over.{put_as}
use Rattle.record.specs.Line.{answered, done_text}
use Rattle.record.proofs.Laws.{answer-done, answer-refused}
use Rattle.record.proofs.put_answer.Goals as goal

pub returns-then-number-eq0 : goal.returns-then-number-eq0
returns-then-number-eq0 c =
    let a = c.args in
    put_as _ _ (ap (λ d. done_text d a.falls a.pairs) c.from-draws.ensures
    ∙ sym (answer-done (answered a.number a.draws a.falls a.pairs) (omega (arith, c.if-number-eq0.true)))) c.put_done.ensures

pub returns-else-number-eq0 : goal.returns-else-number-eq0
returns-else-number-eq0 c =
    let a = c.args in
    put_as _ _ (sym (answer-refused (answered a.number a.draws a.falls a.pairs) c.if-number-eq0.false)) c.put_refused.ensures
