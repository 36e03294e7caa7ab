-- `lines::change_at` meets its contract: it reads the pieces of a change's line in their order, and one that doesn't stand there refutes the line.
-- Assumes nothing.
use Rattle.lines.proofs.Pieces.{not_first, after, printed, not-printed, first_absent, second_absent, found}
use Rattle.lines.proofs.Laws.{code-sole, ends-sole, change-form}
use Rattle.lines.proofs.change_at.Goals as goal

pub returns-in_err-kind : goal.returns-in_err-kind
returns-in_err-kind c = rw c.from_residual.ensures (tt, first_absent change-form (not-printed c.in_err-kind.ensures))

pub returns-in_err-a : goal.returns-in_err-a
returns-in_err-a c =
    let kind = c.in_ok-kind.ensures in
    rw c.from_residual-in_err-a.ensures (tt, second_absent change-form code-sole (printed kind) (not_first (not-printed c.in_err-a.ensures)))

pub returns-in_err-count : goal.returns-in_err-count
returns-in_err-count c =
    let kind = c.in_ok-kind.ensures in
    let ends = c.in_ok-a.ensures in
    let refused = not-printed c.in_err-count.ensures.1 in
    rw c.from_residual-in_err-count.ensures (tt, second_absent change-form code-sole (printed kind) (after ends-sole (printed ends) refused))

pub returns : goal.returns
returns c =
    let kind = c.in_ok-kind.ensures in
    let ends = c.in_ok-a.ensures in
    let (few, words) = c.in_ok-count.ensures in (
      few,
      found change-form words.within
          (record { rest = _; first = printed kind; second = record { rest = _; first = printed ends; second = printed words } }),
    )
