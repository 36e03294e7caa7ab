-- `lines::rack_at` meets its contract: it reads a fixed text, a number and the end of line 1. Assumes nothing.
use mathlib.Core.Path.{refl}
use Rattle.lines.proofs.Pieces.{between, between-sole, printed, not-printed, not-before, not-number, first_absent, second_absent, found}
use Rattle.lines.proofs.Laws.{rack-form}
use Rattle.lines.proofs.rack_at.Goals as goal

pub returns-in_err-i : goal.returns-in_err-i
returns-in_err-i c = rw c.from_residual.ensures (first_absent rack-form (not-before c.in_err-i.ensures))

pub returns-in_err-n : goal.returns-in_err-n
returns-in_err-n c =
    let before = c.in_ok-i.ensures in
    rw c.from_residual-in_err-n.ensures (first_absent rack-form (not-number before.1 c.in_err-n.ensures))

pub returns-in_err-settings : goal.returns-in_err-settings
returns-in_err-settings c =
    let before = c.in_ok-i.ensures in
    let n = c.in_ok-n.ensures in
    rw c.from_residual-in_err-settings.ensures (second_absent rack-form between-sole (between before.1 n.1 refl) (not-printed c.in_err-settings.ensures))

pub returns : goal.returns
returns c =
    let before = c.in_ok-i.ensures in
    let n = c.in_ok-n.ensures in
    let end = c.in_ok-settings.ensures in
    found rack-form end.within (record { rest = _; first = between before.1 n.1 refl; second = printed end })
