-- `lines::long_at` meets its contract: it reads two numbers, each with the fixed text behind it, after the text before the first. Assumes nothing.
use mathlib.Core.Path.{refl}
use Rattle.lines.proofs.Pieces.{between, not-before, not-number, not_behind, between-sole, first_absent, second_absent, found}
use Rattle.lines.proofs.Laws.{long-form}
use Rattle.lines.proofs.long_at.Goals as goal

pub returns-in_err-i : goal.returns-in_err-i
returns-in_err-i c = rw c.from_residual.ensures (first_absent long-form (not-before c.in_err-i.ensures))

pub returns-in_err-growth : goal.returns-in_err-growth
returns-in_err-growth c =
    let before = c.in_ok-i.ensures in
    rw c.from_residual-in_err-growth.ensures (first_absent long-form (not-number before.1 c.in_err-growth.ensures))

pub returns-in_err-k : goal.returns-in_err-k
returns-in_err-k c =
    let before = c.in_ok-i.ensures in
    let growth = c.in_ok-growth.ensures in
    rw c.from_residual-in_err-k.ensures (first_absent long-form (not_behind before.1 growth.1 c.in_err-k.ensures))

pub returns-in_err-top : goal.returns-in_err-top
returns-in_err-top c =
    let before = c.in_ok-i.ensures in
    let growth = c.in_ok-growth.ensures in
    let behind = c.in_ok-k.ensures in
    rw c.from_residual-in_err-top.ensures (second_absent long-form between-sole (between before.1 growth.1 behind.1) (not-number refl c.in_err-top.ensures))

pub returns-in_err-next : goal.returns-in_err-next
returns-in_err-next c =
    let before = c.in_ok-i.ensures in
    let growth = c.in_ok-growth.ensures in
    let behind = c.in_ok-k.ensures in
    let top = c.in_ok-top.ensures in
    let refused = not_behind refl top.1 c.in_err-next.ensures in
    rw c.from_residual-in_err-next.ensures (second_absent long-form between-sole (between before.1 growth.1 behind.1) refused)

pub returns : goal.returns
returns c =
    let before = c.in_ok-i.ensures in
    let growth = c.in_ok-growth.ensures in
    let behind = c.in_ok-k.ensures in
    let top = c.in_ok-top.ensures in
    let close = c.in_ok-next.ensures in
    found long-form close.0 (record { rest = _; first = between before.1 growth.1 behind.1; second = between refl top.1 close.1 })
