-- `lines::ends_at` meets its contract: it reads two numbers, each with the fixed text behind it. Assumes nothing.
use mathlib.Core.Path.{refl}
use Rattle.lines.proofs.Pieces.{between, not-number, not_behind, between-sole, first_absent, second_absent, found}
use Rattle.lines.proofs.Laws.{ends-form}
use Rattle.lines.proofs.ends_at.Goals as goal

pub returns-in_err-a : goal.returns-in_err-a
returns-in_err-a c = rw c.from_residual.ensures (first_absent ends-form (not-number refl c.in_err-a.ensures))

pub returns-in_err-j : goal.returns-in_err-j
returns-in_err-j c =
    let a = c.in_ok-a.ensures in
    rw c.from_residual-in_err-j.ensures (first_absent ends-form (not_behind refl a.1 c.in_err-j.ensures))

pub returns-in_err-b : goal.returns-in_err-b
returns-in_err-b c =
    let a = c.in_ok-a.ensures in
    let space = c.in_ok-j.ensures in
    rw c.from_residual-in_err-b.ensures (second_absent ends-form between-sole (between refl a.1 space.1) (not-number refl c.in_err-b.ensures))

pub returns-in_err-next : goal.returns-in_err-next
returns-in_err-next c =
    let a = c.in_ok-a.ensures in
    let space = c.in_ok-j.ensures in
    let b = c.in_ok-b.ensures in
    rw c.from_residual-in_err-next.ensures (second_absent ends-form between-sole (between refl a.1 space.1) (not_behind refl b.1 c.in_err-next.ensures))

pub returns : goal.returns
returns c =
    let a = c.in_ok-a.ensures in
    let space = c.in_ok-j.ensures in
    let b = c.in_ok-b.ensures in
    let close = c.in_ok-next.ensures in
    found ends-form close.0 (record { rest = _; first = between refl a.1 space.1; second = between refl b.1 close.1 })
