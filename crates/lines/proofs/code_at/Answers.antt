-- `lines::code_at` meets its contract. Each answer follows from the readings of the two fixed texts.
-- Assumes nothing.
use Rattle.model.specs.Trace.{code_text}
use mathlib.Core.Path.{refl}
use mathlib.Core.Logic.{inl, inr}
use Rattle.lines.proofs.Laws as laws
use Rattle.lines.proofs.code_at.Goals as goal

pub returns-in-Some : goal.returns-in-Some
unfolding code_text
returns-in-Some c =
    let add = c.in-Some.ensures in
    record { within = add.0; good = inl refl; stands = add.1 }

pub returns-in_err-next : goal.returns-in_err-next
returns-in_err-next c = rw c.from_residual.ensures (λ x rest g e. laws.code-none x rest g c.in_default.ensures c.in_err-next.ensures e)

pub returns : goal.returns
unfolding code_text
returns c =
    let drop = c.in_ok-next.ensures in
    record { within = drop.0; good = inr refl; stands = drop.1 }
