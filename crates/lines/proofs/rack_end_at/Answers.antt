-- `lines::rack_end_at` meets its contract: the end of one form or of the other was read, or neither stands there. Assumes nothing.
use mathlib.Core.Path.{sym, ◌∙◌}
use native.Mathlib.Omega.{arith}
use Rattle.model.specs.Trace.{growth_of, top_of}
use Rattle.lines.proofs.Laws.{end_short, end-long, end_none}
use Rattle.lines.proofs.rack_end_at.Goals as goal

pub returns-in-Some : goal.returns-in-Some
unfolding growth_of top_of
returns-in-Some c =
    let close = c.in-Some.ensures in
    record { within = close.0; good = (omega arith, omega arith); stands = close.1 ∙ sym (end_short _) }

pub returns-in_err-settings : goal.returns-in_err-settings
returns-in_err-settings c = rw c.from_residual.ensures (end_none c.in_default.ensures c.in_err-settings.ensures)

pub returns : goal.returns
unfolding growth_of top_of
returns c =
    let named = c.in_ok-settings.ensures in
    record { within = named.within; good = named.good; stands = named.stands ∙ sym (end-long _ _ _) }
