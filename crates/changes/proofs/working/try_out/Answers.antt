-- `changes::working::try_out` meets its contract. Assumes nothing.
use mathlib.Core.Path.{refl}
use native.Mathlib.Omega.{arith}
use Rattle.changes.proofs.working.try_out.Goals as goal

pub returns-then-words-t : goal.returns-then-words-t
returns-then-words-t g c = record {
  after = c.work-t.new.arg2;
  ended = record { shown = _; shows = refl; left = _; met = c.work-t.ensures; leaves = refl };
  made = λ h. absurd (omega (arith, c.if-words-t.true));
  kept = λ h. refl;
}

pub returns-else-words-t : goal.returns-else-words-t
returns-else-words-t g c = record {
  after = c.work-t.new.arg2;
  ended = record { shown = _; shows = refl; left = _; met = c.work-t.ensures; leaves = refl };
  made = λ h. refl;
  kept = λ h. absurd (omega (arith, c.if-words-t.false));
}
