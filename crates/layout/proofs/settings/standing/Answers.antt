-- `layout::settings::standing` meets its contract: the rule of the levels is one test over the whole table. Assumes nothing.
use mathlib.Core.Path.{ap, ◌∙◌}
use Prim.Native.Nat.{ℕ, ◌<◌}
use native.Mathlib.Omega.{arith}
use lib.Dec.{leb}
use Rattle.model.specs.Counting.{bit}
use Rattle.layout.proofs.Powers.{standing-long, stands}
use Rattle.layout.proofs.settings.standing.Goals as goal

pub returns : goal.returns
returns c = let t = c.top in
    let low : t.result < 4 = omega (arith, t.ensures, c.requires.in_range.room) in (
      standing-long t.result low,
      λ j l. stands t.result low j l ∙ ap (λ (x : ℕ). bit (leb j x)) t.ensures,
    )
