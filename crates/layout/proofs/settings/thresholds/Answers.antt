-- `layout::settings::thresholds` meets its contract: the power rule is one test over the whole table. Assumes nothing.
use mathlib.Core.Path.{ap, ◌∙◌}
use Prim.Native.Nat.{ℕ, ◌^◌, ◌≤◌}
use native.Mathlib.Omega.{arith}
use Rattle.model.specs.State.{least_growth, most_growth}
use Rattle.layout.proofs.Powers.{thresholds-long, power}
use Rattle.layout.proofs.settings.thresholds.Goals as goal

pub returns : goal.returns
returns c = let g = c.growth in
    let range = c.requires.in_range in
    let least : least_growth ≤ g.result = omega (arith, g.ensures, range.least) in
    let most : g.result ≤ most_growth = omega (arith, g.ensures, range.most) in (
      thresholds-long g.result least most,
      λ j l. power g.result least most j l ∙ ap (λ (x : ℕ). x ^ j) g.ensures,
    )
