-- `layout::settings::threshold` meets its contract: the power rule is one test over the whole table. Assumes nothing.
use mathlib.Core.Path.{ap, ◌∙◌}
use Prim.Native.Nat.{ℕ, ◌^◌}
use native.Mathlib.Omega.{arith}
use Rattle.layout.proofs.Powers.{power}
use Rattle.layout.proofs.settings.threshold.Goals as goal

pub returns : goal.returns
returns c = let g = c.growth in
    let range = c.requires.in_range in
    power g.result (omega (arith, g.ensures, range.least)) (omega (arith, g.ensures, range.most)) c.args.j (omega (arith, c.requires.j_lt_levels))
    ∙ ap (λ (x : ℕ). x ^ c.args.j) g.ensures
