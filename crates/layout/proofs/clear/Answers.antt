-- `layout::clear` meets its contract: the settings are written last. Assumes nothing.
use mathlib.Core.Path.{ap, ◌∙◌}
use mathlib.Core.List.{List}
use Prim.Native.Nat.{ℕ}
use lib.ListN.{set}
use Rattle.model.specs.State.{low_with}
use Rattle.layout.proofs.Cleared.{settled}
use Rattle.layout.proofs.clear.Goals as goal

pub returns : goal.returns
returns c = let a = c.args in
    c.put.ensures ∙ ap (λ (l : List ℕ). set (set l 4 a.growth) 5 a.top) c.enroll.ensures
    ∙ settled (low_with a.growth a.top) a.n
