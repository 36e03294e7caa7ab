-- `layout::found` meets its contract. Assumes nothing.
use mathlib.Core.Path.{ap, ◌∙◌}
use mathlib.Core.List.{List}
use Prim.Native.Nat.{ℕ}
use Rattle.model.specs.Shape.{low}
use Rattle.model.proofs.Shapes.{low-good}
use Rattle.layout.specs.Setters.{set_num}
use Rattle.layout.proofs.Cleared.{founded}
use Rattle.layout.proofs.found.Goals as goal

pub returns : goal.returns
unfolding set_num
returns c = let n = c.args.n in
    c.set_number.ensures ∙ ap (λ (l : List ℕ). set_num 2 l 0 n) c.blank.ensures ∙ founded low low-good n
