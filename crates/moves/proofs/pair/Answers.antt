-- `moves::pair` meets its contract: the entries of both ends are set. Assumes nothing.
use mathlib.Core.Path.{ap, ◌∙◌}
use mathlib.Core.List.{List}
use Prim.Native.Nat.{ℕ}
use Rattle.model.specs.Shape.{low}
use Rattle.model.specs.Bytes.{read}
use Rattle.layout.specs.Setters.{set_mate}
use Rattle.moves.proofs.Pairs.{marry-image}
use Rattle.moves.proofs.pair.Goals as goal

pub returns : goal.returns
unfolding read
returns c = c.set_mate-2.ensures
    ∙ ap (λ (bs : List ℕ). set_mate low bs c.args.y c.args.u) c.set_mate.ensures
    ∙ ap (λ (bs : List ℕ). set_mate low (set_mate low bs c.args.u c.args.y) c.args.y c.args.u) c.requires.held.written
    ∙ marry-image (read low c.args.rack.now) c.requires.held.proper c.args.u c.args.y c.requires.u_bound.0 c.requires.u_bound.1 c.requires.u_bound.2
