-- `layout::size_of_row` meets its contract: the row is lent on in two halves. Assumes nothing.
use mathlib.Core.Path.{◌≡◌, ap, ap₂, ◌∙◌}
use Prim.Native.Nat.{◌+◌, ◌*◌, ◌/◌}
use native.Mathlib.Omega.{arith}
use Rattle.model.specs.Counting.{count}
use Rattle.model.specs.Shape.{low}
use Rattle.model.proofs.Counting.{count-bound}
use Rattle.bitset.specs.Row.{member}
use Rattle.layout.proofs.Rows.{halves}
use Rattle.layout.proofs.size_of_row.Goals.{After-size-2}
use Rattle.layout.proofs.size_of_row.Goals as goal

-- the two halves together
whole : (c : After-size-2) →
    c.size.result + c.size-2.result
    ≡ count (λ w. member c.args.rack.now (8 * c.args.at + w)) low.most
whole c =
    let bs = c.args.rack.now in
    let at = c.args.at in
    let middle = at + low.row / 2 in
    ap₂ ◌+◌ c.size.ensures c.size-2.ensures
    ∙ halves bs at middle (at + low.row) (omega arith) (omega arith) (omega (arith, c.told-rack, c.requires.row_bound))
    ∙ ap (count (λ w. member bs (8 * at + w))) (omega arith)

pub overflow_add-result : goal.overflow_add-result
overflow_add-result c = let a = c.args in
    omega (arith, whole c, count-bound (λ w. member a.rack.now (8 * a.at + w)) low.most)

pub returns : goal.returns
returns c = whole c
