-- `audit::rows::once_row` meets its contract. Assumes nothing.
use mathlib.Core.Path.{refl}
use Prim.Native.Nat.{◌+◌, ◌*◌, ◌/◌}
use native.Mathlib.Omega.{arith}
use lib.Dec.{T}
use Rattle.std.proofs.Common.{rules, tests}
use Rattle.model.specs.Shape.{low}
use Rattle.model.specs.Bytes.{owns_at}
use Rattle.layout.proofs.Said.{says-by}
use Rattle.audit.specs.Parts.{OnceIn}
use Rattle.audit.proofs.Each.{each-says}
use Rattle.audit.proofs.Words.{in-words}
use Rattle.audit.proofs.rows.once_row.Goals as goal

pub returns : goal.returns
returns c = let bs = c.args.rack.now in
    let v = c.args.v in
    let words = v / 64 + 1 in
    says-by (in-words (λ w. T (owns_at low bs v w) → T (owns_at low bs w v) → ⊥) words) (λ g k i j b. g (64 * k + j) (omega arith))
    (each-says _ _ _ words (OnceIn low bs v) c.all.ensures.ran refl (λ x b q k. search (rules, tests)))
