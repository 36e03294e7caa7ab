-- `bitset::size` meets its contract. The loop's invariant: the sum is the count of the members in the bytes passed. Assumes nothing.
use mathlib.Core.Path.{◌≡◌, sym, ap, ◌∙◌}
use Prim.Native.Nat.{ℕ, ◌*◌, ◌+◌}
use native.Mathlib.Omega.{arith}
use lib.ListN.{length}
use Rattle.model.specs.Counting.{count}
use Rattle.bitset.specs.Row.{member, size}
use Rattle.model.proofs.Counting.{count-bound}
use Rattle.model.proofs.Prefix.{count-zero}
use Rattle.bitset.proofs.Laws.{count-byte}
use Rattle.bitset.proofs.size.Goals.{After-ones}
use Rattle.bitset.proofs.size.Goals as goal

pub loop-b-init : goal.loop-b-init
loop-b-init c = sym (count-zero (member c.args.row.now))

-- the sum after a turn
turn : (c : After-ones) → c.loop-b.sum + c.ones.result ≡ count (member c.args.row.now) (8 * (c.loop-b.b-index + 1))
turn c = omega (arith, count-byte c.args.row.now c.loop-b.b-index (c.type_inv.row c.loop-b.b-index).fits, c.ones.ensures.0)

pub overflow_add-sum : goal.overflow_add-sum
overflow_add-sum c = omega (arith, turn c, count-bound (member c.args.row.now) (8 * (c.loop-b.b-index + 1)))

pub loop-b-preserved : goal.loop-b-preserved
loop-b-preserved c = turn c

pub returns : goal.returns
unfolding size
returns c = let row = c.args.row.now in
    let e : c.loop-b.b-index ≡ length row = omega arith in
    c.loop-b.invariant ∙ ap (λ (n : ℕ). count (member row) (8 * n)) e
