-- `bitset::nth` meets its contract. The loop's invariant: `left` members are still to pass. Assumes nothing.
use mathlib.Core.Path.{◌≡◌, sym, ap, subst}
use Prim.Native.Nat.{ℕ, ◌*◌}
use native.Mathlib.Omega.{arith}
use lib.Dec.{T}
use lib.ListN.{length}
use Rattle.model.specs.Counting.{count}
use Rattle.bitset.specs.Row.{member, size}
use Rattle.model.proofs.Prefix.{count-zero}
use Rattle.bitset.proofs.Laws.{byte-member, count-in, count-byte}
use Rattle.bitset.proofs.nth.Goals as goal

pub loop-i-init : goal.loop-i-init
loop-i-init c = omega (arith, count-zero (member c.args.row.now))

pub returns-then-left-n : goal.returns-then-left-n
returns-then-left-n c = let l = c.loop-i in
    let row = c.args.row.now in
    let n = c.nth_one.ensures in
    record {
      inside = omega arith;
      is = subst T (sym (byte-member row l.i c.nth_one.result n.0)) n.1;
      before = omega (arith, count-in row l.i c.nth_one.result (omega arith), n.2, l.invariant);
    }

pub loop-i-preserved : goal.loop-i-preserved
loop-i-preserved c = omega (arith, count-byte c.args.row.now c.loop-i.i (c.type_inv.row c.loop-i.i).fits, c.loop-i.invariant, c.ones-n.ensures.0)

-- fewer members are to pass than there are
pub unreachable-requires : goal.unreachable-requires
unfolding size
unreachable-requires c = let row = c.args.row.now in
    let e : c.loop-i.i ≡ length row = omega arith in
    omega (arith, c.loop-i.invariant, ap (λ (n : ℕ). count (member row) (8 * n)) e, c.requires.k_bound)
