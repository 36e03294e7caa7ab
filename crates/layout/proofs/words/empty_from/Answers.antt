-- `layout::words::empty_from` meets its contract: the words of the row are gathered in one, which is empty exactly if they all are. Assumes nothing.
use Prim.Native.Nat.{◌*◌}
use native.Mathlib.Omega.{arith}
use Rattle.model.specs.Shape.{low}
use Rattle.model.specs.Bytes.{owns_at}
use Rattle.bitset.proofs.Sets.{merged-more}
use Rattle.layout.proofs.words.empty_from.Goals as goal

pub loop-k-preserved : goal.loop-k-preserved
loop-k-preserved c = let l = c.loop-k in
    let a = c.args in
    merged-more (owns_at low a.rack.now a.v) (64 * a.from) l.k l.all c.word-all.result (omega (arith, l.auto.k)) l.invariant c.word-all.ensures
