-- `settling::pick` meets its contract. The loop's invariant is `Best`: before the place that is looked at no vertex of the queue has a rank above
-- `best`, and `vertex` is the first that has it, if it is not 0. Assumes nothing.
use Rattle.model.specs.Shape.{low}
use Rattle.model.specs.Bytes.{read}
use Rattle.settling.proofs.Picking.{Best}
use Rattle.settling.proofs.pick.Given as goal

abbrev pub invariant-loop-v : goal.invariant-loop-v
invariant-loop-v l = Best (read low l.rack).rank l.waiting l.best l.vertex l.v-index
