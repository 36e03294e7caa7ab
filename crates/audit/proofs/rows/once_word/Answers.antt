-- `audit::rows::once_word` meets its contract. Assumes nothing.
use Prim.Native.Nat.{◌+◌, ◌*◌}
use Rattle.std.proofs.Common.{rules, tests}
use Rattle.model.specs.Shape.{low}
use Rattle.model.specs.Bytes.{owns_at}
use Rattle.model.proofs.Facts.{self_says, not-says}
use Rattle.layout.proofs.Said.{says_is}
use Rattle.audit.proofs.Words.{word-says}
use Rattle.audit.proofs.rows.once_word.Goals as goal

pub returns : goal.returns
returns c = word-says c.word-word.ensures c.all.ensures
    (λ j b p. says_is (search (rules, tests)) (not-says (self_says (owns_at low c.args.rack.now (64 * c.args.k + j) c.args.v))))
