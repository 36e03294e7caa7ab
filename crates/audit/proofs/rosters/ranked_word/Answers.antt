-- `audit::rosters::ranked_word` meets its contract. Assumes nothing.
use Prim.Native.Nat.{◌+◌, ◌*◌}
use Rattle.std.proofs.Common.{rules, tests}
use Rattle.model.specs.Bytes.{rank_at}
use Rattle.model.proofs.Facts.{eqb-says}
use Rattle.layout.proofs.Said.{says_is}
use Rattle.audit.proofs.Words.{word-says}
use Rattle.audit.proofs.rosters.ranked_word.Goals as goal

pub returns : goal.returns
returns c = word-says c.word-word.ensures c.all.ensures
    (λ j b p. says_is (search (rules, tests)) (eqb-says (rank_at c.args.rack.now (64 * c.args.k + j)) c.args.r))
