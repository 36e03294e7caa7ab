-- `layout::rosters::word` meets its contract: the bytes of the roster are a word of the whole buffer. Assumes nothing.
use Rattle.model.specs.Bytes.{roster_at}
use Rattle.layout.proofs.Spans.{word_row}
use Rattle.layout.proofs.rosters.word.Goals as goal

pub returns : goal.returns
unfolding roster_at
returns c = let a = c.args in
    word_row a.rack.now a.k c.word.result c.roster_at.ensures c.word.ensures
