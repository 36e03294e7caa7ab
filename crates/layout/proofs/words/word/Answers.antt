-- `layout::words::word` meets its contract: the bytes of the row are a word of the whole buffer. Assumes nothing.
use Rattle.model.specs.Bytes.{owns_at}
use Rattle.layout.proofs.Spans.{word_row}
use Rattle.layout.proofs.words.word.Goals as goal

pub returns : goal.returns
unfolding owns_at
returns c = let a = c.args in
    word_row a.rack.now a.k c.word.result c.row_at.ensures c.word.ensures
