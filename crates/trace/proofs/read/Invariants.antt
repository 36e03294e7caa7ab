-- The loop of `trace::read`: the reader holds the text, and up to where it stands `Read` of `ReadLoop` holds. Less is left to read after each
-- line. Assumes nothing.
use Rattle.std.proofs.Common.{◌≡◌, ◌-◌, length}
use Rattle.trace.proofs.ReadLoop.{Read}
use Rattle.trace.proofs.read.Given as goal

abbrev pub invariant-loop-reader : goal.invariant-loop-reader
invariant-loop-reader l = record {
  same_text : l.reader.text.now ≡ l.text;
  read : Read l.text (record { n = l.n; settings = l.settings }) l.heads l.words l.reader.at l.changes l.kept;
}

abbrev pub decreases-loop-reader : goal.decreases-loop-reader
decreases-loop-reader l = length l.text - l.reader.at
