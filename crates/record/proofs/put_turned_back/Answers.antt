-- `record::put_turned_back` meets its contract: the line of its number and its line. Assumes nothing.
use Rattle.std.proofs.Common.{ap₂}
use Rattle.model.specs.Run.{bad_line}
use Rattle.text.proofs.Over.{put_as}
use Rattle.record.proofs.put_turned_back.Goals as goal

pub returns : goal.returns
returns c = put_as _ _ (ap₂ bad_line c.from.ensures c.line.ensures) c.put_bad.ensures
