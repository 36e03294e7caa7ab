-- `audit::rows::add` meets its contract: two entries, each one more. Assumes nothing.
use Rattle.model.specs.Shape.{low}
use Rattle.audit.proofs.Tally.{added}
use Rattle.audit.proofs.rows.add.Goals as goal

pub returns : goal.returns
returns c = added low c.args.tally.now c.args.v c.args.w c.args.r c.told-tally c.requires.v_lt_most c.requires.w_lt_most c.requires.r_lt_levels
