-- `layout::unused::rosters_unused` meets its contract: the rosters from rank r on are one stretch of the bytes. Assumes nothing.
use Rattle.model.proofs.Shapes.{low-good}
use Rattle.layout.proofs.Spans.{span-rosters}
use Rattle.layout.proofs.unused.rosters_unused.Goals as goal

pub returns : goal.returns
returns c = span-rosters low-good c.args.rack.now c.told-rack
    c.fits-rack c.args.r c.requires.r_bound c.all_are.ensures
