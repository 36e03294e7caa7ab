-- `audit::settings` meets its contract. Assumes nothing.
use native.Mathlib.Omega.{arith}
use Rattle.model.specs.Shape.{low}
use Rattle.model.specs.State.{InRange}
use Rattle.model.specs.Bytes.{kind_at}
use Rattle.model.proofs.Facts.{Says, settings_good-says}
use Rattle.layout.proofs.Said.{said, unsaid, says-no, says-by, says_is}
use Rattle.audit.proofs.settings.Goals.{After-in_range, Then-in_range}
use Rattle.audit.proofs.settings.Goals as goal

-- what the test of both bytes says
tested : (c : After-in_range) → Says c.in_range.result (InRange (kind_at low c.args.rack.now))
tested c =
    let g = c.growth-growth.ensures in
    let t = c.top-top.ensures in
    says-by
    (λ i. record { least = omega (arith, g, i.least); most = omega (arith, g, i.most); room = omega (arith, t, i.room) })
    (λ i. record { least = omega (arith, g, i.least); most = omega (arith, g, i.most); room = omega (arith, t, i.room) })
    (says_is c.in_range.ensures (settings_good-says _))

passed : (c : Then-in_range) → InRange (kind_at low c.args.rack.now)
passed c = said (tested (goal.at.Then-in_range c).After-in_range) c.if-in_range.true

pub rosters_unused-requires : goal.rosters_unused-requires
rosters_unused-requires c = record { r_bound = omega (arith, (passed (goal.at.rosters_unused-requires c).Then-in_range).room, c.top-top.ensures) }

pub returns-then-in_range : goal.returns-then-in_range
returns-then-in_range c = let top = c.top-top.ensures in
    says-by
    (λ e. record { range = passed (goal.at.returns-then-in_range c).Then-in_range; empty = λ r l a. e r l (omega (arith, top)) })
    (λ g r l a. g.empty r l (omega (arith, top)))
    c.rosters_unused.ensures

pub returns-else-in_range : goal.returns-else-in_range
returns-else-in_range c = let no = c.if-in_range.false in
    says_is no (says-no (λ g. unsaid (tested (goal.at.returns-else-in_range c).After-in_range) no g.range))
