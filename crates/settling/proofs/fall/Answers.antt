-- `settling::fall` meets its contract. Assumes nothing.
use native.Mathlib.Omega.{arith}
use Rattle.model.specs.Shape.{low}
use Rattle.model.proofs.Tests.{true-T}
use Rattle.moves.proofs.Held.{held-few}
use Rattle.settling.proofs.Holding.{but-place}
use Rattle.settling.proofs.Takes.{Fallen, fallen-scans, fallen-left, fallen-low}
use Rattle.settling.proofs.fall.Goals.{After-rejoin}
use Rattle.settling.proofs.fall.Goals as goal

pub rejoin-requires : goal.rejoin-requires
rejoin-requires c =
    let f = c.requires.falling in
    let few = but-place _ c.requires.holds_waiting_but.0 f.inside in
    let most = held-few c.requires.held.0 in
    (omega (arith, few, most), omega (arith, f.inside, most))

-- v has fallen and has joined its new level
fallen : (c : After-rejoin) →
    let a = c.args in
    Fallen low a.rack.now a.progress.now a.i a.v a.k a.bar c.fall-low.new.rack (record {
      queue = c.rejoin.new.queue;
      tally = c.fell-progress.result;
    })
fallen c =
    record {
      held = c.requires.held.0;
      ordered = c.requires.held.1;
      falls = c.requires.falling;
      holds = c.requires.holds_waiting_but.0;
      joined = c.rejoin.ensures;
      draws = c.fell-progress.ensures.0;
      more = c.fell-progress.ensures.1;
      bytes = c.fall-low.ensures.rack_after;
    }

pub returns-then-low : goal.returns-then-low
returns-then-low c = fallen-low (fallen (goal.at.returns-then-low c).After-rejoin) c.args.words.now
    (c.fall-low.ensures.says.fact (true-T c.if-low.true)) c.requires.holds_waiting_but.1.draws

pub scan-requires : goal.scan-requires
scan-requires c =
    let all = fallen-scans (fallen (goal.at.scan-requires c).After-rejoin) c.requires.holds_waiting_but.1.draws in
    record { held = all.0; v_bound = all.1.0; holds_waiting = all.1.1 }

pub returns : goal.returns
returns c = fallen-left (fallen (goal.at.returns c).After-rejoin) c.args.words.now c.scan.ensures
