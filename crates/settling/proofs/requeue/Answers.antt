-- `settling::requeue` meets its contract: the entry of v names its mate, or none. Assumes nothing.
use mathlib.Core.Path.{◌≡◌, refl, ◌∙◌}
use mathlib.Core.Logic.{◌≢◌}
use Prim.Native.Nat.{◌<◌}
use native.Mathlib.Omega.{arith}
use lib.ListN.{length}
use Rattle.model.specs.Shape.{low}
use Rattle.model.specs.Bytes.{read}
use Rattle.theory.specs.Waiting.{marks}
use Rattle.moves.proofs.Held.{held-few, held_small, held-rank}
use Rattle.settling.proofs.Entries.{entry_free, entry-paired}
use Rattle.settling.proofs.Requeuing.{part-mated, part_free, part_low}
use Rattle.settling.proofs.requeue.Goals.{After-rank, In-None, In-Some}
use Rattle.settling.proofs.requeue.Goals as goal

-- m is the mate of v
mated : (c : In-Some) → ((read low c.args.rack.now).mate c.args.v ≢ c.args.v) × (c.in-Some.m ≡ (read low c.args.rack.now).mate c.args.v)
mated c = entry-paired c.args.rack.now c.requires.held.0 c.args.v c.requires.held.1 c.in-Some.m c.in-Some.ensures.0 c.in-Some.ensures.1

pub join-requires : goal.join-requires
join-requires c =
    let e = mated (goal.at.join-requires c).In-Some in
    let few = (c.requires.can_part.room e.0).1 in
    let most = held-few c.requires.held.0 in
    let place : length c.args.queue.now < 256 = omega arith in
    (omega arith, (place, omega (arith, e.1, c.requires.held.0.proper.mates c.args.v c.requires.held.1)))

pub returns-in-Some : goal.returns-in-Some
returns-in-Some c =
    let e = mated (goal.at.returns-in-Some c).In-Some in
    c.join.ensures ∙ part-mated (marks (read low c.args.rack.now)) c.args.v _ c.in-Some.m e.0 e.1 (c.requires.can_part.room e.0).0

-- v is free
free : (c : In-None) → (read low c.args.rack.now).mate c.args.v ≡ c.args.v
free c = entry_free c.args.rack.now c.requires.held.0 c.args.v c.requires.held.1 _ refl c.in-None.ensures

pub returns-in-None : goal.returns-in-None
returns-in-None c =
    let ranked = held-rank c.requires.held.0 _ (held_small c.requires.held.0 _ c.requires.held.1) in
    part_low (marks (read low c.args.rack.now)) c.args.v _ (free (goal.at.returns-in-None c).In-None)
    (c.requires.can_part.absent (omega (arith, c.rank.ensures, ranked, c.if-rank-eq0.true)))

pub returns-in-None-2 : goal.returns-in-None-2
returns-in-None-2 c = c.leave.ensures ∙ part_free (marks (read low c.args.rack.now)) c.args.v _ (free (goal.at.returns-in-None-2 c).In-None)
