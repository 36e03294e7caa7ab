-- `moves::takeover::take_rank` meets its contract. The loop's invariant: u has taken its edges from the owners in the words before word k, and an edge
-- is missing. Assumes nothing.
use mathlib.Core.Path.{◌≡◌, ap}
use Prim.Native.Nat.{◌+◌}
use native.Mathlib.Omega.{arith}
use Rattle.model.specs.Shape.{low}
use Rattle.model.specs.State.{State}
use Rattle.model.specs.Bytes.{kind_at, read}
use Rattle.model.specs.Change.{reown}
use Rattle.moves.specs.Proper.{Held, owner_at, took_from}
use Rattle.moves.proofs.Taking.{Takes, takes-rank}
use Rattle.moves.proofs.TakeRank.{TakeRank, rank-start, rank-read, rank-held, rank-few, rank-next, rank-full, rank-end}
use Rattle.moves.proofs.takeover.take_rank.Goals.{After-take_word-left, At-loop-k, Start}
use Rattle.moves.proofs.takeover.take_rank.Goals as goal

abbrev state : Start → State
state s = read low s.args.rack.now

takes : (s : Start) → Takes (kind_at low s.args.rack.now) (state s) s.args.u (owner_at (state s) s.args.q s.args.u)
takes s = takes-rank s.requires.held.proper s.args.q s.args.u s.requires.u_bound.0

pub loop-k-init : goal.loop-k-init
loop-k-init c = (c.requires.missing_nonzero.0, rank-start c.args.q (takes (goal.at.loop-k-init c).Start) c.requires.held.written)

held : (c : At-loop-k) → Held low c.loop-k.rack
held c = rank-held c.args.q (takes (goal.at.At-loop-k c).Start) c.loop-k.invariant.1

pub take_word-left-requires : goal.take_word-left-requires
unfolding took_from reown
take_word-left-requires c = let a = c.args in
    let e : (read low c.loop-k.rack).n ≡ (state (goal.at.take_word-left-requires c).Start).n = ap (λ (t : State). t.n)
    (rank-read a.q (takes (goal.at.take_word-left-requires c).Start) c.loop-k.invariant.1) in record {
      held = held (goal.at.take_word-left-requires c).At-loop-k;
      u_bound = (omega (arith, c.requires.u_bound.0, e), c.requires.u_bound.1, omega (arith, c.loop-k-test.true));
      missing_nonzero = (
        c.loop-k.invariant.0,
        rank-few a.q
            (takes (goal.at.take_word-left-requires c).Start) c.loop-k.invariant.1 c.requires.missing_nonzero.1,
      );
    }

taken : (c : After-take_word-left) →
    TakeRank (state (goal.at.After-take_word-left c).Start) c.args.q c.args.u c.args.missing c.take_word-left.new.rack c.take_word-left.result (c.loop-k.k + 1)
unfolding read
taken c =
    rank-next c.args.q (takes (goal.at.After-take_word-left c).Start) c.loop-k.invariant.1
    (omega (arith, c.loop-k-test.true)) c.take_word-left.ensures.rack_after
    c.take_word-left.ensures.j_value

pub returns-then-left-eq0 : goal.returns-then-left-eq0
returns-then-left-eq0 c = let e = rank-full c.args.q (takes (goal.at.returns-then-left-eq0 c).Start)
    (taken (goal.at.returns-then-left-eq0 c).After-take_word-left) c.requires.missing_nonzero.1 (omega (arith, c.if-left-eq0.true)) in
    record { rack_after = e.0; rack_value = omega (arith, e.1, c.if-left-eq0.true) }

pub loop-k-preserved : goal.loop-k-preserved
loop-k-preserved c = (omega (arith, c.if-left-eq0.false), taken (goal.at.loop-k-preserved c).After-take_word-left)

pub returns : goal.returns
unfolding read
returns c =
    let t = rank-end c.args.q (takes (goal.at.returns c).Start) c.loop-k.invariant.1 (omega (arith, c.loop-k-test.false)) in
    record { rack_after = t.0; rack_value = t.1 }
