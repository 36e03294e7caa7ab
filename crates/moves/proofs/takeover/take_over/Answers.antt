-- `moves::takeover::take_over` meets its contract. The loop's invariant: u has taken what the vertices of a rank below q owed it, and as many edges as
-- are missing are still owed. Assumes nothing.
use mathlib.Core.Path.{◌≡◌, sym, ap, ◌∙◌, subst}
use Prim.Native.Nat.{ℕ, ◌+◌, ◌-◌, ◌≤◌, ◌<◌}
use native.Mathlib.Omega.{arith}
use Rattle.model.specs.Counting.{count}
use Rattle.model.specs.Shape.{low}
use Rattle.model.specs.State.{State}
use Rattle.model.specs.Bytes.{kind_at, read}
use Rattle.model.specs.Change.{reown}
use Rattle.moves.specs.Proper.{Held, took_from}
use Rattle.moves.proofs.Held.{held-room, held_small, held-rank, held-phi, held-degree}
use Rattle.moves.proofs.Owed.{TakeOver, CanRise, owed, owed-count, over-start, over-read, over-held, over-end, over-few, over-next, over_none}
use Rattle.moves.proofs.takeover.take_over.Goals.{After-degree, At-loop-q, In-loop-q, Start}
use Rattle.moves.proofs.takeover.take_over.Goals as goal

abbrev state : Start → State
state s = read low s.args.rack.now

riser : (s : Start) → CanRise (kind_at low s.args.rack.now) (state s) s.args.i s.args.u
riser s = record { proper = s.requires.held.0.proper; within = s.requires.u_bound.0; low = s.requires.by_index }

u-small : (s : Start) → s.args.u < low.most
u-small s = held_small s.requires.held.0 s.args.u s.requires.u_bound.0

i-small : (s : Start) → s.args.i < low.levels
i-small s = omega (arith, held-room s.requires.held.0, s.requires.u_bound.2)

-- the count less the edges that u owns is what is owed
abbrev all_owed : Start → ℕ
all_owed s = count (owed (state s) s.args.i s.args.u) (state s).n

counted : (c : After-degree) → c.phi.result ≡ c.degree.result + all_owed (goal.at.After-degree c).Start
counted c =
    omega (
      arith,
      c.phi.ensures,
      c.degree.ensures,
      held-phi c.requires.held.0 c.args.u c.args.i (u-small (goal.at.After-degree c).Start) c.requires.u_bound.2,
      held-degree c.requires.held.0 c.args.u (u-small (goal.at.After-degree c).Start),
      owed-count (riser (goal.at.After-degree c).Start) c.requires.u_bound.1,
    )

held : (c : At-loop-q) → Held low c.loop-q.rack
held c = over-held (riser (goal.at.At-loop-q c).Start) c.loop-q.invariant

-- in a turn q is the rank of a vertex below i
rank-low : (c : In-loop-q) → c.loop-q.q ≤ c.args.i
rank-low c = omega (arith, c.loop-q-test.true)

pub overflow_sub-missing : goal.overflow_sub-missing
overflow_sub-missing c = omega (arith, counted c)

pub loop-q-init : goal.loop-q-init
loop-q-init c = let a = c.args in
    let m : ℕ = c.phi.result - c.degree.result in
    let r : c.rank-q.result ≡ (state (goal.at.loop-q-init c).Start).rank a.u = c.rank-q.ensures ∙ held-rank c.requires.held.0 a.u
    (u-small (goal.at.loop-q-init c).Start) in
    subst (λ (q : ℕ). TakeOver (state (goal.at.loop-q-init c).Start) a.i a.u a.rack.now m q) (sym r)
    (over-start (riser (goal.at.loop-q-init c).Start) c.requires.held.1 c.requires.held.0.written
    (omega (arith, counted (goal.at.loop-q-init c).After-degree)))

pub take_rank-missing-requires : goal.take_rank-missing-requires
unfolding took_from reown
take_rank-missing-requires c = let e : (read low c.loop-q.rack).n ≡ (state (goal.at.take_rank-missing-requires c).Start).n = ap
    (λ (c : State). c.n) (over-read (riser (goal.at.take_rank-missing-requires c).Start) c.loop-q.invariant) in record {
      held = held (goal.at.take_rank-missing-requires c).At-loop-q;
      u_bound = (
        omega (arith, c.requires.u_bound.0, e),
        omega
            (arith, rank-low (goal.at.take_rank-missing-requires c).In-loop-q, i-small (goal.at.take_rank-missing-requires c).Start),
      );
      missing_nonzero = (
        omega (arith, c.if-missing-eq0.false),
        over-few (riser (goal.at.take_rank-missing-requires c).Start) c.loop-q.invariant
            (rank-low (goal.at.take_rank-missing-requires c).In-loop-q),
      );
    }

pub loop-q-preserved : goal.loop-q-preserved
loop-q-preserved c = let next : ℕ → Type 0 = λ q. TakeOver
    (state (goal.at.loop-q-preserved c).Start) c.args.i c.args.u c.take_rank-missing.new.rack c.take_rank-missing.result q in
    subst next {x = c.loop-q.q + 1} (omega arith)
    (over-next (riser (goal.at.loop-q-preserved c).Start) c.loop-q.invariant
    (rank-low (goal.at.loop-q-preserved c).In-loop-q) c.take_rank-missing.ensures.rack_after c.take_rank-missing.ensures.rack_value)

pub returns-then-missing-eq0 : goal.returns-then-missing-eq0
returns-then-missing-eq0 c = over_none (riser (goal.at.returns-then-missing-eq0 c).Start) c.loop-q.invariant (omega (arith, c.if-missing-eq0.true))

pub returns : goal.returns
returns c = over-end (riser (goal.at.returns c).Start) c.loop-q.invariant (omega (arith, c.loop-q-test.false))
