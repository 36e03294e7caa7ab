-- `settling::draw` meets its contract: the row holds exactly the vertices to choose among. Assumes nothing.
use mathlib.Core.Path.{◌≡◌, refl, ap, ◌∙◌, subst}
use Prim.Native.Nat.{ℕ, suc, ◌≤◌}
use native.Mathlib.Omega.{arith}
use lib.Dec.{T}
use Rattle.model.specs.Shape.{low}
use Rattle.model.specs.State.{near}
use Rattle.model.specs.Bytes.{read}
use Rattle.model.specs.Words.{deciding}
use Rattle.model.specs.Moves.{chosen, spent}
use Rattle.model.proofs.Deciding.{deciding-most, place-less}
use Rattle.layout.specs.Rows.{NthOwned}
use Rattle.moves.proofs.Held.{held_small}
use Rattle.settling.specs.Settling.{running, draw_limit}
use Rattle.settling.proofs.Entries.{below-most, row-degree, row-chosen}
use Rattle.settling.proofs.Holding.{but-part}
use Rattle.settling.proofs.Written.{Drawing, drawing-of, lifted-pairs, drawn-left}
use Rattle.settling.proofs.draw.Goals.{After-nth_owned-y, Start}
use Rattle.settling.proofs.draw.Goals as goal

-- there are vertices to choose among, and no more than a rack has
among : (c : Start) → (1 ≤ c.args.k) × (c.args.k ≤ low.most)
among c =
    let p = c.requires.row_below in
    (omega (arith, p.1, p.2), omega (arith, p.2, below-most c.requires.held.0 c.args.u c.args.i))

pub decide-by-requires : goal.decide-by-requires
decide-by-requires c = among (goal.at.decide-by-requires c).Start

pub nth_owned-y-requires : goal.nth_owned-y-requires
nth_owned-y-requires c = let a = c.args in
    let h = c.requires.held.0 in
    let size = row-degree a.rack.now h a.i a.u c.requires.u_bound.0 c.requires.row_below.0 in
    let less = place-less a.words.now a.progress.now.tally.draws a.k (among (goal.at.nth_owned-y-requires c).Start).0 in
    record {
      v_lt_most = held_small h _ c.requires.u_bound.0;
      k_bound = omega (arith, c.requires.row_below.2, size, less, c.decide-by.ensures.1);
    }

chosen_is : (c : After-nth_owned-y)
    → (c.nth_owned-y.result ≡ chosen c.args.words.now c.args.i c.args.u (running low c.args.rack.now c.args.progress.now))
    × T (near (read low c.args.rack.now) c.args.u c.args.i c.nth_owned-y.result)
chosen_is c =
    let a = c.args in
    row-chosen a.rack.now c.requires.held.0 a.i a.u c.requires.u_bound.0 c.requires.row_below.0
    a.words.now a.progress.now a.k c.nth_owned-y.result c.requires.row_below.2
    (subst (λ (x : ℕ). NthOwned low a.rack.now a.u x c.nth_owned-y.result) c.decide-by.ensures.1 c.nth_owned-y.ensures)

drawing : (c : After-nth_owned-y) → Drawing low c.args.rack.now c.args.i c.args.u c.nth_owned-y.result
drawing c = drawing-of c.requires.held.0 c.requires.held.1 c.requires.u_bound (chosen_is c).1

pub lift-requires : goal.lift-requires
lift-requires c = let d = drawing (goal.at.lift-requires c).After-nth_owned-y in
    let a = d.rising in record {
      held = (a.held, a.ordered);
      v_bound = (a.inside, a.low, a.level);
      can_part = but-part _ c.requires.holds_waiting_but.0 _;
    }

pub pair-requires : goal.pair-requires
pair-requires c =
    let all = lifted-pairs (drawing (goal.at.pair-requires c).After-nth_owned-y) c.lift.ensures.rack_after in
    record { held = all.0; u_bound = all.1 }

-- the words used then, one more than the number of the word that decided
pub overflow_add-used : goal.overflow_add-used
overflow_add-used c = let a = c.args in
    let far = deciding-most a.words.now a.progress.now.tally.draws a.k draw_limit c.requires.holds_waiting_but.1 (omega arith) in
    omega (arith, far, c.decide-by.ensures.0)

spent-is : (c : After-nth_owned-y) {used : ℕ} → used ≡ suc c.decide-by.result.number
    → used ≡ spent c.args.words.now c.args.i c.args.u (running low c.args.rack.now c.args.progress.now)
unfolding spent
spent-is c e =
    let a = c.args in
    e ∙ ap suc (c.decide-by.ensures.0 ∙ ap (deciding a.words.now a.progress.now.tally.draws) c.requires.row_below.2)

pub returns : goal.returns
returns c =
    drawn-left (drawing (goal.at.returns c).After-nth_owned-y) c.lift.ensures.rack_after c.args.progress.now
    c.requires.holds_waiting_but.0 c.lift.ensures.queue_after c.args.words.now
    (chosen_is (goal.at.returns c).After-nth_owned-y).0 c.pair.ensures
    (spent-is (goal.at.returns c).After-nth_owned-y (omega (arith, c.drew-progress.ensures.0)), c.drew-progress.ensures.1, refl)
