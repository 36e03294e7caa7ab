-- `settling::visit` meets its contract. Assumes nothing.
use native.Mathlib.Omega.{arith}
use lib.Dec.{T}
use Rattle.model.specs.Shape.{low}
use Rattle.model.specs.Bytes.{rules_at, read}
use Rattle.model.specs.Moves.{due}
use Rattle.moves.proofs.Held.{proper-pos}
use Rattle.settling.proofs.Steps.{due-low}
use Rattle.settling.proofs.Turns.{Visiting, turn-high, turn-few, turn-due, turn-passed, turn-promoted}
use Rattle.settling.proofs.visit.Goals.{Else-phi-bar, Start}
use Rattle.settling.proofs.visit.Goals as goal

visiting : (c : Start) → Visiting low c.args.rack.now c.args.i c.args.w
visiting c = record { held = c.requires.held.0; inside = c.requires.w_bound.0; level = c.requires.w_bound.1 }

pub returns-then-i-rank : goal.returns-then-i-rank
returns-then-i-rank c = turn-passed (visiting (goal.at.returns-then-i-rank c).Start) c.args.words.now c.args.progress.now c.requires.holds_waiting.0
    (turn-high (visiting (goal.at.returns-then-i-rank c).Start) (omega (arith, c.rank.ensures)))

pub returns-then-phi-bar : goal.returns-then-phi-bar
returns-then-phi-bar c = turn-passed (visiting (goal.at.returns-then-phi-bar c).Start) c.args.words.now c.args.progress.now c.requires.holds_waiting.0
    (turn-few (visiting (goal.at.returns-then-phi-bar c).Start) (omega (arith, c.requires.w_bound.2, c.phi.ensures)))

is-due : (c : Else-phi-bar) → T (due (rules_at c.args.rack.now) c.args.i c.args.w (read low c.args.rack.now))
is-due c =
    turn-due (visiting (goal.at.Else-phi-bar c).Start)
    (omega (arith, c.rank.ensures, c.if-i-rank.false))
    (omega (arith, c.requires.w_bound.2, c.phi.ensures, c.if-phi-bar.false))

pub promote-requires-clause-u_bound : goal.promote-requires-clause-u_bound
promote-requires-clause-u_bound c =
    let d = due-low (rules_at c.args.rack.now) (proper-pos c.requires.held.0.proper) c.args.i c.args.w (read low c.args.rack.now)
    (is-due (goal.at.promote-requires-clause-u_bound c).Else-phi-bar) in
    (c.requires.w_bound.0, d.0, c.requires.w_bound.1, d.1)

pub returns : goal.returns
returns c = turn-promoted (visiting (goal.at.returns c).Start) c.args.words.now c.args.progress.now
    (is-due (goal.at.returns c).Else-phi-bar) c.promote.ensures
