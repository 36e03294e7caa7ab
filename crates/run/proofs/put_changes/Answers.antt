-- `run::put_changes` meets its contract. The invariant is `Going` of `Turns`. Assumes nothing.
use mathlib.Core.Path.{◌≡◌, sym, subst}
use mathlib.Core.List.{◌∷◌}
use Prim.Native.Nat.{◌+◌}
use native.Mathlib.Omega.{arith}
use native.Mathlib.Numerals.{add-one}
use lib.ListN.{length, get_or, drop}
use lib.Seq.{drop-cons}
use Rattle.model.specs.Trace.{Trace}
use Rattle.text.proofs.Over.{back}
use Rattle.calls.specs.declared.Kind.TheVariants.{Add}
use Rattle.lines.specs.declared.Line.{Line}
use Rattle.run.specs.Recording.{Ready, Played}
use Rattle.run.proofs.Turns.{going_start, going-turn, end-within, going_end}
use Rattle.run.proofs.put_changes.Goals.{In-loop-head}
use Rattle.run.proofs.put_changes.Goals as goal

-- the head whose turn it is
abbrev head : In-loop-head → Line
head c = get_or c.trace.inside.heads.now c.loop-head.head-index (record { a = 0; b = 0; kind = Add; count = 0 })

turn : (c : In-loop-head) → let k = c.loop-head.head-index in drop k c.trace.inside.heads.now ≡ head c ∷ drop (k + 1) c.trace.inside.heads.now
turn c = rw add-one (drop-cons c.trace.inside.heads.now c.loop-head.head-index (record { a = 0; b = 0; kind = Add; count = 0 }) c.loop-head-test.true)

pub loop-head-init : goal.loop-head-init
loop-head-init c =
    let ready = subst (λ (t : Trace). Ready t.changes (length c.args.out.now)) (sym c.trace.view_is) c.requires.ready in
    going_start c.requires.sounded c.trace.invariant ready

-- the state after the turn
pub loop-head-preserved : goal.loop-head-preserved
loop-head-preserved c = let made = c.put_change-at.ensures in
    going-turn c.loop-head.invariant (turn (goal.at.loop-head-preserved c).In-loop-head) (made.leaves, made.prints)

pub overflow_add-at : goal.overflow_add-at
overflow_add-at c = let made = c.put_change-at.ensures in
    let next = going-turn c.loop-head.invariant (turn (goal.at.overflow_add-at c).In-loop-head) (made.leaves, made.prints) in
    omega (arith, next.room, c.well_formed)

pub returns : goal.returns
returns c =
    let l = c.loop-head in
    let p = c.put_ending in
    subst (λ (t : Trace). Played t.changes c.args.rack.now l.rack c.args.out.now (back l.at l.out p.new.out) (l.at + p.result)) c.trace.view_is
    (going_end l.invariant p.ensures (omega (arith, c.loop-head-test.false)))

pub overflow_add-result : goal.overflow_add-result
overflow_add-result c = omega (arith, end-within c.loop-head.invariant c.put_ending.ensures, c.well_formed)
