-- `moves::step_counts` meets its contract. The loop's invariant: the counts at the first x levels have been stepped. Assumes nothing.
use mathlib.Core.Path.{refl, sym, ap, ◌∙◌, subst}
use mathlib.Core.Bool.{Bool}
use Prim.Native.Nat.{◌+◌}
use native.Mathlib.Omega.{arith}
use Rattle.model.specs.Shape.{low}
use Rattle.moves.specs.Counts.{step, CanStep, largest_count, recounted}
use Rattle.moves.proofs.CountSteps.{step-wider, step-below, next-count, next_level}
use Rattle.moves.proofs.step_counts.Goals.{After-phi-c}
use Rattle.moves.proofs.step_counts.Goals as goal

-- there is room for a step of the count that was read
abbrev more_of : After-phi-c → Bool
more_of c = c.args.more

room : (c : After-phi-c) → CanStep (more_of c) (largest_count low) c.phi-c.result
room c =
    let a = c.args in
    let l = c.loop-x in
    let e = c.phi-c.ensures ∙ next-count low (step a.more) a.rack.now a.w a.j l.x l.invariant in
    subst (CanStep a.more (largest_count low)) (sym e) (c.requires.by_index (a.j + l.x) (omega arith) (omega arith))

pub loop-x-init : goal.loop-x-init
unfolding recounted
loop-x-init c = refl

pub stepped-requires : goal.stepped-requires
stepped-requires c = step-wider (more_of (goal.at.stepped-requires c).After-phi-c) c.phi-c.result (omega arith)
    (room (goal.at.stepped-requires c).After-phi-c)

pub overflow_cast-stepped : goal.overflow_cast-stepped
overflow_cast-stepped c = omega (
  arith,
  c.stepped.ensures,
  step-below (more_of (goal.at.overflow_cast-stepped c).After-phi-c) 256 c.phi-c.result (omega arith)
      (room (goal.at.overflow_cast-stepped c).After-phi-c),
)

pub loop-x-preserved : goal.loop-x-preserved
loop-x-preserved c = let put = c.set_phi in
    let new = c.stepped in
    let got = c.phi-c in
    let l = c.loop-x in
    let a = c.args in
    let e = new.ensures ∙ ap (step a.more) got.ensures in
    next_level low (step a.more) a.rack.now a.w a.j l.x l.invariant _ _ refl e put.ensures
