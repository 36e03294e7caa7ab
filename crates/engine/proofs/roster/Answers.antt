-- `engine::roster` meets its contract. Assumes nothing.
use mathlib.Core.Path.{ap, ◌∙◌, subst}
use mathlib.Core.List.{List}
use Prim.Native.Nat.{ℕ}
use native.Mathlib.Omega.{arith}
use lib.IntN.{ℤ}
use mir.Syntax.{w32}
use mir.ValLaws.{to_z-of_z}
use Rattle.std.proofs.lemmas.Result.{err_from_is_err_and}
use Rattle.std.specs.Prelude.{None, Some}
use Rattle.engine.specs.Answers.{Ranks}
use Rattle.model.specs.Shape.{low}
use Rattle.model.specs.Counting.{count}
use Rattle.model.specs.Bytes.{roster_at}
use Rattle.model.proofs.Counting.{count-bound}
use Rattle.changes.proofs.Numbers.{some-number}
use Rattle.engine.proofs.Numbers.{roster-back, roster-is, level-none, level-roster}
use Rattle.engine.proofs.roster.Goals.{In-Some}
use Rattle.engine.proofs.roster.Goals as goal

pub returns-in_err-rack : goal.returns-in_err-rack
returns-in_err-rack c = let p = err_from_is_err_and c.from_residual.result c.from_residual.ensures.1 in
    rw (p.1, p.2) (roster-back low _ _ c.in_err-rack.ensures (some-number _))

pub returns-in_default : goal.returns-in_default
returns-in_default c = let a = c.args in
    let z = c.in_ok-rack.ensures.1 in
    roster-is low a.bytes.now a.level z
    (level-none low a.bytes.now z a.level (subst (λ (y : ℤ). Ranks low.levels y None) (to_z-of_z w32 a.level c.ranges.level) c.in_default.ensures))

-- the rank that was found, of the level as it was given
ranked : (c : In-Some) → Ranks low.levels c.args.level (Some c.in-Some.rank)
ranked c =
    subst (λ (y : ℤ). Ranks low.levels y (Some c.in-Some.rank)) (to_z-of_z w32 c.args.level c.ranges.level) c.in-Some.ensures

pub size-requires : goal.size-requires
size-requires c = record { r_le_levels = c.in-Some.ensures.0 }

pub overflow_cast-result : goal.overflow_cast-result
overflow_cast-result c =
    omega (arith, c.size.ensures, count-bound (roster_at low c.in_ok-rack.rack.now c.in-Some.rank) low.most)

pub returns : goal.returns
returns c = let a = c.args in
    let z = c.in_ok-rack.ensures.1 in
    roster-is low a.bytes.now a.level z
    (c.size.ensures ∙ ap (λ (bs : List ℕ). count (roster_at low bs c.in-Some.rank) low.most) c.in_ok-rack.ensures.0
    ∙ level-roster low a.bytes.now z a.level c.in-Some.rank (ranked (goal.at.returns c).In-Some))
