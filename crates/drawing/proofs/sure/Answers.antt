-- `drawing::sure` meets its contract. Assumes nothing.
use Rattle.std.proofs.Common.{rules}
use Rattle.std.proofs.lemmas.List.{take-take}
use Rattle.std.proofs.lemmas.Fn.{fold_over, slice_gives, fronts}
use native.Mathlib.Omega.{arith}
use Rattle.drawing.proofs.Certain.{NoneLarge, none-next, sure-of}
use Rattle.drawing.proofs.sure.Goals as goal

pub returns : goal.returns
returns c =
    let all =
    fold_over fronts (λ y. y.now) _ NoneLarge _ (λ ys a x b f' j k. (none-next ys x.now a (search rules) j, search rules)) _ _ _ _
    (slice_gives c.iter.result) (λ t i h. absurd (omega arith)) c.fold.ensures.ran in
    let got = c.in-Some.ensures.lookup.0 in
    sure-of c.args.words.now _ c.args.h c.fold.result (omega arith)
    (grind (arith, c.iter.ensures.rest, got.2, take-take)) all
