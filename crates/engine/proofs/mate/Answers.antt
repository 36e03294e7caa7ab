-- `engine::mate` meets its contract. Assumes nothing.
use mathlib.Core.Path.{ap, ◌∙◌}
use mathlib.Core.List.{List}
use Prim.Native.Nat.{ℕ}
use Rattle.std.proofs.lemmas.Result.{err_from_is_err_and}
use Rattle.model.specs.Shape.{low}
use Rattle.model.specs.Bytes.{mate_at}
use Rattle.changes.proofs.Numbers.{some-number}
use Rattle.engine.proofs.Numbers.{asked, mate-back, mate-is}
use Rattle.engine.proofs.mate.Goals as goal

pub returns-in_err-rack : goal.returns-in_err-rack
returns-in_err-rack c = let p = err_from_is_err_and c.from_residual.result c.from_residual.ensures.1 in
    rw (p.1, p.2) (mate-back low _ _ c.in_err-rack.ensures (some-number _))

pub mate_entry-requires : goal.mate_entry-requires
mate_entry-requires c = record { v_lt_most = (asked low _ _ c.in_ok-rack.ensures.1).1 }

pub returns : goal.returns
returns c = let e = c.in_ok-rack.ensures in
    let entry = c.mate_entry.ensures ∙ ap (λ (bs : List ℕ). mate_at low bs c.args.v) e.0 in
    (λ i. record { number = 0; value = entry i }) ∙ mate-is low _ _ e.1
