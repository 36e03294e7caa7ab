-- `engine::audit` meets its contract. Assumes nothing.
use mathlib.Core.Path.{ap, ◌∙◌}
use mathlib.Core.List.{List}
use Prim.Native.Nat.{ℕ}
use Rattle.std.proofs.lemmas.Result.{err_from_is_err_and}
use Rattle.model.specs.Shape.{low}
use Rattle.model.specs.Sound.{sound}
use Rattle.engine.proofs.Numbers.{audit-back, audit-is}
use Rattle.engine.proofs.audit.Goals as goal

pub returns-in_err-sized : goal.returns-in_err-sized
returns-in_err-sized c = let p = err_from_is_err_and c.from_residual.result c.from_residual.ensures.1 in
    let e = c.in_err-sized.ensures in
    rw (p.1, p.2, e.0) (audit-back low _ e.1)

pub returns : goal.returns
returns c = let e = c.in_ok-sized.ensures in
    let same = c.sound.ensures ∙ ap (λ (bs : List ℕ). sound low bs) e.0 in
    (λ i. record { number = 0; yes = same i }) ∙ audit-is low _ e.1
