-- `engine::sound` meets its contract. Assumes nothing.
use mathlib.Core.Path.{◌≡◌, sym, ap, ◌∙◌}
use Rattle.std.proofs.lemmas.Result.{err_from_is_err_and}
use Rattle.model.specs.Shape.{low}
use mathlib.Core.List.{List}
use Prim.Native.Nat.{ℕ}
use Rattle.model.specs.Sound.{sound}
use Rattle.model.specs.Calls.{rack_number}
use Rattle.calls.specs.Terms.{number_of}
use Rattle.engine.specs.Answers.{sound_number}
use Rattle.engine.proofs.Numbers.{sized-short, rack-one, rack-sized}
use Rattle.engine.proofs.sound.Goals.{In_ok-rack}
use Rattle.engine.proofs.sound.Goals as goal

pub returns-in_err-rack : goal.returns-in_err-rack
returns-in_err-rack c = let p = err_from_is_err_and c.from_residual.result c.from_residual.ensures.1 in
    let e = c.in_err-rack.ensures in
    rw (p.1, p.2) (rack-one low _ (sized-short low _ e.1) ∙ sym (ap number_of e.0))

-- the bytes are as many as a rack has
numbered : (c : In_ok-rack) → rack_number low c.args.bytes.now ≡ sound_number (sound low c.in_ok-rack.rack.now)
numbered c = let e = c.in_ok-rack.ensures in rack-sized low _ e.1 ∙ ap (λ (bs : List ℕ). sound_number (sound low bs)) (sym e.0)

pub returns-in_err-check_sound : goal.returns-in_err-check_sound
returns-in_err-check_sound c = let p = err_from_is_err_and c.from_residual-in_err-check_sound.result c.from_residual-in_err-check_sound.ensures.1 in
    rw (p.1, p.2) (numbered (goal.at.returns-in_err-check_sound c).In_ok-rack ∙ sym c.in_err-check_sound.ensures)

pub returns : goal.returns
returns c = (c.in_ok-rack.ensures.0, numbered (goal.at.returns c).In_ok-rack ∙ sym c.in_ok-check_sound.ensures)
