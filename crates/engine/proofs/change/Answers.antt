-- `engine::change` meets its contract. Assumes nothing.
use mathlib.Core.Path.{◌≡◌, sym, ap, ◌∙◌, subst}
use mathlib.Core.List.{List}
use Prim.Native.Nat.{ℕ}
use native.Mathlib.Omega.{arith}
use Rattle.std.proofs.Common.{rules}
use Rattle.std.proofs.lemmas.Result.{err_from_is_err_and}
use Rattle.model.specs.Shape.{low}
use Rattle.model.specs.Change.{Change}
use Rattle.model.specs.Sound.{sound}
use Rattle.model.specs.Calls.{rack_number}
use Rattle.model.proofs.Shapes.{low-good}
use Rattle.changes.specs.Sounded.{Sounded, brought}
use Rattle.changes.proofs.Numbers.{some-number}
use Rattle.engine.specs.Answers.{ChangeIs, sound_number}
use Rattle.engine.proofs.Numbers.{sized-short, rack-one, rack-sized}
use Rattle.engine.proofs.Changing.{turned-is, sounded, ran-is}
use Rattle.engine.proofs.change.Goals.{In-Some, In_ok-check_sound, Start}
use Rattle.engine.proofs.change.Goals as goal

abbrev given : Start → Change
given d = brought d.args.code d.args.a d.args.b d.args.words.now

pub returns-in_default : goal.returns-in_default
returns-in_default c =
    let all = turned-is low _ (given (goal.at.returns-in_default c).Start) (rack-one low _ (sized-short low _ c.in_default.ensures.cases)) (λ z. omega arith) in
    record { answers = all.0; leaves = all.1 }

-- the bytes are as many as a rack has
numbered : (c : In-Some) → rack_number low c.args.bytes.now ≡ sound_number (sound low c.in-Some.rack.now)
numbered c =
    let e = c.in-Some.ensures.cases in
    rack-sized low _ e.long ∙ ap (λ (bs : List ℕ). sound_number (sound low bs)) (sym e.same)

pub returns-in_err-check_sound : goal.returns-in_err-check_sound
returns-in_err-check_sound c = let p = err_from_is_err_and c.from_residual.result c.from_residual.ensures.1 in
    let all = turned-is low _ (given (goal.at.returns-in_err-check_sound c).Start)
    (numbered (goal.at.returns-in_err-check_sound c).In-Some ∙ sym c.in_err-check_sound.ensures) (some-number _) in
    record { answers = rw (p.1, p.2) all.0; leaves = c.in-Some.ensures.cases.same ∙ all.1 }

-- neither 1 nor 6 fits
good : (c : In_ok-check_sound) → Sounded low c.args.bytes.now
good c =
    sounded low-good _ (λ k. search rules) (numbered (goal.at.In_ok-check_sound c).In-Some ∙ sym c.in_ok-check_sound.ensures)

pub change-requires : goal.change-requires
change-requires c = subst (Sounded low) (sym c.in-Some.ensures.cases.same) (good (goal.at.change-requires c).In_ok-check_sound)

pub returns : goal.returns
returns c = let e = c.change.ensures in
    let d = given (goal.at.returns c).Start in
    let g = good (goal.at.returns c).In_ok-check_sound in
    let same = c.in-Some.ensures.cases.same in
    subst (λ (bs : List ℕ). ChangeIs low bs d c.change.result c.change.new.rack) same
    (ran-is _ d (subst (Sounded low) (sym same) g) c.change.result c.change.new.rack e.answers e.leaves)
