-- `engine::make_with` meets its contract. Assumes nothing.
use mathlib.Core.Path.{◌≡◌, sym, ◌∙◌}
use mathlib.Core.Bool.{true}
use mathlib.Core.List.{List}
use Prim.Native.Nat.{ℕ}
use native.Mathlib.Omega.{arith}
use Rattle.model.specs.Shape.{low}
use Rattle.model.specs.State.{Kind, InRange, empty}
use Rattle.model.specs.Bytes.{write}
use Rattle.model.specs.Sound.{size_good}
use Rattle.model.specs.Calls.{sized}
use Rattle.model.proofs.Tests.{true-T}
use Rattle.model.proofs.Facts.{settings_good-says}
use Rattle.calls.specs.Terms.{kind_with}
use Rattle.engine.proofs.Numbers.{sized-long, sized-short, asked-five, asked-thirteen, asked-none, make-one, make-back, make-new, few-bad, many-bad, few-good}
use Rattle.engine.proofs.make_with.Goals.{Else-n-gt-MOST, Else-not-in_range, In-Some, Start}
use Rattle.engine.proofs.make_with.Goals as goal

-- turned back: the number, and the bytes as they were
turned : {x y : ℕ} {bs now after : List ℕ} → now ≡ bs → (x ≡ y) × (after ≡ bs) → (y ≡ x) × (now ≡ after)
turned e r = (sym r.0, e ∙ sym r.1)

-- the kind that is asked for
abbrev asked : Start → Kind
asked d = kind_with d.args.settings

long : (c : In-Some) → sized low c.args.bytes.now ≡ true
long c = sized-long low _ c.in-Some.ensures.cases.long

-- n is one of the paper's board numbers
size-good : (c : Else-n-gt-MOST) → size_good low c.args.n ≡ true
size-good c = few-good low _ c.if-n-eq0.false (omega (arith, c.if-n-gt-MOST.false))

-- the settings are in their ranges
range : (c : Else-not-in_range) → InRange (asked (goal.at.Else-not-in_range c).Start)
range c =
    let k = asked (goal.at.Else-not-in_range c).Start in
    (settings_good-says k).fact (true-T (sym c.if-not-in_range.ensures))

pub returns-in_default : goal.returns-in_default
returns-in_default c =
    let all = make-one (asked (goal.at.returns-in_default c).Start) _ _ (sized-short low _ c.in_default.ensures.cases) in
    record { number = sym all.0; leaves = sym all.1 }

pub returns-then-n-eq0 : goal.returns-then-n-eq0
returns-then-n-eq0 c = let k = asked (goal.at.returns-then-n-eq0 c).Start in
    let all = turned c.in-Some.ensures.cases.same (make-back k _ _ (long (goal.at.returns-then-n-eq0 c).In-Some)
    (asked-five k _ (few-bad low _ c.if-n-eq0.true)) (omega arith)) in
    record { number = all.0; leaves = all.1 }

pub returns-then-n-gt-MOST : goal.returns-then-n-gt-MOST
returns-then-n-gt-MOST c = let k = asked (goal.at.returns-then-n-gt-MOST c).Start in
    let all = turned c.in-Some.ensures.cases.same (make-back k _ _ (long (goal.at.returns-then-n-gt-MOST c).In-Some)
    (asked-five k _ (many-bad low _ (omega (arith, c.if-n-gt-MOST.true)))) (omega arith)) in
    record { number = all.0; leaves = all.1 }

pub returns-then-not-in_range : goal.returns-then-not-in_range
returns-then-not-in_range c = let k = asked (goal.at.returns-then-not-in_range c).Start in
    let all = turned c.in-Some.ensures.cases.same (make-back k _ _ (long (goal.at.returns-then-not-in_range c).In-Some)
    (asked-thirteen k _ (size-good (goal.at.returns-then-not-in_range c).Else-n-gt-MOST) (sym c.if-not-in_range.ensures)) (omega arith)) in
    record { number = all.0; leaves = all.1 }

pub overflow_cast-settings : goal.overflow_cast-settings
overflow_cast-settings c = omega (arith, (range (goal.at.overflow_cast-settings c).Else-not-in_range).most)

pub overflow_cast-settings-2 : goal.overflow_cast-settings-2
overflow_cast-settings-2 c = omega (arith, (range (goal.at.overflow_cast-settings-2 c).Else-not-in_range).room)

pub returns : goal.returns
returns c = let k = asked (goal.at.returns c).Start in
    let n = c.args.n in
    let r = make-new k _ n (long (goal.at.returns c).In-Some)
    (asked-none k n (size-good (goal.at.returns c).Else-n-gt-MOST) (sym c.if-not-in_range.ensures)) in
    let empties : c.clear.new.rack ≡ write (empty k n) = c.clear.ensures in
    record { number = sym r.0; leaves = empties ∙ sym r.1 }
