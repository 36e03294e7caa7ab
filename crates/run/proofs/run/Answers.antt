-- `run::run` meets its contract. Assumes nothing.
use mathlib.Core.Path.{◌≡◌, refl, sym, subst}
use mathlib.Core.Bool.{true}
use Prim.Native.Nat.{ℕ, ◌≤◌}
use lib.ListN.{length, take}
use lib.Seq.{length-take-le}
use Rattle.std.specs.Prelude.{None, Some, Ok}
use native.Mathlib.Omega.{arith}
use Rattle.std.proofs.lemmas.Result.{err_from_is_err_and}
use Rattle.model.specs.Shape.{low}
use Rattle.model.specs.Calls.{sized, asked_number}
use Rattle.model.specs.Record.{kind_of}
use Rattle.model.specs.Run.{rack-length, text-long, space-short}
use Rattle.calls.specs.declared.Refusal.TheVariants.{RackLength}
use Rattle.trace.specs.Check.{Checks}
use Rattle.trace.proofs.ReadLoop.{refused}
use Rattle.run.specs.Recording.{IsKept, Recordable, Took, trace_of, told}
use Rattle.run.proofs.Whole.{Lent, no_rack, whole-rack, turned-bad, took-blank, heads-within, is-kept, recordable, took}
use Rattle.run.proofs.run.Goals.{In_ok-rack, In-Some, Else-space-lt-RECORD_SPACE}
use Rattle.run.proofs.run.Goals as goal

-- what holds where the lengths are tested: the rack's bytes are those lent
whole : (c : In_ok-rack) → (sized low c.args.bytes.now ≡ true) × (c.in_ok-rack.rack.now ≡ c.args.bytes.now)
whole c = whole-rack c.args.bytes.now c.as_mut_array.ensures.cases c.in_ok-rack.ensures.ok_part

lent : (c : Else-space-lt-RECORD_SPACE) → let a = c.args in Lent a.bytes.now a.text.now a.space.now
lent c = record {
  whole = (whole (goal.at.Else-space-lt-RECORD_SPACE c).In_ok-rack).0;
  short = omega arith;
  wide = omega (arith, c.if-space-lt-RECORD_SPACE.false);
}

pub returns-in_err-rack : goal.returns-in_err-rack
returns-in_err-rack c =
    let e = c.in_err-rack in
    rw (refused _ RackLength e.field-0.0 c.from_residual.result e.ensures.ok_part e.ensures.value c.from_residual.ensures.1)
    (rack-length (no_rack c.args.bytes.now c.as_mut_array.ensures.cases e.ensures.ok_part))

pub returns-then-text-gt-TEXT_LIMIT : goal.returns-then-text-gt-TEXT_LIMIT
returns-then-text-gt-TEXT_LIMIT c = let w = whole (goal.at.returns-then-text-gt-TEXT_LIMIT c).In_ok-rack in
    rw w.1 (text-long w.0 (omega (arith, c.if-text-gt-TEXT_LIMIT.true)))

pub returns-then-space-lt-RECORD_SPACE : goal.returns-then-space-lt-RECORD_SPACE
returns-then-space-lt-RECORD_SPACE c = let w = whole (goal.at.returns-then-space-lt-RECORD_SPACE c).In_ok-rack in
    rw w.1 (space-short w.0 (omega arith) (omega (arith, c.if-space-lt-RECORD_SPACE.true)))

pub returns-in_err-read : goal.returns-in_err-read
returns-in_err-read c = let d = (goal.at.returns-in_err-read c).Else-space-lt-RECORD_SPACE in
    let p = err_from_is_err_and c.from_residual-in_err-read.result c.from_residual-in_err-read.ensures.1 in
    rw ((whole (goal.at.Else-space-lt-RECORD_SPACE d).In_ok-rack).1, p.1, p.2)
    (turned-bad c.read.new.heads c.read.new.words (lent d) c.in_err-read.field-0.0 c.in_err-read.ensures)

-- what was read of a trace
checked : (c : In-Some) → Checks c.args.text.now c.read.new.heads c.read.new.words (Ok (Some c.in-Some.found))
checked c = rw c.in-Some.is at c.in_ok-read.ensures

within : (c : In-Some) → c.in-Some.found.changes ≤ length c.read.new.heads
within c = heads-within c.read.new.heads c.read.new.words c.in-Some.found (lent (goal.at.In-Some c).Else-space-lt-RECORD_SPACE) (checked c)

pub slice_bounds-heads-end : goal.slice_bounds-heads-end
slice_bounds-heads-end c = omega (arith, within (goal.at.slice_bounds-heads-end c).In-Some)

pub slice_bounds-trace-end : goal.slice_bounds-trace-end
slice_bounds-trace-end c = sym (length-take-le _ c.read.new.heads (omega (arith, within (goal.at.slice_bounds-trace-end c).In-Some)))

pub invariant_of-trace : goal.invariant_of-trace
invariant_of-trace c = let d = (goal.at.invariant_of-trace c).In-Some in
    subst (λ (k : ℕ). IsKept (take k c.read.new.heads) c.read.new.words) {x = c.in-Some.found.changes} (omega arith)
    (is-kept c.read.new.heads c.read.new.words c.in-Some.found (lent (goal.at.In-Some d).Else-space-lt-RECORD_SPACE) (checked d))

pub taken-requires : goal.taken-requires
taken-requires c = let d = (goal.at.taken-requires c).In-Some in
    let x = c.in-Some.found in
    subst (λ (k : ℕ). Recordable (trace_of x.n x.settings (take k c.read.new.heads) c.read.new.words) (length c.args.space.now)) {x = x.changes} (omega arith)
    (recordable c.read.new.heads c.read.new.words x (lent (goal.at.In-Some d).Else-space-lt-RECORD_SPACE) (checked d))

pub returns-in-None : goal.returns-in-None
returns-in-None c = let d = (goal.at.returns-in-None c).Else-space-lt-RECORD_SPACE in
    let none : Checks c.args.text.now c.read.new.heads c.read.new.words (Ok None) = rw c.in-None.is at c.in_ok-read.ensures in
    rw (whole (goal.at.Else-space-lt-RECORD_SPACE d).In_ok-rack).1 (took-blank (lent d) none c.put_blank.ensures refl refl refl)

pub returns-in-Some : goal.returns-in-Some
returns-in-Some c = let d = (goal.at.returns-in-Some c).In-Some in
    let g = (goal.at.In-Some d).Else-space-lt-RECORD_SPACE in
    let x = c.in-Some.found in
    let ran : ℕ → Type 0 = λ k. let t = trace_of x.n x.settings (take k c.read.new.heads) c.read.new.words in
    Took (asked_number (kind_of t) t.n) t c.args.bytes.now c.args.space.now (told c.taken.result) c.taken.new.rack c.taken.new.space in
    took c.read.new.heads c.read.new.words x (lent g) (checked d)
    (subst ran {y = x.changes} (omega arith) (rw (whole (goal.at.Else-space-lt-RECORD_SPACE g).In_ok-rack).1 at c.taken.ensures))
