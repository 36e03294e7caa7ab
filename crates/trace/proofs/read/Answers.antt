-- `trace::read` meets its contract: each goal is a law of `ReadLoop`, said of the place where the reader stands. Assumes nothing.
use Rattle.std.proofs.Common.{rules, None, Some, length, ◌+◌, ◌<◌, ap, ◌∙◌, arith}
use Rattle.trace.proofs.ReadLoop.{rack-holds, more, next-bad, done, refused}
use Rattle.calls.specs.declared.Refusal.TheVariants.{Line}
use Rattle.lines.specs.Clauses.{RackAt}
use Rattle.reader.specs.Place.{ending_at, ChangeInto}
use Rattle.trace.proofs.Keeping.{longer}
use Rattle.trace.proofs.read.Goals.{After-first_line, After-next_line}
use Rattle.trace.proofs.read.Goals as goal

rack-read : (c : After-first_line) → RackAt c.args.text.now 0 (ending_at c.first_line.new.self.at c.first_line.result)
rack-read c = rw (c.new-reader.ensures.0, c.new-reader.ensures.1) at c.first_line.ensures.0

line-read : (c : After-next_line)
    → ChangeInto c.args.text.now c.loop-reader.reader.at c.loop-reader.kept c.loop-reader.words c.next_line.new.words
    (ending_at c.next_line.new.self.at c.next_line.result)
line-read c = rw c.loop-reader.invariant.same_text at c.next_line.ensures.0

pub returns-in_err-n : goal.returns-in_err-n
returns-in_err-n c =
    let h = c.in_err-n.ensures in
    let e = refused c.first_line.result (Line 1) c.in_err-n.field-0.0 c.from_residual.result h.ok_part h.value c.from_residual.ensures.1 in
    let rack = rw h.ok_part at (rack-read (goal.at.returns-in_err-n c).After-first_line) in
    let some : 0 < length c.args.text.now = search rules in
    rw e (rack-holds c.args.text.now c.args.heads.now c.args.words.now None some rack)

pub loop-reader-init : goal.loop-reader-init
loop-reader-init c = record {
  same_text = ap (λ b. b.now) (c.first_line.ensures.1.0 ∙ c.new-reader.ensures.0);
  read = rack-holds c.args.text.now c.args.heads.now c.args.words.now (Some _) (search rules)
      (rw c.in_ok-n.ensures.ok_part at (rack-read (goal.at.loop-reader-init c).After-first_line));
}

pub returns-in_err-line : goal.returns-in_err-line
returns-in_err-line c =
    let h = c.in_err-line.ensures in
    let why = Line (c.loop-reader.changes + 2) in
    let e = refused c.next_line.result why c.in_err-line.field-0.0 c.from_residual-in_err-line.result h.ok_part h.value
    c.from_residual-in_err-line.ensures.1 in
    let line = rw h.ok_part at (line-read (goal.at.returns-in_err-line c).After-next_line) in
    rw e (next-bad c.loop-reader.invariant.read c.next_line.new.words line c.loop-reader-test.true)

pub overflow_add-kept : goal.overflow_add-kept
overflow_add-kept c =
    let line = rw c.in_ok-line.ensures.ok_part at (line-read (goal.at.overflow_add-kept c).After-next_line) in
    omega (arith, c.requires, c.loop-reader.invariant.read.far, line.0.0)

pub loop-reader-smaller : goal.loop-reader-smaller
loop-reader-smaller c =
    let line = rw c.in_ok-line.ensures.ok_part at (line-read (goal.at.loop-reader-smaller c).After-next_line) in
    omega (arith, longer line.0.1, line.0.1.within)

pub loop-reader-preserved : goal.loop-reader-preserved
loop-reader-preserved c =
    let l = c.loop-reader in
    let line = rw c.in_ok-line.ensures.ok_part at (line-read (goal.at.loop-reader-preserved c).After-next_line) in
    record {
      same_text = ap (λ b. b.now) c.next_line.ensures.1.0 ∙ l.invariant.same_text;
      read =
          more l.invariant.read c.next_line.new.words c.in_ok-line.line c.next_line.new.self.at line c.next_line.auto.words
          (omega (arith, c.requires, l.auto.heads, l.invariant.read.far))
          (omega (arith, c.requires, l.auto.words, l.invariant.read.far));
    }

pub returns : goal.returns
returns c = done c.loop-reader.invariant.read c.loop-reader-test.false
