-- `lines::words_at` meets its contract. The invariant is `GotWords`: the words read stand there, and any text of words that stands there
-- starts with them. Assumes nothing.
use Prim.Native.Nat.{ℕ, ◌≤◌}
use mathlib.Core.Path.{◌≡◌, refl, subst}
use native.Mathlib.Omega.{arith}
use lib.ListN.{length, take, length-set}
use Rattle.lines.proofs.Words.{GotWords, got-start, got-stored, got-refused, got-end}
use Rattle.lines.proofs.words_at.Goals as goal

pub loop-count-init : goal.loop-count-init
loop-count-init c = (c.requires, got-start c.args.text.now c.args.at)

pub loop-count-preserved : goal.loop-count-preserved
loop-count-preserved c =
    let l = c.loop-count in
    let k = c.in-Ok.ensures in
    (simp length-set l.invariant.0, got-stored l.words l.count c.in-Ok.next l.invariant.1 (omega arith) k.0 k.1.1)

pub returns-in-Err-Space : goal.returns-in-Err-Space
returns-in-Err-Space c =
    let l = c.loop-count in
    let k = rw c.in-Err-Space.field-0-is at c.in-Err-Space.ensures in
    got-end l.words l.count c.line_end_at.result l.invariant.1 (omega arith) (omega arith) (λ e. absurd (k e)) c.line_end_at.ensures

pub returns-in-Err-Number : goal.returns-in-Err-Number
returns-in-Err-Number c =
    let l = c.loop-count in
    let k = rw c.in-Err-Number.field-0-is at c.in-Err-Number.ensures in
    (tt, got-refused l.invariant.1 k.0 k.1)

pub returns : goal.returns
returns c =
    let l = c.loop-count in
    let full : 128 ≤ length l.words = l.invariant.0 in
    let all : l.count ≡ 128 = omega (arith, c.loop-count-test.false) in
    let got = subst (λ (n : ℕ). GotWords c.args.text.now c.args.at (take n l.words) l.i) all l.invariant.1 in
    got-end l.words 128 c.line_end_at-2.result got (omega arith) full (λ e. refl) c.line_end_at-2.ensures
