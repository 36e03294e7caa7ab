-- `bitset::set_word` meets its contract. The loop's invariant: the first j bytes of the word are written. Assumes nothing.
use mathlib.Core.Path.{◌≡◌, refl, sym, ap, ap₂, ◌∙◌}
use mathlib.Core.List.{List}
use Prim.Native.Nat.{ℕ, ◌+◌}
use native.Mathlib.Numerals.{add-one}
use native.Mathlib.Omega.{arith}
use lib.ListN.{set, get_or}
use Rattle.bitset.specs.Words.{stored_bytes, stored}
use Rattle.bitset.proofs.Words.{byte-of_word}
use Rattle.bitset.proofs.set_word.Goals as goal

pub loop-j-init : goal.loop-j-init
unfolding stored_bytes
loop-j-init c = refl

pub loop-j-preserved : goal.loop-j-preserved
unfolding stored_bytes
loop-j-preserved c = let j = c.loop-j.j in
    let a = c.args in
    let byte = ap (λ (s : List ℕ). get_or s j 0) c.to_le_bytes.ensures ∙ byte-of_word a.x j (omega arith) in
    ap₂ (λ (t : List ℕ) (b : ℕ). set t (a.i + j) b) c.loop-j.invariant byte ∙ ap (stored_bytes a.row.now a.i a.x) (sym (add-one j))

pub returns : goal.returns
unfolding stored
returns c = let e : c.loop-j.j ≡ 8 = omega arith in
    c.loop-j.invariant ∙ ap (stored_bytes c.args.row.now c.args.i c.args.x) e
