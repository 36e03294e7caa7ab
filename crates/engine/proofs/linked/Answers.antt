-- `engine::linked` meets its contract. Assumes nothing.
use mathlib.Core.Path.{◌≡◌, sym, ap, ◌∙◌}
use mathlib.Core.Bool.{◌||◌}
use mathlib.Core.List.{List}
use Prim.Native.Nat.{ℕ}
use Rattle.std.proofs.lemmas.Result.{err_from_is_err_and}
use Rattle.model.specs.Shape.{low}
use Rattle.model.specs.Counting.{bit}
use Rattle.model.specs.Bytes.{size_at, owns_at}
use Rattle.model.specs.Calls.{two_number}
use Rattle.changes.proofs.Numbers.{some-number}
use Rattle.engine.specs.Answers.{other_number}
use Rattle.engine.proofs.Numbers.{asked-two, two_back, two-other, linked-back, linked-is, linked-edge}
use Rattle.engine.proofs.linked.Goals.{In_ok-check_other, In_ok-rack}
use Rattle.engine.proofs.linked.Goals as goal

pub returns-in_err-rack : goal.returns-in_err-rack
returns-in_err-rack c = let p = err_from_is_err_and c.from_residual.result c.from_residual.ensures.1 in
    let e = c.in_err-rack.ensures in
    rw (p.1, p.2) (linked-back low _ _ _ (two_back low _ _ _ (λ z. some-number _ (sym e ∙ z)) ∙ e) (some-number _))

-- the number of the second board, once the first has none
numbered : (c : In_ok-rack) →
    let a = c.args in
    other_number (size_at c.in_ok-rack.rack.now) a.v a.w ≡ two_number low a.bytes.now a.v a.w
numbered c =
    let a = c.args in
    let e = c.in_ok-rack.ensures in
    ap (λ (bs : List ℕ). other_number (size_at bs) a.v a.w) e.0 ∙ sym (two-other low a.bytes.now a.v a.w e.1)

pub returns-in_err-check_other : goal.returns-in_err-check_other
returns-in_err-check_other c = let p = err_from_is_err_and c.from_residual-in_err-check_other.result c.from_residual-in_err-check_other.ensures.1 in
    rw (p.1, p.2)
    (linked-back low _ _ _ (sym (c.in_err-check_other.ensures ∙ numbered (goal.at.returns-in_err-check_other c).In_ok-rack)) (some-number _))

-- neither number fits
good : (c : In_ok-check_other) → two_number low c.args.bytes.now c.args.v c.args.w ≡ 0
good c = sym (c.in_ok-check_other.ensures ∙ numbered (goal.at.In_ok-check_other c).In_ok-rack)

pub linked-there-requires : goal.linked-there-requires
linked-there-requires c = let all = asked-two low _ _ _ (good c) in record { v_lt_most = all.1.0; w_lt_most = all.1.1 }

pub returns : goal.returns
returns c = let a = c.args in
    let z = good (goal.at.returns c).In_ok-check_other in
    let there = c.linked-there.ensures
    ∙ ap (λ (bs : List ℕ). owns_at low bs a.v a.w || owns_at low bs a.w a.v) c.in_ok-rack.ensures.0
    ∙ linked-edge low a.bytes.now a.v a.w z in
    (λ i. record { number = 0; value = bit (there i) }) ∙ linked-is low _ _ _ z
