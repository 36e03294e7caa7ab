-- `text::put_literal` meets its contract. `copy_from_slice` did the work; this says it with `Put`.
-- Assumes nothing.
use Rattle.std.proofs.Common.{ℕ, List, ◌++◌, length, drop, refl, sym, ap, ◌∙◌, zero-add}
use Rattle.model.specs.Text.{over}
use Rattle.text.proofs.put_literal.Goals as goal

pub returns : goal.returns
unfolding over
returns c =
    let a = c.args in
    let p = a.p.now in
    record {
      count = refl;
      wrote =
          ap (λ (l : List ℕ). l ++ drop (length p) a.out.now) c.copy_from_slice.ensures.after
          ∙ ap (λ (n : ℕ). p ++ drop n a.out.now) (sym (zero-add (length p)));
    }
