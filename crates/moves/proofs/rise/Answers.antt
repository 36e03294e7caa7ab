-- `moves::rise` meets its contract: the owners after the first half are those that the second half asks for. Assumes nothing.
use mathlib.Core.Path.{◌≡◌, sym, ap, ◌∙◌, subst}
use Prim.Native.Nat.{suc, ◌≤◌, ◌<◌}
use native.Mathlib.Omega.{arith}
use Rattle.model.specs.Shape.{low}
use Rattle.model.specs.State.{State}
use Rattle.model.specs.Bytes.{top_at, read, write}
use Rattle.model.specs.Change.{reown}
use Rattle.moves.specs.Proper.{took_over, ranked, RowBelow}
use Rattle.moves.proofs.Held.{top-as, reads_as, held_of}
use Rattle.moves.proofs.Keeps.{took-proper, took-row, rise-halves}
use Rattle.moves.proofs.rise.Goals as goal

pub enter-requires : goal.enter-requires
unfolding took_over reown
enter-requires c = let a = c.args in
    let s = read low a.rack.now in
    let t = took_over a.i a.u s in
    let bs = c.take_over.new.rack in
    let q = took-proper s c.requires.held.0.proper a.i a.u c.requires.u_bound.0 in
    let r : t ≡ read low bs = sym (reads_as bs t c.take_over.ensures q) in record {
      held = held_of bs t c.take_over.ensures q;
      u_bound = subst (λ (x : State). (a.u < x.n) × (x.rank a.u ≤ a.i) × (a.i ≤ top_at bs)) r
          (c.requires.u_bound.0, c.requires.u_bound.1, omega (arith, c.requires.u_bound.2, top-as bs t c.take_over.ensures q));
      row_below = subst (λ (x : State). RowBelow a.i a.u x) r (took-row s c.requires.held.0.proper a.i a.u c.requires.by_index);
    }

pub returns : goal.returns
returns c = let a = c.args in
    let s = read low a.rack.now in
    let t = took_over a.i a.u s in
    let q = took-proper s c.requires.held.0.proper a.i a.u c.requires.u_bound.0 in
    let r : read low c.take_over.new.rack ≡ t = reads_as _ t c.take_over.ensures q in
    c.enter.ensures ∙ ap (λ (x : State). write (ranked a.u (suc a.i) x)) r
    ∙ ap write (rise-halves s c.requires.held.0.proper a.i a.u)
