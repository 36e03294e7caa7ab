-- `layout::rosters::enroll` meets its contract: word by word the vertices enter. Assumes nothing.
use mathlib.Core.Path.{ap₂, ◌∙◌}
use mathlib.Core.List.{List}
use Prim.Native.Nat.{ℕ, ◌+◌, ◌*◌}
use native.Mathlib.Omega.{arith}
use Rattle.model.specs.Shape.{low}
use Rattle.model.proofs.Shapes.{low-good}
use Rattle.bitset.specs.Words.{stored}
use Rattle.layout.proofs.Cleared.{enrolled-word, enrolled-all}
use Rattle.layout.proofs.rosters.enroll.Goals as goal

pub loop-k-preserved : goal.loop-k-preserved
loop-k-preserved c = let k = c.loop-k.k in
    let x = c.below in
    c.set_word.ensures
    ∙ ap₂ (λ (bs : List ℕ) (at : ℕ). stored bs (at + 8 * k) x.result) c.loop-k.invariant (omega (arith, c.roster_at-at.ensures.at))
    ∙ enrolled-word low low-good c.args.n k x.result (omega (arith, c.loop-k-test.true)) x.ensures

pub returns : goal.returns
returns c = let l = c.loop-k in
    l.invariant ∙ enrolled-all low low-good c.args.n (64 * l.k) (omega (arith, c.loop-k-test.false))
