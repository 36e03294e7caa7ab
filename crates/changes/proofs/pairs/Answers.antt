-- `changes::pairs` meets its contract. Assumes nothing.
use mathlib.Core.Path.{◌≡◌, ap, ◌∙◌}
use mathlib.Core.List.{List}
use Prim.Native.Nat.{ℕ, ◌+◌, ◌*◌}
use native.Mathlib.Omega.{arith}
use Rattle.model.specs.Counting.{count}
use Rattle.model.specs.Shape.{low}
use Rattle.model.specs.State.{pairs}
use Rattle.model.specs.Bytes.{rules_at, read, roster_at}
use Rattle.theory.proofs.Matching.{free-pairs}
use Rattle.moves.proofs.Held.{held-size, held-few, held-rostered}
use Rattle.changes.proofs.Wholes.{sounded-held}
use Rattle.changes.proofs.pairs.Goals.{After-size-2}
use Rattle.changes.proofs.pairs.Goals as goal

-- the roster that is counted is that of rank 0
idle : (bs : List ℕ) {r k : ℕ} → k ≡ count (roster_at low bs r) low.most → r ≡ 0 → k ≡ count (roster_at low bs 0) low.most
idle bs counted e = counted ∙ ap (λ (i : ℕ). count (roster_at low bs i) low.most) e

-- the vertices that are not in it
mated : (c : After-size-2) →
    let bs = c.args.rack.now in
    (c.size.result ≡ c.size-2.result + 2 * pairs (read low bs)) × (c.size.result ≡ (read low bs).n)
mated c =
    let bs : List ℕ = c.args.rack.now in
    let ok = c.requires in
    let held = sounded-held bs ok in
    let n : c.size.result ≡ (read low bs).n = c.size.ensures ∙ held-size held in (
      omega (arith, n, idle bs c.size-2.ensures (omega arith) ∙ held-rostered held 0 (omega arith), free-pairs (rules_at bs) (read low bs) ok.valid),
      n,
    )

pub overflow_sub-result : goal.overflow_sub-result
overflow_sub-result c = omega (arith, (mated c).0)

pub overflow_cast-result : goal.overflow_cast-result
overflow_cast-result c = let held = sounded-held c.args.rack.now c.requires in
    omega (arith, (mated c).1, held-few held)

pub returns : goal.returns
returns c = omega (arith, (mated c).0)
