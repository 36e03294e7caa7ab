-- `audit::edges` meets its contract: what the tally holds after all rows is what the counts are held to. Assumes nothing.
use mathlib.Core.Path.{◌≡◌, refl, sym, subst}
use Prim.Native.Nat.{ℕ, suc, ◌<◌}
use native.Mathlib.Omega.{arith}
use Rattle.model.specs.Counting.{sum}
use Rattle.model.specs.Shape.{low}
use Rattle.model.proofs.Tests.{true-T}
use Rattle.layout.proofs.Said.{said, says-by}
use Rattle.audit.specs.Tally.{tallied, up_to, Holds}
use Rattle.audit.specs.Parts.{Settings, Count}
use Rattle.audit.proofs.Phi.{up_to-holds, sums-fit, zeros-hold}
use Rattle.audit.proofs.edges.Goals.{Else-not-all, Else-not-settings}
use Rattle.audit.proofs.edges.Goals as goal

pub all-requires-clause-holds : goal.all-requires-clause-holds
all-requires-clause-holds c = zeros-hold low c.args.rack.now _ refl

-- the tally after all rows
held : (c : Else-not-all) →
    Holds low c.all.new.tally (tallied low c.args.rack.now c.args.n)
held c = c.all.ensures.holds_2 (true-T {b = c.all.result} c.if-not-all.false)

settled : (c : Else-not-settings) → Settings low c.args.rack.now
settled c = said c.settings.ensures c.if-not-settings.false

pub counts-requires-clause-by_index : goal.counts-requires-clause-by_index
counts-requires-clause-by_index c = let few = c.requires.n_le_most in
    let sums = sums-fit low (omega arith) c.args.rack.now _ c.args.n few (held (goal.at.counts-requires-clause-by_index c).Else-not-all) in
    λ v h. sums v (omega (arith, few))

pub returns : goal.returns
returns c = let bs = c.args.rack.now in
    let t = c.all.new.tally in
    let f = tallied low bs c.args.n in
    let sums : (v : ℕ) → v < c.args.n → (j : ℕ) → j < low.levels → up_to low t v (suc j) ≡ sum (f v) (suc j) =
    λ v h j k. up_to-holds low t f v (suc j) (held (goal.at.returns c).Else-not-all) (omega (arith, c.requires.n_le_most)) k in
    says-by
    (λ g. record {
      rows = said c.all.ensures.says c.if-not-all.false;
      settings = settled (goal.at.returns c).Else-not-settings;
      counts = λ v h j k. subst (Count low bs v j) (sums v h j k) (g v h j k);
    })
    (λ g v h j k. subst (Count low bs v j) (sym (sums v h j k)) (g.counts v h j k))
    c.counts.ensures
