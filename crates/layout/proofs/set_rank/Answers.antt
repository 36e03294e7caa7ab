-- `layout::set_rank` meets its contract: the definition, unfolded, is what the code does where the fields stand. Assumes nothing.
use mathlib.Core.Path.{◌≡◌, ap, ap₂, ◌∙◌}
use mathlib.Core.List.{List}
use Prim.Native.Nat.{ℕ, ◌+◌, ◌*◌}
use native.Mathlib.Omega.{arith}
use lib.ListN.{set}
use Rattle.model.specs.Shape.{low, rosters_from}
use Rattle.model.specs.Bytes.{rank_at}
use Rattle.bitset.specs.Row.{inserted, removed}
use Rattle.layout.specs.Setters.{place_in, set_rank}
use Rattle.layout.proofs.set_rank.Goals.{After-insert}
use Rattle.layout.proofs.set_rank.Goals as goal

-- the rosters' bits, moved
moved : (c : After-insert) →
    let a = c.args in
    let place : ℕ → ℕ = λ r. place_in low (rosters_from low) r a.v in
    c.insert.new.row ≡ inserted (removed a.rack.now (place (rank_at a.rack.now a.v))) (place a.x)
moved c =
    let a = c.args in
    let from = c.roster_at in
    let to = c.roster_at-2 in
    let bits : ℕ → ℕ → List ℕ = λ i j. inserted (removed a.rack.now i) j in
    c.insert.ensures ∙ ap (λ (l : List ℕ). inserted l (8 * to.result + a.v)) c.remove.ensures
    ∙ ap₂ bits (omega (arith, from.ensures.at, c.rank-old.ensures)) (omega (arith, to.ensures.at))

pub returns : goal.returns
unfolding set_rank
returns c = let x = c.args.x in
    ap₂ (λ (l : List ℕ) (k : ℕ). set l k x) (moved (goal.at.returns c).After-insert) (omega (arith, c.rank_at.ensures.at))
