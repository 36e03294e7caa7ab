-- `audit::rosters::right_word` meets its contract. Assumes nothing.
use mathlib.Core.Path.{◌≡◌}
use Prim.Native.Nat.{ℕ, suc, ◌+◌, ◌*◌, ◌<◌}
use native.Mathlib.Omega.{arith}
use lib.Dec.{ltb}
use Rattle.model.specs.Shape.{low}
use Rattle.bitset.proofs.Sets.{same-places, places_same}
use Rattle.layout.proofs.Said.{says-yes, says-no, says-by}
use Rattle.audit.specs.Parts.{listed_in}
use Rattle.audit.proofs.Enrolled.{ranked-none}
use Rattle.audit.proofs.rosters.right_word.Goals.{Else-x-below}
use Rattle.audit.proofs.rosters.right_word.Goals as goal

pub returns-then-x-below : goal.returns-then-x-below
returns-then-x-below c = says-no (λ g. omega (arith, c.if-x-below.true, places_same c.listed-x.ensures c.below.ensures g.together))

-- those listed in the word are the vertices below n in it
together : (c : Else-x-below) →
    let a = c.args in
    (j : ℕ) → j < 64 → listed_in low a.rack.now (suc low.levels) (64 * a.k + j) ≡ ltb (64 * a.k + j) a.n
together c = same-places c.listed-x.ensures c.below.ensures (omega (arith, c.if-x-below.false))

pub returns-then-x-eq0 : goal.returns-then-x-eq0
returns-then-x-eq0 c = says-yes record {
  ranked = ranked-none low c.args.rack.now c.args.k c.listed-x.ensures (omega (arith, c.if-x-eq0.true));
  together = together (goal.at.returns-then-x-eq0 c).Else-x-below;
}

pub returns : goal.returns
returns c = says-by (λ g. record { ranked = g; together = together (goal.at.returns c).Else-x-below }) (λ g. g.ranked) c.ranked_words.ensures
