-- `layout::unused::unused_from` meets its contract: the entries from n on are one stretch of the bytes for each field, and a stretch is asked where
-- those before it are unused. Assumes nothing.
use mathlib.Core.Path.{◌≡◌, refl}
use mathlib.Core.Bool.{Bool}
use mathlib.Core.List.{List}
use Prim.Native.Nat.{ℕ, ◌+◌, ◌*◌, ◌≤◌, ◌<◌}
use native.Mathlib.Omega.{arith}
use lib.Dec.{T}
use Rattle.model.specs.Shape.{low, phis_from}
use Rattle.model.specs.Bytes.{no_mate, rank_at, mate_at, phi_at, owns_at}
use Rattle.model.proofs.Shapes.{low-good}
use Rattle.model.proofs.Facts.{Says, Unused}
use Rattle.layout.proofs.Said.{says-both, says-neither, says-by}
use Rattle.layout.proofs.Spans.{span-ranks, span-mates, span_counts, span-rows}
use Rattle.layout.proofs.unused.unused_from.Goals.{Start, Joined-all_are, Joined-all_are-2, then-all_are, else-all_are, then-all_are-2, else-all_are-2}
use Rattle.layout.proofs.unused.unused_from.Goals as goal

-- what is said of each vertex from n on
abbrev Each : Start → (List ℕ → ℕ → Type 0) → Type 0
Each s P = (v : ℕ) → v < low.most → s.args.n ≤ v → P s.args.rack.now v

abbrev Ranks : Start → Type 0
Ranks s = Each s (λ bs v. rank_at bs v ≡ 0)

abbrev Mates : Start → Type 0
Mates s = Each s (λ bs v. mate_at low bs v ≡ no_mate)

abbrev Counts : Start → Type 0
Counts s = Each s (λ bs v. (j : ℕ) → j < low.levels → phi_at low bs v j ≡ 0)

abbrev Rows : Start → Type 0
Rows s = Each s (λ bs v. (w : ℕ) → w < low.most → T (owns_at low bs v w) → ⊥)

ranks_mates : (c : Joined-all_are) → let s = (goal.at.Joined-all_are c).Start in Says c.if-all_are.value (Ranks s × Mates s)
ranks_mates c =
    let a = c.args in
    let ranks = span-ranks low-good a.rack.now c.told-rack a.n c.requires.n_le_most c.all_are.ensures in
    elim c.if-all_are.branch [
      | then-all_are w ↦ says-both ranks w.if-all_are.true
          (span-mates low-good a.rack.now c.told-rack a.n c.requires.n_le_most c.fits-rack w.all_are-then-all_are.ensures) w.value-is
      | else-all_are w ↦ says-neither ranks w.if-all_are.false w.value-is
    ]

no_rows : (c : Joined-all_are-2) → let s = (goal.at.Joined-all_are-2 c).Start in Says c.if-all_are-2.value ((Ranks s × Mates s) × Counts s)
no_rows c =
    let a = c.args in
    let before = ranks_mates (goal.at.Joined-all_are-2 c).Joined-all_are in
    elim c.if-all_are-2.branch [
      | then-all_are-2 w ↦ says-both before w.if-all_are-2.true
          (span_counts low-good a.rack.now c.told-rack a.n c.requires.n_le_most c.fits-rack
          (phis_from low + low.levels * a.n) (omega arith) w.all_are-then-all_are-2.ensures) w.value-is
      | else-all_are-2 w ↦ says-neither before w.if-all_are-2.false w.value-is
    ]

-- the four of them, as one fact of each vertex
entries : (s : Start) {b : Bool} → Says b (((Ranks s × Mates s) × Counts s) × Rows s) → Says b (Each s (Unused low))
entries s =
    says-by (λ f v h l. record { rank = f.0.0.0 v h l; mate = f.0.0.1 v h l; phi = f.0.1 v h l; owns = f.1 v h l })
    (λ u. (((λ v h l. (u v h l).rank, λ v h l. (u v h l).mate), λ v h l. (u v h l).phi), λ v h l. (u v h l).owns))

pub returns-then-all_are-3 : goal.returns-then-all_are-3
returns-then-all_are-3 c = let a = c.args in
    let rows = span-rows low-good a.rack.now c.told-rack c.fits-rack a.n c.requires.n_le_most c.all_are-then-all_are-3.ensures in
    entries (goal.at.returns-then-all_are-3 c).Start (says-both (no_rows (goal.at.returns-then-all_are-3 c).Joined-all_are-2) c.if-all_are-3.true rows refl)

pub returns-else-all_are-3 : goal.returns-else-all_are-3
returns-else-all_are-3 c = entries (goal.at.returns-else-all_are-3 c).Start
    (says-neither (no_rows (goal.at.returns-else-all_are-3 c).Joined-all_are-2) c.if-all_are-3.false refl)
