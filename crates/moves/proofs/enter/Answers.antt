-- `moves::enter` meets its contract: the lowered counts, u's own counts and its rank are those of the state with u at rank i + 1. Assumes
-- nothing.
use mathlib.Core.Path.{◌≡◌, ap, ◌∙◌}
use mathlib.Core.List.{List}
use Prim.Native.Nat.{ℕ, suc, ◌+◌, ◌<◌}
use native.Mathlib.Omega.{arith}
use Rattle.model.specs.Shape.{low}
use Rattle.model.specs.State.{phi}
use Rattle.model.specs.Bytes.{image, fields_of, read}
use Rattle.layout.specs.Setters.{set_rank}
use Rattle.moves.specs.Proper.{ranked}
use Rattle.moves.specs.Counts.{with_counts, recounted, none}
use Rattle.moves.proofs.Held.{held-room, held_small}
use Rattle.moves.proofs.RankSteps.{rank-listed, enter-counts, enter-bytes}
use Rattle.moves.proofs.enter.Goals.{After-zero_counts, Start}
use Rattle.moves.proofs.enter.Goals as goal

-- the level is one of the shape's
level : (s : Start) → s.args.i < low.levels
level s = omega (arith, held-room s.requires.held, s.requires.u_bound.2)

-- the counts before the new rank is set
counted : (c : After-zero_counts) →
    let a = c.args in
    c.zero_counts.new.rack ≡ image (with_counts (fields_of (read low a.rack.now)) (phi (ranked a.u (suc a.i) (read low a.rack.now))))
counted c =
    let a = c.args in
    c.zero_counts.ensures ∙ ap (λ (bs : List ℕ). recounted low none bs a.u 0 (a.i + 1)) c.lower_counts.ensures
    ∙ enter-counts (read low a.rack.now) c.requires.held.proper a.i a.u c.requires.u_bound.0 c.requires.u_bound.2 c.requires.row_below c.requires.u_bound.1

pub set_rank-requires : goal.set_rank-requires
set_rank-requires c = record {
  v_lt_most = (
    held_small c.requires.held _ c.requires.u_bound.0,
    rank-listed (read low c.args.rack.now) c.requires.held.proper _ c.args.u c.requires.u_bound.0 c.zero_counts.new.rack
        (counted (goal.at.set_rank-requires c).After-zero_counts),
    omega (arith, level (goal.at.set_rank-requires c).Start),
  );
}

pub returns : goal.returns
returns c = let a = c.args in
    let last : List ℕ → List ℕ = λ bs. set_rank low bs a.u (a.i + 1) in
    c.set_rank.ensures
    ∙ ap last (c.zero_counts.ensures ∙ ap (λ (bs : List ℕ). recounted low none bs a.u 0 (a.i + 1)) c.lower_counts.ensures)
    ∙ enter-bytes (read low a.rack.now) c.requires.held.proper a.i a.u c.requires.u_bound.0 c.requires.u_bound.2 c.requires.row_below c.requires.u_bound.1
