-- `moves::fall` meets its contract: the raised counts, v's own count at i and its rank are those of the state with v at rank i. Assumes
-- nothing.
use mathlib.Core.Path.{◌≡◌, ap, ap₂, ◌∙◌}
use mathlib.Core.List.{List}
use Prim.Native.Nat.{ℕ, ◌<◌}
use native.Mathlib.Omega.{arith}
use Rattle.model.specs.Shape.{low}
use Rattle.model.specs.State.{phi}
use Rattle.model.specs.Bytes.{image, fields_of, read}
use Rattle.layout.specs.Setters.{set_phi, set_rank}
use Rattle.moves.specs.Proper.{ranked}
use Rattle.moves.specs.Counts.{with_counts}
use Rattle.moves.proofs.Held.{held-room, held_small}
use Rattle.moves.proofs.RankSteps.{rank-listed, fall-counts, fall-bytes, fall-fits, fall-says}
use Rattle.moves.proofs.fall.Goals.{After-set_phi, Start}
use Rattle.moves.proofs.fall.Goals as goal

-- the figure fits a byte
fits : (c : Start) → c.args.k < 256
fits c =
    let a = c.args in
    omega (
      arith,
      c.requires.row_below.1,
      fall-fits
          (read low a.rack.now) c.requires.held.proper a.i a.v c.requires.v_bound.0 c.requires.v_bound.2 c.requires.row_below.0 c.requires.v_bound.1,
    )

pub overflow_cast-k : goal.overflow_cast-k
overflow_cast-k c = omega (arith, fits (goal.at.overflow_cast-k c).Start)

-- the counts before the new rank is set
recounted : (c : After-set_phi) →
    let a = c.args in
    c.set_phi.new.rack ≡ image (with_counts (fields_of (read low a.rack.now)) (phi (ranked a.v a.i (read low a.rack.now))))
recounted c =
    let a = c.args in
    c.set_phi.ensures ∙ ap₂ (λ (bs : List ℕ) (x : ℕ). set_phi low bs a.v a.i x) c.raise_counts-low.ensures.rack_after c.requires.row_below.1
    ∙ fall-counts (read low a.rack.now) c.requires.held.proper a.i a.v c.requires.v_bound.0 c.requires.v_bound.2 c.requires.row_below.0 c.requires.v_bound.1

pub set_rank-requires : goal.set_rank-requires
set_rank-requires c = record {
  v_lt_most = (
    held_small c.requires.held _ c.requires.v_bound.0,
    rank-listed (read low c.args.rack.now) c.requires.held.proper _ c.args.v c.requires.v_bound.0 c.set_phi.new.rack
        (recounted (goal.at.set_rank-requires c).After-set_phi),
    omega (arith, held-room c.requires.held, c.requires.v_bound.2),
  );
}

pub returns : goal.returns
returns c = let a = c.args in
    let s = read low a.rack.now in
    let row = c.requires.row_below.0 in
    let last : List ℕ → ℕ → List ℕ = λ bs x. set_rank low (set_phi low bs a.v a.i x) a.v a.i in
    let bytes =
    c.set_rank.ensures ∙ ap (λ (bs : List ℕ). set_rank low bs a.v a.i) c.set_phi.ensures
    ∙ ap₂ last c.raise_counts-low.ensures.rack_after c.requires.row_below.1
    ∙ fall-bytes s c.requires.held.proper a.i a.v c.requires.v_bound.0 c.requires.v_bound.2 row c.requires.v_bound.1 in
    record {
      rack_after = bytes;
      says = fall-says s c.requires.held.proper a.i a.v c.requires.v_bound.0 c.requires.v_bound.2 row c.requires.v_bound.1 _ c.raise_counts-low.ensures.says;
    }
