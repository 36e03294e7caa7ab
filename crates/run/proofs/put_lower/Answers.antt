-- `run::put_lower` meets its contract. Assumes nothing.
use mathlib.Core.Path.{refl, sym, ◌∙◌}
use mathlib.Core.Logic.{◌≢◌}
use Prim.Native.Nat.{◌<◌}
use native.Mathlib.Omega.{arith}
use Rattle.model.specs.Shape.{low}
use Rattle.model.specs.Bytes.{mate_at}
use Rattle.text.proofs.Over.{put_as, put-none}
use Rattle.moves.proofs.Held.{held_small}
use Rattle.changes.proofs.Wholes.{sounded-held}
use Rattle.run.proofs.Pairs.{part_free, part-upper, part-rank, put-part}
use Rattle.run.proofs.put_lower.Goals.{Else-m-v, Start}
use Rattle.run.proofs.put_lower.Goals as goal

-- v is in the rack
small : (d : Start) → d.args.v < low.most
small d = held_small (sounded-held _ d.requires.sounded) _ d.requires.v_bound.0

-- v is the lower vertex of a pair
mated : (c : Else-m-v) → mate_at low c.args.rack.now c.args.v ≢ 65535
mated c z = c.in-Some.ensures.1 (c.in-Some.ensures.0 ∙ z)

lower : (c : Else-m-v) → let a = c.args in a.v < mate_at low a.rack.now a.v
lower c = omega (arith, c.in-Some.ensures.0, c.if-m-v.false)

pub mate-requires : goal.mate-requires
mate-requires c = record { v_lt_most = small (goal.at.mate-requires c).Start }

pub returns-in_default : goal.returns-in_default
returns-in_default c = put_as _ _ (sym (part_free c.requires.sounded c.requires.v_bound.0 c.in_default.ensures)) (put-none _)

pub returns-then-m-v : goal.returns-then-m-v
returns-then-m-v c = put_as _ _ (sym (part-upper c.requires.sounded c.requires.v_bound.0 (omega (arith, c.in-Some.ensures.0, c.if-m-v.true))))
    (put-none _)

pub rank-level-requires : goal.rank-level-requires
rank-level-requires c = record { v_lt_most = small (goal.at.rank-level-requires c).Start }

pub overflow_sub-level : goal.overflow_sub-level
overflow_sub-level c = omega (
  arith,
  c.rank-level.ensures,
  part-rank c.requires.sounded c.requires.v_bound.0
      (mated (goal.at.overflow_sub-level c).Else-m-v) (lower (goal.at.overflow_sub-level c).Else-m-v),
)

pub returns : goal.returns
returns c = put-part c.requires.sounded c.requires.v_bound.0 (mated (goal.at.returns c).Else-m-v)
    (lower (goal.at.returns c).Else-m-v) refl (c.from.ensures ∙ c.in-Some.ensures.0)
    (omega (arith, c.from-2.ensures, c.rank-level.ensures)) c.put_pair.ensures
