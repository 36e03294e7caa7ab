-- `changes::drop` meets its contract. Assumes nothing.
use mathlib.Core.Path.{◌≡◌, sym, subst}
use mathlib.Core.List.{List}
use Prim.Native.Nat.{ℕ, ◌≤◌}
use native.Mathlib.Omega.{arith}
use lib.ListN.{length}
use Rattle.std.proofs.Common.{rules}
use Rattle.model.specs.Shape.{low}
use Rattle.model.specs.Bytes.{rules_at, read}
use Rattle.moves.proofs.Held.{held_small}
use Rattle.changes.specs.Sounded.{Sounded}
use Rattle.changes.specs.Working.{Joins, part_run}
use Rattle.changes.proofs.Wholes.{sounded-held, Dropped, dropped-loose, mate-joins, mate-loose, pair-rank, pair-enough, pair-tried}
use Rattle.changes.proofs.Trials.{enough-yes, ended-at, tried-of, tried-made}
use Rattle.changes.proofs.drop.Goals.{After-rank, Else-ne}
use Rattle.changes.proofs.drop.Goals as goal

pub mate-requires : goal.mate-requires
mate-requires c = let h = sounded-held c.args.rack.now c.requires.sounded in
    record { v_lt_most = held_small h c.args.a c.requires.a_bound.0 }

pub overflow_cast-b : goal.overflow_cast-b
overflow_cast-b c = let h = sounded-held c.args.rack.now c.requires.sounded in omega (arith, held_small h c.args.b c.requires.a_bound.1)

pub drop_edge-requires : goal.drop_edge-requires
drop_edge-requires c = record { held = sounded-held c.args.rack.now c.requires.sounded; a_bound = c.requires.a_bound }

-- a loose edge
pub returns-then-ne : goal.returns-then-ne
returns-then-ne c = let x : Dropped low c.args.rack.now c.args.a c.args.b c.drop_edge.new.rack =
    record { from = c.requires.sounded; ends = c.requires.a_bound; rack = c.drop_edge.ensures } in
    dropped-loose x c.args.words.now (mate-loose c.requires.sounded c.requires.a_bound _ _ (search rules) c.mate.ensures (sym c.if-ne.ensures)) c.new.ensures

-- the edge joins mates
mates : (c : Else-ne) → let a = c.args in Joins (read low a.rack.now) a.a a.b
mates c = mate-joins c.requires.sounded c.requires.a_bound _ _ (search rules) c.mate.ensures (sym c.if-ne.ensures)

pub rank-requires : goal.rank-requires
rank-requires c = let h = sounded-held c.args.rack.now c.requires.sounded in
    record { v_lt_most = held_small h c.args.a c.requires.a_bound.0 }

-- the level of the pair
ranked : (c : After-rank) → let a = c.args in ((read low a.rack.now).rank a.a ≡ c.rank.result) × (1 ≤ c.rank.result)
ranked c =
    pair-rank c.requires.sounded c.requires.a_bound c.rank.ensures (mates (goal.at.After-rank c).Else-ne)

pub overflow_sub-i : goal.overflow_sub-i
overflow_sub-i c = omega (arith, (ranked c).1)

pub enough-requires : goal.enough-requires
enough-requires c = sounded-held c.args.rack.now c.requires.sounded

pub part-requires : goal.part-requires
part-requires c = record { sounded = c.requires.sounded; joins = mates (goal.at.part-requires c).Else-ne }

pub returns-then-enough : goal.returns-then-enough
returns-then-enough c = let j = mates (goal.at.returns-then-enough c).Else-ne in
    let words = c.args.words.now in
    let e = c.part.ensures in
    let k = ranked (goal.at.returns-then-enough c).After-rank in
    let yes = enough-yes (read low c.args.rack.now) _ 2 words (omega arith) c.if-enough.true c.enough.ensures in
    let few : c.part.result.draws ≤ length words =
    omega (arith, e.draws, pair-enough c.requires.sounded c.requires.a_bound words j (omega (arith, k.0, k.1)) yes) in
    pair-tried c.requires.sounded c.requires.a_bound words j (tried-made e few)

pub try_out-requires : goal.try_out-requires
try_out-requires c =
    λ p e. subst (λ (bs : List ℕ). Sounded low bs × Joins (read low bs) c.args.a c.args.b) (sym e)
    (c.requires.sounded, mates (goal.at.try_out-requires c).Else-ne)

pub returns : goal.returns
returns c = let a = c.args in
    let x = c.try_out.ensures in
    let run = λ (bs : List ℕ). part_run (rules_at bs) a.words.now a.a a.b (read low bs) in
    pair-tried c.requires.sounded c.requires.a_bound a.words.now (mates (goal.at.returns c).Else-ne) (tried-of x (ended-at run x.ended x.ended.met))
