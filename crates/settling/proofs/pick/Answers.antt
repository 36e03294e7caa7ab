-- `settling::pick` meets its contract. Assumes nothing.
use mathlib.Core.Path.{◌≡◌, sym, ◌∙◌}
use Prim.Native.Nat.{suc, ◌≤◌, ◌<◌}
use native.Mathlib.Omega.{arith}
use lib.ListN.{get_or}
use Rattle.model.specs.Shape.{low}
use Rattle.model.specs.Bytes.{top_at, read}
use Rattle.model.proofs.Lists.{All-at, get_d-mem}
use Rattle.moves.proofs.Held.{proper-ranks, held_small, held-rank}
use Rattle.settling.proofs.Picking.{best-same, best-more, best-nothing, best-found}
use Rattle.settling.proofs.pick.Goals.{After-rank-r, Else-best-eq0, In-loop-v, else-best-r, then-best-r}
use Rattle.settling.proofs.pick.Goals as goal

-- the vertex that is looked at is one of the rack's
small : (c : In-loop-v) → get_or c.args.waiting.now c.loop-v.v-index 0 < low.most
small c =
    let l = c.args.waiting.now in
    held_small c.requires.held _ (All-at (λ v. v < (read low c.args.rack.now).n) l c.requires.inside _ (get_d-mem l c.loop-v.v-index c.loop-v-test.true))

-- the rank that was read is its rank
ranked : (c : After-rank-r) → c.rank-r.result ≡ (read low c.args.rack.now).rank (get_or c.args.waiting.now c.loop-v.v-index 0)
ranked c = c.rank-r.ensures ∙ held-rank c.requires.held _ (small (goal.at.After-rank-r c).In-loop-v)

pub loop-v-preserved : goal.loop-v-preserved
loop-v-preserved c =
    let f = (read low c.args.rack.now).rank in
    let e = ranked (goal.at.loop-v-preserved c).After-rank-r in
    elim c.if-best-r.branch [
      | then-best-r w ↦ rw (w.best-is ∙ e, w.vertex-is) (best-more f c.args.waiting.now c.loop-v.invariant (omega (arith, e, w.if-best-r.true)))
      | else-best-r w ↦ rw (w.best-is, w.vertex-is) (best-same f c.args.waiting.now c.loop-v.invariant (omega (arith, e, w.if-best-r.false)))
    ]

pub returns-then-best-eq0 : goal.returns-then-best-eq0
returns-then-best-eq0 c =
    sym (best-nothing c.loop-v.invariant (omega arith) (suc (top_at c.args.rack.now)) c.if-best-eq0.true)

pub returns : goal.returns
returns c =
    let some : 1 ≤ c.loop-v.best = omega (arith, c.if-best-eq0.false) in
    sym (best-found c.loop-v.invariant (omega arith) (suc (top_at c.args.rack.now)) some
    (omega (arith, (c.loop-v.invariant.is some).ranked, proper-ranks c.requires.held.proper c.loop-v.vertex)))
