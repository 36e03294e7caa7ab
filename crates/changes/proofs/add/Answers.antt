-- `changes::add` meets its contract. Assumes nothing.
use mathlib.Core.Path.{◌≡◌, sym, ap, ◌∙◌, subst}
use mathlib.Core.List.{List}
use Prim.Native.Nat.{ℕ, suc, ◌≤◌}
use native.Mathlib.Omega.{arith}
use lib.ListN.{length}
use Rattle.model.specs.Shape.{low}
use Rattle.model.specs.Bytes.{rules_at, top_at, read}
use Rattle.model.specs.Moves.{found}
use Rattle.model.specs.Change.{riser}
use Rattle.edges.specs.Steps.{reached_by}
use Rattle.changes.specs.Sounded.{Begun, Liftable}
use Rattle.changes.specs.Working.{Tried, rise_run}
use Rattle.changes.proofs.Wholes.{sounded-held, Added, added-begun, added-inside, added-drops, added_none, added-riser, added-enough, added-made, added-back}
use Rattle.changes.proofs.Trials.{enough-yes, ended-at, tried-of, tried-made}
use Rattle.changes.proofs.add.Goals.{After-add_edge, After-try_out-t, In-Some}
use Rattle.changes.proofs.add.Goals as goal

-- the edge is put in
added : (c : After-add_edge) →
    let a = c.args in
    Added low a.rack.now a.a a.b c.add_edge.new.rack
added c = record { from = c.requires.sounded; ends = c.requires.a_bound; rack = c.add_edge.ensures }

-- what was found is the definition's
reached : (c : In-Some) →
    let a = c.args in
    riser (rules_at c.add_edge.new.rack) a.a a.b (suc (top_at c.add_edge.new.rack)) (read low c.add_edge.new.rack)
    ≡ found c.in-Some.field-0.level c.in-Some.field-0.riser
reached c = sym c.riser.ensures ∙ ap reached_by c.in-Some.is

pub add_edge-requires : goal.add_edge-requires
add_edge-requires c = record { held = sounded-held c.args.rack.now c.requires.sounded; a_bound = c.requires.a_bound }

pub riser-requires : goal.riser-requires
riser-requires c = let x = added (goal.at.riser-requires c).After-add_edge in record { held = (added-begun x).held; a_bound = added-inside x }

pub returns-in_default : goal.returns-in_default
returns-in_default c = added_none (added (goal.at.returns-in_default c).After-add_edge) _
    (sym c.riser.ensures ∙ ap reached_by c.in_default.is) c.new.ensures

pub enough-requires : goal.enough-requires
enough-requires c = (added-begun (added (goal.at.enough-requires c).After-add_edge)).held

pub rise-requires : goal.rise-requires
rise-requires c = let x = added (goal.at.rise-requires c).After-add_edge in
    record { begun = added-begun x; liftable = added-riser x (reached (goal.at.rise-requires c).In-Some) }

-- they are sure to suffice
pub returns-then-enough : goal.returns-then-enough
returns-then-enough c = let words = c.args.words.now in
    let sure = enough-yes (read low c.add_edge.new.rack) _ 1 words (omega arith) c.if-enough.true c.enough.ensures in
    let m = c.rise in
    let few : m.result.draws ≤ length words = omega (
      arith,
      m.ensures.draws,
      added-enough (added (goal.at.returns-then-enough c).After-add_edge)
          (reached (goal.at.returns-then-enough c).In-Some) words sure,
    ) in
    added-made (added (goal.at.returns-then-enough c).After-add_edge) (reached (goal.at.returns-then-enough c).In-Some) words
    (tried-made m.ensures few) few

pub try_out-t-requires : goal.try_out-t-requires
try_out-t-requires c = let x = added (goal.at.try_out-t-requires c).After-add_edge in
    λ p e. subst (λ (bs : List ℕ). Begun low bs × Liftable (top_at bs) (read low bs) c.in-Some.field-0.level c.in-Some.field-0.riser) (sym e)
    (added-begun x, added-riser x (reached (goal.at.try_out-t-requires c).In-Some))

-- what is left of the trial
tried : (c : After-try_out-t) →
    let a = c.args in
    Tried (rise_run (rules_at c.add_edge.new.rack) a.words.now c.in-Some.field-0.level c.in-Some.field-0.riser (read low c.add_edge.new.rack))
    a.words.now c.add_edge.new.rack c.try_out-t.new.rack c.try_out-t.result
tried c =
    let x = c.try_out-t.ensures in
    let r = c.in-Some.field-0 in
    tried-of x (ended-at (λ (bs : List ℕ). rise_run (rules_at bs) c.args.words.now r.level r.riser (read low bs)) x.ended x.ended.met)

pub drop_edge-requires : goal.drop_edge-requires
drop_edge-requires c =
    let out = (tried (goal.at.drop_edge-requires c).After-try_out-t).kept (omega (arith, c.if-words-t.true)) in
    let all = added-drops (added (goal.at.drop_edge-requires c).After-add_edge) out in
    record { held = all.0; a_bound = all.1 }

pub returns-then-words-t : goal.returns-then-words-t
returns-then-words-t c = added-back (added (goal.at.returns-then-words-t c).After-add_edge)
    (reached (goal.at.returns-then-words-t c).In-Some) c.args.words.now (tried (goal.at.returns-then-words-t c).After-try_out-t)
    (omega (arith, c.if-words-t.true)) c.drop_edge.ensures

pub returns-else-words-t : goal.returns-else-words-t
returns-else-words-t c = added-made (added (goal.at.returns-else-words-t c).After-add_edge)
    (reached (goal.at.returns-else-words-t c).In-Some) c.args.words.now (tried (goal.at.returns-else-words-t c).After-try_out-t)
    (omega (arith, c.if-words-t.false))
