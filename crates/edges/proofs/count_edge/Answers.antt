-- `edges::count_edge` meets its contract: one end's counts, then the other's, then the number of edges. Assumes nothing.
use mathlib.Core.Path.{◌≡◌, sym, ap, ◌∙◌, subst}
use mathlib.Core.Bool.{Bool}
use mathlib.Core.List.{List}
use Prim.Native.Nat.{ℕ, suc, ◌-◌}
use native.Mathlib.Omega.{arith}
use Rattle.model.specs.Shape.{low}
use Rattle.model.specs.Bytes.{edges_at, top_at, phi_at}
use Rattle.layout.specs.Setters.{set_edges}
use Rattle.moves.specs.Counts.{step, CanStep, largest_count, largest_edges, recounted}
use Rattle.edges.specs.Steps.{recounted_from, ends_counted, edge_counted}
use Rattle.edges.proofs.count_edge.Goals.{After-step_counts, After-step_counts-2}
use Rattle.edges.proofs.count_edge.Goals as goal

-- as many levels as there are from j up to the top
up_to : (more : Bool) (top : ℕ) (bs : List ℕ) (w j : ℕ) {k : ℕ} {now : List ℕ} → now ≡ recounted low (step more) bs w j k → k ≡ suc top - j
    → now ≡ recounted_from low more top bs w j
up_to more top bs w j e l = e ∙ ap (recounted low (step more) bs w j) l

-- what each step leaves
first-now : (c : After-step_counts)
    → let a = c.args in c.step_counts.new.rack ≡ recounted_from low a.more (top_at a.rack.now) a.rack.now a.a a.j
first-now c =
    let a = c.args in
    up_to a.more (top_at a.rack.now) a.rack.now a.a a.j c.step_counts.ensures (omega (arith, c.top.ensures))

second-now : (c : After-step_counts-2)
    → let a = c.args in c.step_counts-2.new.rack ≡ ends_counted low a.more a.rack.now a.a a.b a.j
second-now c =
    let a = c.args in
    up_to a.more (top_at a.rack.now) c.step_counts.new.rack a.b a.j c.step_counts-2.ensures
    (omega (arith, c.top.ensures))
    ∙ ap (λ (bs : List ℕ). recounted_from low a.more (top_at a.rack.now) bs a.b a.j) (first-now (goal.at.After-step_counts-2 c).After-step_counts)

pub overflow_add-k : goal.overflow_add-k
overflow_add-k c = omega (arith, c.top.ensures, c.requires.countable.room)

pub overflow_sub-k : goal.overflow_sub-k
overflow_sub-k c = omega (arith, c.top.ensures, c.requires.countable.level)

pub step_counts-requires : goal.step_counts-requires
step_counts-requires c = let k = c.top.ensures in
    record {
      w_lt_most = (c.requires.countable.a_in, omega (arith, c.requires.countable.level, c.requires.countable.room));
      by_index = λ x l h. c.requires.countable.of-a x l (omega (arith, c.requires.countable.level));
    }

pub step_counts-requires-2 : goal.step_counts-requires-2
step_counts-requires-2 c = let a = c.args in
    let k = c.top.ensures in record {
      w_lt_most = (c.requires.countable.b-in, omega (arith, c.requires.countable.level, c.requires.countable.room));
      by_index = λ x l h. subst (λ (bs : List ℕ). CanStep a.more (largest_count low) (phi_at low bs a.b x))
          (sym (first-now (goal.at.step_counts-requires-2 c).After-step_counts))
          (c.requires.countable.of-b x l (omega (arith, c.requires.countable.level)));
    }

pub stepped-next-requires : goal.stepped-next-requires
stepped-next-requires c = subst (CanStep c.args.more (largest_edges low))
    (sym (c.edges-m.ensures ∙ ap (edges_at low) (second-now (goal.at.stepped-next-requires c).After-step_counts-2))) c.requires.countable.of-edges

pub returns : goal.returns
unfolding edge_counted
returns c = let more = c.args.more in
    c.set_edges.ensures
    ∙ ap (set_edges low c.step_counts-2.new.rack) (c.stepped-next.ensures ∙ ap (step more) c.edges-m.ensures)
    ∙ ap (λ (bs : List ℕ). set_edges low bs (step more (edges_at low bs))) (second-now (goal.at.returns c).After-step_counts-2)
