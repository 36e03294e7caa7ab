-- `edges::drop_edge` meets its contract: the bits of both ends, and an edge less. Assumes nothing.
use mathlib.Core.Path.{◌≡◌, sym, ap, ◌∙◌, subst}
use mathlib.Core.Bool.{false}
use mathlib.Core.List.{List}
use Prim.Native.Nat.{ℕ, ◌<◌}
use Rattle.model.specs.Shape.{low}
use Rattle.model.specs.State.{State}
use Rattle.model.specs.Bytes.{kind_at, image, read}
use Rattle.model.proofs.Tests.{true-T}
use Rattle.layout.specs.Setters.{disown as disowned}
use Rattle.edges.specs.Steps.{edge_counted, Countable}
use Rattle.edges.proofs.Changed.{drop_edge}
use Rattle.edges.proofs.Shifted.{Higher, higher-of}
use Rattle.edges.proofs.Stages.{turned}
use Rattle.edges.proofs.EdgeSteps.{step-written}
use Rattle.edges.proofs.Dropping.{Droppable, a_small, b-small, disown-both, drop-step, drop-countable}
use Rattle.edges.proofs.drop_edge.Goals.{After-disown-2, After-max-j, Start}
use Rattle.edges.proofs.drop_edge.Goals as goal

-- the state that comes in, and the state that is to be written
abbrev from : Start → State
from d = read low d.args.rack.now

abbrev to : Start → State
to d = drop_edge d.args.a d.args.b (from d)

droppable : (d : Start) → Droppable (kind_at low d.args.rack.now) d.args.a d.args.b (from d)
droppable d = record {
  proper = d.requires.held.proper;
  apart = d.requires.a_bound.2;
  inside = (d.requires.a_bound.0, d.requires.a_bound.1);
  there = true-T d.requires.a_bound.3;
}

a-low : (d : Start) → d.args.a < low.most
a-low d = a_small d.args.a d.args.b (from d) (droppable d)

b-low : (d : Start) → d.args.b < low.most
b-low d = b-small d.args.a d.args.b (from d) (droppable d)

-- the bits of both ends are clear
turned-now : (c : After-disown-2)
    → c.disown-2.new.rack ≡ image (turned (from (goal.at.After-disown-2 c).Start) (to (goal.at.After-disown-2 c).Start))
turned-now c =
    let a = c.args.a in
    let b = c.args.b in
    c.disown-2.ensures
    ∙ ap (λ (bs : List ℕ). disowned low bs b a) (c.disown.ensures ∙ ap (λ (bs : List ℕ). disowned low bs a b) c.requires.held.written)
    ∙ disown-both a b (from (goal.at.After-disown-2 c).Start) (droppable (goal.at.After-disown-2 c).Start)

higher-is : (c : After-max-j) → Higher c.args.a c.args.b c.max-j.result (from (goal.at.After-max-j c).Start)
higher-is c =
    higher-of c.requires.held c.args.a c.args.b (a-low (goal.at.After-max-j c).Start) (b-low (goal.at.After-max-j c).Start) c.rank.ensures
    c.rank-2.ensures c.max-j.ensures

pub rank-requires : goal.rank-requires
rank-requires c = record { v_lt_most = a-low (goal.at.rank-requires c).Start }

pub rank-requires-2 : goal.rank-requires-2
rank-requires-2 c = record { v_lt_most = b-low (goal.at.rank-requires-2 c).Start }

pub disown-requires : goal.disown-requires
disown-requires c = record {
  v_lt_most = a-low (goal.at.disown-requires c).Start;
  w_lt_most = b-low (goal.at.disown-requires c).Start;
}

pub disown-requires-2 : goal.disown-requires-2
disown-requires-2 c = record {
  v_lt_most = b-low (goal.at.disown-requires-2 c).Start;
  w_lt_most = a-low (goal.at.disown-requires-2 c).Start;
}

pub count_edge-requires : goal.count_edge-requires
count_edge-requires c = let a = c.args.a in
    let b = c.args.b in
    let j = c.max-j.result in record {
      countable = subst (λ (bs : List ℕ). Countable low false bs a b j) (sym (turned-now (goal.at.count_edge-requires c).After-disown-2))
          (drop-countable a b (from (goal.at.count_edge-requires c).Start) (droppable (goal.at.count_edge-requires c).Start) j
          (higher-is (goal.at.count_edge-requires c).After-max-j));
    }

pub returns : goal.returns
returns c = let a = c.args.a in
    let b = c.args.b in
    let j = c.max-j.result in
    c.count_edge.ensures ∙ ap (λ (bs : List ℕ). edge_counted low false bs a b j) (turned-now (goal.at.returns c).After-disown-2)
    ∙ step-written a b j false (from (goal.at.returns c).Start) (to (goal.at.returns c).Start)
    (drop-step a b (from (goal.at.returns c).Start) (droppable (goal.at.returns c).Start) j (higher-is (goal.at.returns c).After-max-j))
