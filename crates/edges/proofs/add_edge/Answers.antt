-- `edges::add_edge` meets its contract: the owner's bit, and an edge more. Assumes nothing.
use mathlib.Core.Path.{◌≡◌, sym, ap, ◌∙◌, subst}
use mathlib.Core.Bool.{true}
use mathlib.Core.List.{List}
use Prim.Native.Nat.{ℕ, ◌<◌}
use native.Mathlib.Omega.{arith}
use lib.Dec.{T}
use lib.ListN.{length}
use Rattle.model.specs.Shape.{low}
use Rattle.model.specs.State.{State}
use Rattle.model.specs.Bytes.{kind_at, image, read, write}
use Rattle.model.specs.Change.{add_edge as edge_added}
use Rattle.layout.specs.Setters.{Sized, own as owned}
use Rattle.moves.proofs.Held.{held-rank}
use Rattle.edges.specs.Steps.{edge_counted, Countable}
use Rattle.edges.proofs.Shifted.{Higher, higher-of}
use Rattle.edges.proofs.Stages.{turned, turned-sized}
use Rattle.edges.proofs.EdgeSteps.{step-written}
use Rattle.edges.proofs.Adding.{Addable, a_small, b-small, own-high, own-low, add_step, add-countable}
use Rattle.edges.proofs.add_edge.Goals.{After-max, After-count_edge, Joined-rb-ra, Start, else-rb-ra, then-rb-ra}
use Rattle.edges.proofs.add_edge.Goals as goal

-- the state that comes in, and the state that is to be written
abbrev from : Start → State
from d = read low d.args.rack.now

abbrev to : Start → State
to d = edge_added d.args.a d.args.b (from d)

addable : (d : Start) → Addable (kind_at low d.args.rack.now) d.args.a d.args.b (from d)
addable d = record {
  proper = d.requires.held.proper;
  apart = d.requires.a_bound.2;
  inside = (d.requires.a_bound.0, d.requires.a_bound.1);
  absent = λ h. subst T d.requires.a_bound.3 h;
}

a-low : (d : Start) → d.args.a < low.most
a-low d = a_small d.args.a d.args.b (from d) (addable d)

b-low : (d : Start) → d.args.b < low.most
b-low d = b-small d.args.a d.args.b (from d) (addable d)

-- the owner's bit is set, whichever end owns the edge
turned-now : (c : Joined-rb-ra) → c.if-rb-ra.rack ≡ image (turned (from (goal.at.Joined-rb-ra c).Start) (to (goal.at.Joined-rb-ra c).Start))
turned-now c =
    let h = c.requires.held in
    let a = c.args.a in
    let b = c.args.b in
    let x = c.rank-ra.ensures ∙ held-rank h a (a-low (goal.at.Joined-rb-ra c).Start) in
    let y = c.rank-rb.ensures ∙ held-rank h b (b-low (goal.at.Joined-rb-ra c).Start) in
    elim c.if-rb-ra.branch [
      | then-rb-ra w ↦ w.rack-is ∙ w.own.ensures ∙ ap (λ (bs : List ℕ). owned low bs a b) h.written
          ∙ own-high a b (from (goal.at.Joined-rb-ra c).Start) (addable (goal.at.Joined-rb-ra c).Start) (omega (arith, w.if-rb-ra.true))
      | else-rb-ra w ↦ w.rack-is ∙ w.own-else-rb-ra.ensures ∙ ap (λ (bs : List ℕ). owned low bs b a) h.written
          ∙ own-low a b (from (goal.at.Joined-rb-ra c).Start) (addable (goal.at.Joined-rb-ra c).Start) (omega (arith, w.if-rb-ra.false))
    ]

turned-long : (c : Joined-rb-ra) → Sized low c.if-rb-ra.rack
turned-long c = ap length (turned-now c) ∙ turned-sized (from (goal.at.Joined-rb-ra c).Start)
    (to (goal.at.Joined-rb-ra c).Start) c.requires.held.proper

higher-is : (c : After-max) → Higher c.args.a c.args.b c.max.result (from (goal.at.After-max c).Start)
higher-is c =
    higher-of c.requires.held c.args.a c.args.b (a-low (goal.at.After-max c).Start)
    (b-low (goal.at.After-max c).Start) c.rank-ra.ensures c.rank-rb.ensures
    c.max.ensures

-- the bytes at the end
written-now : (c : After-count_edge) → c.count_edge.new.rack ≡ write (to (goal.at.After-count_edge c).Start)
written-now c =
    let a = c.args.a in
    let b = c.args.b in
    let j = c.max.result in
    c.count_edge.ensures ∙ ap (λ (bs : List ℕ). edge_counted low true bs a b j) (turned-now (goal.at.After-count_edge c).Joined-rb-ra)
    ∙ step-written a b j true (from (goal.at.After-count_edge c).Start) (to (goal.at.After-count_edge c).Start)
    (add_step a b (from (goal.at.After-count_edge c).Start) (addable (goal.at.After-count_edge c).Start) j
    (higher-is (goal.at.After-count_edge c).After-max))

pub rank-ra-requires : goal.rank-ra-requires
rank-ra-requires c = record { v_lt_most = a-low (goal.at.rank-ra-requires c).Start }

pub rank-rb-requires : goal.rank-rb-requires
rank-rb-requires c = record { v_lt_most = b-low (goal.at.rank-rb-requires c).Start }

pub own-requires : goal.own-requires
own-requires c = record {
  v_lt_most = a-low (goal.at.own-requires c).Start;
  w_lt_most = b-low (goal.at.own-requires c).Start;
}

pub own-requires-else-rb-ra : goal.own-requires-else-rb-ra
own-requires-else-rb-ra c = record {
  v_lt_most = b-low (goal.at.own-requires-else-rb-ra c).Start;
  w_lt_most = a-low (goal.at.own-requires-else-rb-ra c).Start;
}

pub count_edge-requires : goal.count_edge-requires
count_edge-requires c = let a = c.args.a in
    let b = c.args.b in
    let j = c.max.result in
    record {
      countable = subst (λ (bs : List ℕ). Countable low true bs a b j) (sym (turned-now (goal.at.count_edge-requires c).Joined-rb-ra))
          (add-countable a b (from (goal.at.count_edge-requires c).Start) (addable (goal.at.count_edge-requires c).Start) j (higher-is c));
    }

pub returns : goal.returns
returns c = written-now c
