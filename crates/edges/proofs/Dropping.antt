-- A drop on the bytes: both ends' bits, and what an edge less needs. Assumes nothing.
use mathlib.Core.Path.{◌≡◌, refl, subst}
use mathlib.Core.Logic.{◌≢◌}
use mathlib.Core.Bool.{true, false}
use Prim.Native.Nat.{ℕ, suc, ◌<◌}
use native.Mathlib.Omega.{arith}
use lib.Dec.{T}
use Rattle.model.specs.Shape.{Shape}
use Rattle.model.specs.State.{Kind, State, edge}
use Rattle.model.specs.Bytes.{image, write}
use Rattle.model.specs.Change.{reown}
use Rattle.layout.specs.Setters.{disown}
use Rattle.moves.specs.Proper.{Proper}
use Rattle.moves.specs.Counts.{step}
use Rattle.moves.proofs.Held.{proper-shape, proper-few, proper-ranks}
use Rattle.edges.specs.Steps.{Countable}
use Rattle.edges.proofs.Joined.{EdgeMore, edges_more}
use Rattle.edges.proofs.Changed.{drop_edge, drop-joined, drop_here, drop-back, drop-rest}
use Rattle.edges.proofs.Shifted.{Higher, Shifted, gained, lost}
use Rattle.edges.proofs.Stages.{turned, disown-turned}
use Rattle.edges.proofs.EdgeSteps.{EdgeStep, step-countable}

-- the edge can be dropped
pub record Droppable (K : Kind) (a b : ℕ) (s : State) : Type 0 where
  pub proper : Proper K s
  pub apart : a ≢ b
  pub inside : (a < s.n) × (b < s.n)
  pub there : T (edge s a b)

module _ {K : Kind} (a b : ℕ) (s : State) (D : Droppable K a b s) where
  pub a_small : a < K.shape.most
  a_small = omega (arith, D.inside.0, proper-few D.proper)

  pub b-small : b < K.shape.most
  b-small = omega (arith, D.inside.1, proper-few D.proper)

  joined : EdgeMore a b (drop_edge a b s) s
  joined = drop-joined a b s D.apart D.inside D.there

  -- the owner's bit, and the other end's, which is clear
  pub disown-both : disown K.shape (disown K.shape (write s) a b) b a ≡ image (turned s (drop_edge a b s))
  disown-both =
      subst (λ (T : Shape). a < T.most → b < T.most → disown T (disown T (write s) a b) b a ≡ image (turned s (drop_edge a b s))) (proper-shape D.proper)
      (λ l k. disown-turned s (drop_edge a b s) D.proper.good a b l k (drop-rest a b s) (drop_here a b s) (drop-back a b s)) a_small b-small

  -- the counts and the number of edges
  module _ (j : ℕ) (H : Higher a b j s) where
    more : Shifted a b j (step true) (drop_edge a b s) s
    unfolding reown
    more = gained a b j (drop_edge a b s) s joined (record { a-low = H.a-low; b-low = H.b-low; least = H.least })

    pub drop-step : EdgeStep K a b j false s (drop_edge a b s)
    unfolding reown
    drop-step = record {
      proper = D.proper;
      shifted = lost a b j s (drop_edge a b s) more;
      kind = refl;
      size = refl;
      rank = λ v. refl;
      mate = λ v. refl;
      number = omega (arith, edges_more a b (drop_edge a b s) s joined);
      level = H.least (suc K.top) (proper-ranks D.proper a) (proper-ranks D.proper b);
      a_in = a_small;
      b-in = b-small;
    }

    pub drop-countable : Countable K.shape false (image (turned s (drop_edge a b s))) a b j
    drop-countable =
        step-countable a b j false s (drop_edge a b s) drop-step (record {
          of-a = λ x l. omega (arith, more.on-a x l);
          of-b = λ x l. omega (arith, more.on-b x l);
          of-edges = omega (arith, edges_more a b (drop_edge a b s) s joined);
        })
