-- An add on the bytes: the owner's bit, and what an edge more needs. Assumes nothing.
use mathlib.Core.Path.{◌≡◌, ap, ◌∙◌, subst}
use mathlib.Core.Logic.{◌≢◌}
use mathlib.Core.Bool.{true}
use Prim.Native.Nat.{ℕ, suc, ◌-◌, ◌/◌, ◌^◌, ◌≤◌, ◌<◌}
use native.Mathlib.Omega.{arith}
use lib.Dec.{T}
use Rattle.model.specs.Shape.{Shape}
use Rattle.model.specs.State.{Kind, State, edge, edges}
use Rattle.model.specs.Bytes.{half, image, write}
use Rattle.model.specs.Change.{add_edge, owning}
use Rattle.model.proofs.Limits.{edges_fit}
use Rattle.layout.specs.Setters.{own}
use Rattle.moves.specs.Proper.{Proper}
use Rattle.moves.specs.Counts.{step}
use Rattle.moves.proofs.Held.{proper-shape, proper-good, proper-few, proper-ranks}
use Rattle.moves.proofs.Recount.{phi-fits}
use Rattle.edges.specs.Steps.{Countable}
use Rattle.edges.proofs.Joined.{EdgeMore, edges_more}
use Rattle.edges.proofs.Changed.{owning-bit, owning-rest, add-high, add_low, add-kind, add-size, add-rank, add-mate, add-proper, add-joined}
use Rattle.edges.proofs.Shifted.{Higher, Shifted, gained}
use Rattle.edges.proofs.Stages.{turned, own-turned}
use Rattle.edges.proofs.EdgeSteps.{EdgeStep, CanCount, step-countable}

-- the edge can be added
pub record Addable (K : Kind) (a b : ℕ) (s : State) : Type 0 where
  pub proper : Proper K s
  pub apart : a ≢ b
  pub inside : (a < s.n) × (b < s.n)
  pub absent : T (edge s a b) → ⊥

module _ {K : Kind} (a b : ℕ) (s : State) (A : Addable K a b s) where
  pub a_small : a < K.shape.most
  a_small = omega (arith, A.inside.0, proper-few A.proper)

  pub b-small : b < K.shape.most
  b-small = omega (arith, A.inside.1, proper-few A.proper)

  added-proper : Proper K (add_edge a b s)
  added-proper = add-proper a b s A.apart A.inside A.absent A.proper

  joined : EdgeMore a b s (add_edge a b s)
  joined = add-joined a b s A.apart A.inside A.absent

  owned-as : (o e : ℕ) → o < K.shape.most → e < K.shape.most → add_edge a b s ≡ owning o e s
      → own K.shape (write s) o e ≡ image (turned s (add_edge a b s))
  owned-as o e l k q =
      subst (λ (T : Shape). o < T.most → e < T.most → own T (write s) o e ≡ image (turned s (add_edge a b s))) (proper-shape A.proper)
      (λ l k. own-turned s (add_edge a b s) A.proper.good o e l k
      (λ v w d. ap (λ (t : State). t.owns v w) q ∙ owning-rest o e s v w d)
      (ap (λ (t : State). t.owns o e) q ∙ owning-bit o e s)) l k

  -- the owner's bit
  pub own-high : s.rank b ≤ s.rank a → own K.shape (write s) a b ≡ image (turned s (add_edge a b s))
  own-high h = owned-as a b a_small b-small (add-high a b s h)

  pub own-low : s.rank a < s.rank b → own K.shape (write s) b a ≡ image (turned s (add_edge a b s))
  own-low h = owned-as b a b-small a_small (add_low a b s h)

  -- what of the number of edges doesn't fit two bytes fits the bytes that are not spare
  fit : edges (add_edge a b s) / half < 256 ^ (2 - K.shape.spare)
  fit =
      subst (λ (T : Shape). edges (add_edge a b s) / half < 256 ^ (2 - T.spare)) (proper-shape added-proper)
      (edges_fit (add_edge a b s) added-proper.good added-proper.few)

  -- the counts and the number of edges
  module _ (j : ℕ) (H : Higher a b j s) where
    more : Shifted a b j (step true) s (add_edge a b s)
    more = gained a b j s (add_edge a b s) joined H

    pub add_step : EdgeStep K a b j true s (add_edge a b s)
    add_step = record {
      proper = A.proper;
      shifted = more;
      kind = add-kind a b s;
      size = add-size a b s;
      rank = add-rank a b s;
      mate = add-mate a b s;
      number = edges_more a b s (add_edge a b s) joined;
      level = H.least (suc K.top) (proper-ranks A.proper a) (proper-ranks A.proper b);
      a_in = a_small;
      b-in = b-small;
    }

    -- the counts and the number of edges of the state that comes fit their bytes, and they are one more
    room : CanCount K.shape a b j true s
    room =
        let good = proper-good added-proper in
        record {
          of-a = λ x l. omega (arith, more.on-a x l, phi-fits (add_edge a b s) added-proper a x, good.counts);
          of-b = λ x l. omega (arith, more.on-b x l, phi-fits (add_edge a b s) added-proper b x, good.counts);
          of-edges = omega (arith, add_step.number, fit);
        }

    pub add-countable : Countable K.shape true (image (turned s (add_edge a b s))) a b j
    add-countable = step-countable a b j true s (add_edge a b s) add_step room
