-- One edge more or less on the bytes, once the owner's bit is set or cleared: the counts of one end and of the other, and the number of edges.
-- The same laws serve both ways. Assumes nothing.
use mathlib.Core.Path.{◌≡◌, sym, ap, ◌∙◌, subst}
use mathlib.Core.Bool.{Bool}
use mathlib.Core.List.{List}
use Prim.Native.Nat.{ℕ, suc, ◌+◌, ◌-◌, ◌≤◌, ◌<◌}
use native.Mathlib.Omega.{arith}
use Rattle.model.specs.Shape.{Shape, GoodShape}
use Rattle.model.specs.State.{Kind, State, phi, edges}
use Rattle.model.specs.Bytes.{edges_at, top_at, phi_at, image, write}
use Rattle.layout.specs.Setters.{set_edges}
use Rattle.moves.specs.Proper.{Proper}
use Rattle.moves.specs.Counts.{with_counts, step, CanStep, largest_count, largest_edges}
use Rattle.moves.proofs.CountSteps.{recounted-image}
use Rattle.moves.proofs.Owning.{owners_of}
use Rattle.edges.specs.Steps.{recounted_from, ends_counted, edge_counted, Countable}
use Rattle.edges.proofs.Shifted.{Shifted, both, half, half-there, half-on, half-off, both-on, both-off}
use Rattle.edges.proofs.Stages.{turned, halfway, counted, turned-top, turned-phi, halfway-phi, counted-edges, edges-written}

-- t is s with other owners, such that the counts of a and b from level j on and the number of edges are one more, or one less
pub record EdgeStep (K : Kind) (a b j : ℕ) (more : Bool) (s t : State) : Type 0 where
  pub proper : Proper K s
  pub shifted : Shifted a b j (step more) s t
  pub kind : t.kind ≡ s.kind
  pub size : t.n ≡ s.n
  pub rank : (v : ℕ) → t.rank v ≡ s.rank v
  pub mate : (v : ℕ) → t.mate v ≡ s.mate v
  pub number : edges t ≡ step more (edges s)
  pub level : j ≤ suc K.top
  pub a_in : a < K.shape.most
  pub b-in : b < K.shape.most

-- there is room for it in the counts of both ends and in the number of edges
pub record CanCount (S : Shape) (a b j : ℕ) (more : Bool) (s : State) : Type 0 where
  pub of-a : (x : ℕ) → j ≤ x → CanStep more (largest_count S) (phi s a x)
  pub of-b : (x : ℕ) → j ≤ x → CanStep more (largest_count S) (phi s b x)
  pub of-edges : CanStep more (largest_edges S) (edges s)

-- of the kind that s names
module _ (a b j : ℕ) (more : Bool) (s t : State) (E : EdgeStep s.kind a b j more s t) where
  abbrev of : Shape
  of = s.kind.shape

  abbrev good : GoodShape of
  good = E.proper.good

  abbrev top : ℕ
  top = s.kind.top

  abbrev above : ℕ
  above = suc top - j

  -- the bytes before the counts change
  abbrev bytes : List ℕ
  bytes = image (turned s t)

  top-is : top_at bytes ≡ top
  top-is = turned-top s t good

  all : j + above ≡ suc top
  all = omega (arith, E.level)

  first : recounted_from of more top bytes a j ≡ image (halfway a s t)
  unfolding turned halfway owners_of
  first =
      recounted-image (step more) (turned s t) good E.proper.range.room a j above (half a s t) E.a_in (omega (arith, all))
      (half-on a b j above (step more) s t E.shifted all) (half-off a b j above (step more) s t E.shifted all)

  second : recounted_from of more top (image (halfway a s t)) b j ≡ image (counted s t)
  unfolding turned halfway counted with_counts owners_of
  second =
      recounted-image (step more) (halfway a s t) good E.proper.range.room b j above (both s t) E.b-in (omega (arith, all))
      (both-on a b j above (step more) s t E.shifted all) (both-off a b j above (step more) s t E.shifted all)

  ends : ends_counted of more bytes a b j ≡ image (counted s t)
  ends =
      ap (λ (x : ℕ). recounted_from of more x (recounted_from of more x bytes a j) b j) top-is
      ∙ ap (λ (bs : List ℕ). recounted_from of more top bs b j) first ∙ second

  ends-edges : edges_at of (image (counted s t)) ≡ edges s
  ends-edges = counted-edges s t good E.proper.few

  written : edge_counted of more bytes a b j ≡ write t
  unfolding edge_counted
  written =
      ap (λ (bs : List ℕ). set_edges of bs (step more (edges_at of bs))) ends
      ∙ ap (set_edges of (image (counted s t))) (ap (step more) ends-edges ∙ sym E.number)
      ∙ edges-written s t good E.kind E.size E.rank E.mate

  -- the counts that are stepped, as the bytes hold them then
  of-first : (x : ℕ) → x ≤ top_at bytes → phi_at of bytes a x ≡ phi s a x
  of-first x h = turned-phi s t good a x E.a_in (omega (arith, top-is, E.proper.range.room)) (omega (arith, top-is))

  of-second : (x : ℕ) → x ≤ top_at bytes → phi_at of (recounted_from of more (top_at bytes) bytes a j) b x ≡ phi s b x
  of-second x h =
      ap (λ (y : ℕ). phi_at of (recounted_from of more y bytes a j) b x) top-is
      ∙ ap (λ (bs : List ℕ). phi_at of bs b x) first
      ∙ halfway-phi s t good a b x E.b-in (omega (arith, top-is, E.proper.range.room)) (omega (arith, top-is))
      ∙ half-there a s t b x (λ e. E.shifted.apart (sym e))

  countable : CanCount of a b j more s → Countable of more bytes a b j
  countable r = record {
    a_in = E.a_in;
    b-in = E.b-in;
    room = omega (arith, top-is, E.proper.range.room);
    level = omega (arith, top-is, E.level);
    of-a = λ x l h. subst (CanStep more (largest_count of)) (sym (of-first x h)) (r.of-a x l);
    of-b = λ x l h. subst (CanStep more (largest_count of)) (sym (of-second x h)) (r.of-b x l);
    of-edges = subst (CanStep more (largest_edges of)) (sym (ap (edges_at of) ends ∙ ends-edges)) r.of-edges;
  }

module _ {K : Kind} (a b j : ℕ) (more : Bool) (s t : State) (E : EdgeStep K a b j more s t) where
  pub step-written : edge_counted K.shape more (image (turned s t)) a b j ≡ write t
  step-written =
      subst (λ (L : Kind). EdgeStep L a b j more s t → edge_counted L.shape more (image (turned s t)) a b j ≡ write t) E.proper.kind
      (written a b j more s t) E

  pub step-countable : CanCount K.shape a b j more s → Countable K.shape more (image (turned s t)) a b j
  step-countable =
      subst (λ (L : Kind). EdgeStep L a b j more s t → CanCount L.shape a b j more s → Countable L.shape more (image (turned s t)) a b j)
      E.proper.kind (countable a b j more s t) E
