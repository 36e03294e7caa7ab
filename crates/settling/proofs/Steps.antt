-- What each step of a run keeps: the vertices and edges, a proper state, and owners at least as high as the other end. Assumes nothing.
use mathlib.Core.Path.{◌≡◌, refl, sym, ap, ◌∙◌, subst}
use mathlib.Core.Bool.{Bool, ◌&&◌}
use mathlib.Core.List.{List}
use mathlib.Core.Logic.{◌≢◌, inl, inr}
use Prim.Native.Nat.{ℕ, suc, ◌≤◌, ◌<◌}
use native.Mathlib.Omega.{arith}
use lib.Dec.{T, leb, leb→le}
use lib.ListN.{length, get_or}
use Rattle.model.specs.Counting.{listed}
use Rattle.model.specs.State.{Rules, rules, Kind, State, edge, near, below, phi}
use Rattle.model.specs.Words.{place}
use Rattle.model.specs.Moves.{Run, lifted, part, rise, marry, hand_over, chosen, drawn, draw, promote, due}
use Rattle.model.specs.Change.{reown}
use Rattle.model.proofs.Tests.{holds?, T_true, T_false, and_left, and_right}
use Rattle.model.proofs.Prefix.{count-ext}
use Rattle.model.proofs.Lists.{All-at, listed-length, listed-all, get_d-mem}
use Rattle.model.proofs.Limits.{phi-below}
use Rattle.model.proofs.Deciding.{place-less}
use Rattle.moves.specs.Proper.{Proper, Ordered, took_over, ranked, RowBelow}
use Rattle.moves.proofs.Held.{proper-pos, proper-ranks}
use Rattle.moves.proofs.Edges.{near-edge, near-low, edge-loop, simple}
use Rattle.moves.proofs.Keeps.{part-proper, marry-proper, hand-proper, ranked-proper, rise-proper, took-proper, took-edge, hand-edge, rise-ordered, hand-ordered, fall-ordered, ranked-near}
use Rattle.settling.specs.Settling.{visited}

-- t has s's vertices and edges, and is proper and ordered
pub record SameEdges (K : Kind) (s t : State) : Type 0 where
  pub size : t.n ≡ s.n
  pub edges : (v w : ℕ) → edge t v w ≡ edge s v w
  pub proper : Proper K t
  pub ordered : Ordered t

pub kept_then : {K : Kind} {s t u : State} → SameEdges K s t → SameEdges K t u → SameEdges K s u
kept_then a b = record {
  size = b.size ∙ a.size;
  edges = λ v w. b.edges v w ∙ a.edges v w;
  proper = b.proper;
  ordered = b.ordered;
}

pub kept-none : {K : Kind} (s : State) → Proper K s → Ordered s → SameEdges K s s
kept-none s p o = record { size = refl; edges = λ v w. refl; proper = p; ordered = o }

module _ {K : Kind} (s : State) (p : Proper K s) where
  -- a neighbour is another vertex, below n
  pub near-inside : (u i y : ℕ) → T (near s u i y) → y < s.n
  near-inside u i y h = (simple s p).inside u y (near-edge s u i y h)

  pub near-other : (u i y : ℕ) → T (near s u i y) → u ≢ y
  near-other u i y h e = edge-loop s p u (subst (λ (x : ℕ). T (edge s u x)) (sym e) (near-edge s u i y h))

  -- a rise keeps the edges
  pub rise-edge : (i u v w : ℕ) → edge (rise i u s) v w ≡ edge s v w
  unfolding rise took_over reown edge
  rise-edge i u v w = took-edge s p i u v w

  -- where u rises, its own neighbours below the level are as they were
  near-rise : (i u w : ℕ) → u < s.n → near (rise i u s) u i w ≡ near s u i w
  unfolding rise took_over reown ranked near edge
  near-rise i u w l =
      ranked-near (took_over i u s) (took-proper s p i u l) u (suc i) i w ∙ ap (λ (b : Bool). b && leb (s.rank w) i) (took-edge s p i u u w)

  below-rise : (i u : ℕ) → u < s.n → below (rise i u s) u i ≡ below s u i
  unfolding below rise
  below-rise i u l = count-ext (near (rise i u s) u i) (near s u i) s.n (λ w b. near-rise i u w l)

module _ {K : Kind} (s : State) (p : Proper K s) (o : Ordered s) where
  pub part-kept : (v : ℕ) → v < s.n → SameEdges K s (part v s)
  unfolding part edge
  part-kept v l = record { size = refl; edges = λ x y. refl; proper = part-proper s p v l; ordered = o }

  pub marry-kept : (u y : ℕ) → u < s.n → y < s.n → SameEdges K s (marry u y s)
  unfolding marry edge
  marry-kept u y l k = record { size = refl; edges = λ x y. refl; proper = marry-proper s p u y l k; ordered = o }

  pub rise-kept : (i u : ℕ) → u < s.n → s.rank u ≤ i → i ≤ K.top → SameEdges K s (rise i u s)
  unfolding rise
  rise-kept i u l k h = record {
    size = refl;
    edges = rise-edge s p i u;
    proper = rise-proper s p i u l h;
    ordered = rise-ordered s p i u o k;
  }

  pub hand-kept : (i v : ℕ) → v < s.n → s.rank v ≡ suc i → SameEdges K s (hand_over i v s)
  unfolding hand_over
  hand-kept i v l e = record {
    size = refl;
    edges = hand-edge s p i v;
    proper = hand-proper s p i v l;
    ordered = hand-ordered s p i v o e;
  }

  pub fall-kept : (i v : ℕ) → v < s.n → s.rank v ≡ suc i → RowBelow i v s → SameEdges K s (ranked v i s)
  unfolding ranked edge
  fall-kept i v l e f = record {
    size = refl;
    edges = λ x y. refl;
    proper = ranked-proper s p v i l (omega (arith, proper-ranks p v));
    ordered = fall-ordered s p i v o e f;
  }

-- A vertex is parted and rises: what a promotion does first, and a draw to the chosen vertex.
module _ {K : Kind} (s : State) (p : Proper K s) (o : Ordered s) where
  pub lift-kept : (i y : ℕ) → y < s.n → s.rank y ≤ i → i ≤ K.top → SameEdges K s (rise i y (part y s))
  unfolding part
  lift-kept i y l h k =
      let a : SameEdges K s (part y s) = part-kept s p o y l in
      kept_then a (rise-kept (part y s) a.proper a.ordered i y l h k)

  pub lift-below : (i u : ℕ) → u < s.n → below (rise i u (part u s)) u i ≡ below s u i
  unfolding part below near edge
  lift-below i u l = let a : SameEdges K s (part u s) = part-kept s p o u l in below-rise (part u s) a.proper i u l

  -- u and a neighbour y below the level, which is parted, rises and is u's mate then
  pub drawn-kept : (i u y : ℕ) → u < s.n → T (near s u i y) → i ≤ K.top → SameEdges K s (marry u y (rise i y (part y s)))
  unfolding part rise
  drawn-kept i u y l h k =
      let m : y < s.n = near-inside s p u i y h in
      let a : SameEdges K s (rise i y (part y s)) = lift-kept i y m (near-low s u i y h) k in
      kept_then a (marry-kept (rise i y (part y s)) a.proper a.ordered u y l m)

-- the chosen vertex is a neighbour below the level
pub chosen-near : (words : List ℕ) (i u : ℕ) (r : Run) → 1 ≤ below r.state u i → T (near r.state u i (chosen words i u r))
unfolding chosen below
chosen-near words i u r h =
    let s : State = r.state in
    let l : List ℕ = listed (near s u i) s.n in
    let k : 1 ≤ length l = omega (arith, listed-length (near s u i) s.n) in
    (All-at (λ x. (x < s.n) × T (near s u i x)) l (listed-all (near s u i) s.n) (get_or l (place words r.draws (length l)) 0)
    (get_d-mem l (place words r.draws (length l)) (place-less words r.draws (length l) k))).1

-- a due vertex has come to the threshold; it stands below the level and has a neighbour below it
pub due-reached : (R : Rules) (i w : ℕ) (s : State) → T (due R i w s) → R.thr i ≤ phi s w i
unfolding due
due-reached R i w s t = leb→le (R.thr i) (phi s w i) (and_right (leb (s.rank w) i) _ t)

pub due-low : (R : Rules) → ((j : ℕ) → 1 ≤ R.thr j) → (i w : ℕ) (s : State) → T (due R i w s) → (s.rank w ≤ i) × (1 ≤ below s w i)
unfolding due
due-low R pos i w s t =
    (leb→le (s.rank w) i (and_left (leb (s.rank w) i) _ t), omega (arith, due-reached R i w s t, phi-below s w i, pos i))

-- Whole moves of a run.
module _ {K : Kind} (words : List ℕ) (i u : ℕ) (r : Run) (p : Proper K r.state) (o : Ordered r.state) (l : u < r.state.n) (k : i ≤ K.top) where
  pub draw-kept : 1 ≤ below r.state u i → SameEdges K r.state (draw words i u r).state
  unfolding draw drawn
  draw-kept h = drawn-kept r.state p o i u (chosen words i u r) l (chosen-near words i u r h) k

pub promote-kept : {K : Kind} (words : List ℕ) (i u : ℕ) (r : Run) → Proper K r.state → Ordered r.state → u < r.state.n → i ≤ K.top
    → r.state.rank u ≤ i → 1 ≤ below r.state u i → SameEdges K r.state (promote words i u r).state
unfolding promote rise part
promote-kept {K} words i u r p o l k h b =
    let s : State = r.state in
    let a : SameEdges K s (rise i u (part u s)) = lift-kept s p o i u l h k in
    kept_then a (draw-kept words i u (lifted i u r) a.proper a.ordered l k (omega (arith, lift-below s p o i u l)))

pub visited-kept : {K : Kind} (words : List ℕ) (i w : ℕ) (r : Run) → Proper K r.state → Ordered r.state → w < r.state.n → i ≤ K.top
    → SameEdges K r.state (visited (rules K) words i w r).state
unfolding visited
visited-kept {K} words i w r p o l k = elim (holds? (due (rules K) i w r.state)) [
  | inl t ↦ rw (T_true {b = due (rules K) i w r.state} t, visited)
      (promote-kept words i w r p o l k (due-low (rules K) (proper-pos p) i w r.state t).0 (due-low (rules K) (proper-pos p) i w r.state t).1)
  | inr t ↦ rw (T_false {b = due (rules K) i w r.state} t, visited) (kept-none r.state p o)
]
