-- What the code reads of a rack that holds a proper state: a vertex's mate, the number of vertices to draw among, and the chosen one.
-- Assumes nothing.
use mathlib.Core.Path.{◌≡◌, sym, ap, ◌∙◌, subst}
use mathlib.Core.Logic.{◌≢◌}
use mathlib.Core.List.{List}
use Prim.Native.Nat.{ℕ, ◌≤◌, ◌<◌}
use native.Mathlib.Omega.{arith}
use lib.Dec.{T}
use Rattle.model.specs.Counting.{count}
use Rattle.model.specs.Shape.{Shape}
use Rattle.model.specs.State.{State, near, below}
use Rattle.model.specs.Bytes.{top_at, no_mate, mate_at, read}
use Rattle.model.specs.Words.{place}
use Rattle.model.specs.Moves.{chosen}
use Rattle.model.proofs.Counting.{count-bound}
use Rattle.model.proofs.Prefix.{count-ext}
use Rattle.model.proofs.Limits.{mate_entry-free, mate_entry-mate}
use Rattle.theory.proofs.Loops.{chosen_at}
use Rattle.layout.specs.Rows.{degree_at, NthOwned}
use Rattle.moves.specs.Proper.{Held, RowBelow}
use Rattle.moves.proofs.Held.{held-few, held-room, held-mate, held-owns, held-degree, held_small, nth_in}
use Rattle.moves.proofs.Pairs.{entry_free as entry-alone}
use Rattle.settling.specs.Settling.{running}
use Rattle.settling.specs.declared.progress.Progress.{Progress}

-- a level is one of those that have counts
pub level-small : {S : Shape} {bs : List ℕ} → Held S bs → (i : ℕ) → i ≤ top_at bs → i < S.levels
level-small h i k = omega (arith, held-room h)

module _ {S : Shape} (bs : List ℕ) (h : Held S bs) (v : ℕ) (l : v < (read S bs).n) where
  -- the entry for no mate, and any other
  pub entry_free : (m : ℕ) → m ≡ mate_at S bs v → m ≡ no_mate → (read S bs).mate v ≡ v
  entry_free m e f = entry-alone (read S bs) h.proper v l (sym (held-mate h v (held_small h v l)) ∙ sym e ∙ f)

  pub entry-paired : (m : ℕ) → m ≡ mate_at S bs v → m ≢ no_mate → ((read S bs).mate v ≢ v) × (m ≡ (read S bs).mate v)
  entry-paired m e f =
      let d : (read S bs).mate v ≢ v = λ q. f (e ∙ held-mate h v (held_small h v l) ∙ mate_entry-free (read S bs) v q) in
      (d, e ∙ held-mate h v (held_small h v l) ∙ mate_entry-mate (read S bs) v d)

-- no more neighbours are below a level than a rack has vertices
pub below-most : {S : Shape} {bs : List ℕ} → Held S bs → (u i : ℕ) → below (read S bs) u i ≤ S.most
unfolding below
below-most {S} {bs} h u i = omega (arith, count-bound (near (read S bs) u i) (read S bs).n, held-few h)

-- a row of exactly the neighbours below the level is as long as they are many
pub row_below : (s : State) (i u : ℕ) → RowBelow i u s → count (s.owns u) s.n ≡ below s u i
unfolding below
row_below s i u f = count-ext (s.owns u) (near s u i) s.n (λ w b. f w)

module _ {S : Shape} (bs : List ℕ) (h : Held S bs) (i u : ℕ) (l : u < (read S bs).n) (f : RowBelow i u (read S bs)) where
  pub row-degree : degree_at S bs u ≡ below (read S bs) u i
  row-degree = held-degree h u (held_small h u l) ∙ row_below (read S bs) i u f

  -- the vertex at the place that the word gives
  pub row-chosen : (words : List ℕ) (p : Progress) (k y : ℕ) → k ≡ below (read S bs) u i → NthOwned S bs u (place words p.tally.draws k) y
      → (y ≡ chosen words i u (running S bs p)) × T (near (read S bs) u i y)
  row-chosen words p k y d n =
      let s : State = read S bs in
      let m = nth_in s h.proper bs (held-owns h) u (place words p.tally.draws k) y (held_small h u l) n in
      let c : T (near s u i y) = subst T (f y) m.1 in
      let e : count (near s u i) y ≡ place words p.tally.draws (below s u i) =
      sym (count-ext (s.owns u) (near s u i) y (λ w b. f w)) ∙ m.2 ∙ ap (place words p.tally.draws) d in
      (sym (chosen_at words i u (running S bs p) y m.0 c e), c)
