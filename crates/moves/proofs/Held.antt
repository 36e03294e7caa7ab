-- Bytes that are the writing of a proper state: what each accessor reads there. Assumes nothing.
use mathlib.Core.Path.{◌≡◌, sym, ap, ap₂, ◌∙◌, subst}
use mathlib.Core.Logic.{inl, inr}
use mathlib.Core.Bool.{Bool, ◌&&◌}
use mathlib.Core.List.{List}
use Prim.Native.Nat.{ℕ, suc, ◌≤◌, ◌<◌}
use native.Mathlib.Omega.{arith}
use lib.Dec.{T, ltb, eqb, ltb→lt, lt→ltb}
use lib.ListN.{length}
use Rattle.model.specs.Counting.{count}
use Rattle.model.specs.Shape.{Shape, GoodShape}
use Rattle.model.specs.State.{Kind, Rules, rules, InRange, GoodKind, State, phi, edges}
use Rattle.model.specs.Bytes.{size_at, edges_at, top_at, kind_at, rules_at, rank_at, mate_at, phi_at, owns_at, roster_at, mate_entry, read, write}
use Rattle.model.specs.Valid.{Valid}
use Rattle.model.proofs.Shapes.{thr-pos}
use Rattle.model.proofs.Tests.{eq?, and_left, and_yes}
use Rattle.model.proofs.Prefix.{count-ext, count-skip}
use Rattle.model.proofs.Fields.{write-length, edges-write, rank-write, mate-write, phi-write, owns-write, roster-write}
use Rattle.model.proofs.Limits.{mate-past, mate-inside}
use Rattle.model.proofs.Reading.{read-kind, read-size, read_back}
use Rattle.layout.specs.Setters.{Sized}
use Rattle.layout.specs.Rows.{degree_at, NthOwned}
use Rattle.moves.specs.Proper.{Proper, Ordered, Held}

-- what a proper state says of its kind, said of K
module _ {K : Kind} {s : State} (p : Proper K s) where
  pub proper-shape : s.kind.shape ≡ K.shape
  proper-shape = ap (λ (L : Kind). L.shape) p.kind

  pub proper-top : s.kind.top ≡ K.top
  proper-top = ap (λ (L : Kind). L.top) p.kind

  pub proper-good : GoodShape K.shape
  proper-good = subst (λ (L : Kind). GoodShape L.shape) p.kind p.good

  pub proper-range : InRange K
  proper-range = subst InRange p.kind p.range

  pub proper-room : K.top < K.shape.levels
  proper-room = proper-range.room

  -- every threshold is at least 1
  pub proper-pos : (j : ℕ) → 1 ≤ (rules K).thr j
  proper-pos = thr-pos (record { shape = proper-good; range = proper-range })

  pub proper-few : s.n ≤ K.shape.most
  proper-few = subst (λ (L : Kind). s.n ≤ L.shape.most) p.kind p.few

  pub proper-ranks : (v : ℕ) → s.rank v ≤ suc K.top
  proper-ranks v = subst (λ (L : Kind). s.rank v ≤ suc L.top) p.kind (p.ranks v)

-- reading what was written gives the state again
pub read-proper : {K : Kind} (s : State) → Proper K s → read s.kind.shape (write s) ≡ s
read-proper s p = read_back s p.good p.few p.inside p.past-rank p.past-mate p.mates

-- bytes that are the writing of a proper state
module _ {K : Kind} (bs : List ℕ) (s : State) (e : bs ≡ write s) (p : Proper K s) where
  pub reads_as : read K.shape bs ≡ s
  reads_as = ap₂ read (sym (proper-shape p)) e ∙ read-proper s p

  pub kind-as : kind_at K.shape bs ≡ K
  kind-as = sym (read-kind K.shape bs) ∙ ap (λ (t : State). t.kind) reads_as ∙ p.kind

  pub top-as : top_at bs ≡ K.top
  top-as = ap (λ (L : Kind). L.top) kind-as

  pub rules-as : rules_at bs ≡ rules K
  rules-as = ap rules kind-as

  pub held_of : Held K.shape bs
  held_of = record {
    written = e ∙ ap write (sym reads_as);
    proper = subst (λ (L : Kind). Proper L (read K.shape bs)) (sym kind-as) (subst (Proper K) (sym reads_as) p);
  }

pub valid-proper : {K : Kind} (s : State) → s.kind ≡ K → GoodKind s.kind → Valid (rules s.kind) s → Proper K s
valid-proper s of good v = record {
  kind = of;
  good = good.shape;
  range = good.range;
  few = v.few;
  inside = v.inside;
  past-rank = v.past;
  past-mate = mate-past v;
  ranks = v.ranks;
  mates = λ w l. elim (eq? (s.mate w) w) [ inl e ↦ omega arith | inr d ↦ mate-inside v w d ];
  no_loop = v.no_loop;
  owned-once = v.owned-once;
}

pub valid-ordered : {R : Rules} (s : State) → Valid R s → Ordered s
valid-ordered s v = v.owner-high

module _ {S : Shape} {bs : List ℕ} (h : Held S bs) where
  pub held-good : GoodShape S
  held-good = proper-good h.proper

  pub held-range : InRange (kind_at S bs)
  held-range = proper-range h.proper

  pub held-room : top_at bs < S.levels
  held-room = proper-room h.proper

  pub held-few : (read S bs).n ≤ S.most
  held-few = proper-few h.proper

  pub held-sized : Sized S bs
  unfolding read
  held-sized = ap length h.written ∙ write-length (read S bs) held-good

  pub held-size : size_at bs ≡ (read S bs).n
  held-size = sym (read-size S bs)

  pub held-edges : edges_at S bs ≡ edges (read S bs)
  unfolding read
  held-edges = ap (edges_at S) h.written ∙ edges-write (read S bs) held-good held-few

  pub held-rank : (v : ℕ) → v < S.most → rank_at bs v ≡ (read S bs).rank v
  unfolding read
  held-rank v l = ap (λ (x : List ℕ). rank_at x v) h.written ∙ rank-write (read S bs) held-good v l

  pub held-mate : (v : ℕ) → v < S.most → mate_at S bs v ≡ mate_entry (read S bs) v
  unfolding read
  held-mate v l = ap (λ (x : List ℕ). mate_at S x v) h.written ∙ mate-write (read S bs) held-good v l

  pub held-phi : (v j : ℕ) → v < S.most → j ≤ top_at bs → phi_at S bs v j ≡ phi (read S bs) v j
  unfolding read
  held-phi v j l k = ap (λ (x : List ℕ). phi_at S x v j) h.written ∙ phi-write (read S bs) held-good v j l (omega (arith, held-room)) k

  pub held-owns : (v w : ℕ) → v < S.most → w < S.most → owns_at S bs v w ≡ (read S bs).owns v w
  unfolding read
  held-owns v w l k = ap (λ (x : List ℕ). owns_at S x v w) h.written ∙ owns-write (read S bs) held-good v w l k

  -- the size of a row is the number of edges owned
  pub held-degree : (v : ℕ) → v < S.most → degree_at S bs v ≡ count ((read S bs).owns v) (read S bs).n
  unfolding degree_at
  held-degree v l =
      count-ext (owns_at S bs v) ((read S bs).owns v) S.most (λ w k. held-owns v w l k)
      ∙ sym (count-skip ((read S bs).owns v) (read S bs).n S.most held-few (λ w a b t. omega (arith, (h.proper.inside v w t).1)))

  -- the roster of a rank has the vertices of that rank
  pub held-roster : (r v : ℕ) → r ≤ S.levels → v < S.most → roster_at S bs r v ≡ (ltb v (read S bs).n && eqb ((read S bs).rank v) r)
  unfolding read
  held-roster r v k l = ap (λ (x : List ℕ). roster_at S x r v) h.written ∙ roster-write (read S bs) held-good r v (omega arith) l

  -- and as many as there are
  pub held-rostered : (r : ℕ) → r ≤ S.levels → count (roster_at S bs r) S.most ≡ count (λ v. eqb ((read S bs).rank v) r) (read S bs).n
  held-rostered r k =
      let p : ℕ → Bool = λ v. ltb v (read S bs).n && eqb ((read S bs).rank v) r in
      count-ext (roster_at S bs r) p S.most (λ v l. held-roster r v k l)
      ∙ sym (count-skip p (read S bs).n S.most held-few (λ v a b t. omega (arith, ltb→lt v (read S bs).n (and_left (ltb v (read S bs).n) _ t))))
      ∙ count-ext p _ (read S bs).n (λ v l. and_yes (ltb v (read S bs).n) _ (lt→ltb v (read S bs).n l))

  -- a vertex has its place
  pub held_small : (v : ℕ) → v < (read S bs).n → v < S.most
  held_small v l = omega (arith, held-few)

-- a place of a row of a proper state, whatever else the bytes hold: bs need only have s's owners
pub nth_in : {K : Kind} (s : State) → Proper K s → (bs : List ℕ) → ((v w : ℕ) → v < K.shape.most → w < K.shape.most → owns_at K.shape bs v w ≡ s.owns v w)
    → (v k r : ℕ) → v < K.shape.most → NthOwned K.shape bs v k r → (r < s.n) × (T (s.owns v r)) × (count (s.owns v) r ≡ k)
nth_in {K} s p bs f v k r l n =
    let t : T (s.owns v r) = subst T (f v r l n.inside) n.is in
    ((p.inside v r t).1, t, sym (count-ext (owns_at K.shape bs v) (s.owns v) r (λ w b. f v w l (omega (arith, n.inside)))) ∙ n.before)
