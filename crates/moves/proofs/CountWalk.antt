-- A walk along a vertex's row that gives each vertex met its new counts, with the rest of the bytes as they were. Assumes nothing.
use mathlib.Core.Path.{◌≡◌, refl, sym, ap, ◌∙◌, subst}
use mathlib.Core.Logic.{◌≢◌, inl, inr}
use mathlib.Core.Bool.{Bool, true, false}
use mathlib.Core.List.{List}
use Prim.Native.Nat.{ℕ, suc, ◌+◌, ◌-◌, ◌%◌, ◌≤◌, ◌<◌}
use native.Mathlib.Omega.{arith}
use lib.Dec.{T, leb, leb→le}
use lib.ListN.{length}
use Rattle.model.specs.Counting.{upd}
use Rattle.model.specs.Shape.{Shape, rack_length}
use Rattle.model.specs.State.{Kind, State, edge, near, phi}
use Rattle.model.specs.Bytes.{rank_at, phi_at, owns_at, image, fields_of, read, write}
use Rattle.model.proofs.Tests.{eq?, le?, and_right}
use Rattle.model.proofs.Lists.{upd_same, upd_other}
use Rattle.model.proofs.Fields.{image-length, rank-image, phi-image, owns-image}
use Rattle.model.proofs.Facts.{Says}
use Rattle.layout.specs.Setters.{Sized, set_phi}
use Rattle.layout.specs.declared.walk.Cursor.{Cursor}
use Rattle.layout.specs.Walks.{place_of, Here, Stands, Further}
use Rattle.layout.proofs.Said.{says-yes, says-no, says-by}
use Rattle.layout.proofs.Walks.{row-whole, further_same}
use Rattle.moves.specs.Proper.{Proper, Held, RowBelow}
use Rattle.moves.specs.Counts.{with_counts, step, recounted, lowered_counts, raised_counts}
use Rattle.moves.proofs.Held.{proper-shape, proper-few, held-good, held-sized, held_small, held-owns}
use Rattle.layout.proofs.Reached.{reached, reached-here, reached-end, Came, came, stands-as, further-as}
use Rattle.moves.proofs.Choices.{hit-says, hit-of, lowered-yes, lowered-no, raised-yes, raised-no}
use Rattle.moves.proofs.CountSteps.{counts-ext, set_count-proper, recounted-proper}

-- ---- bytes that are the writing of s but for the counts

abbrev pub Counted : State → (ℕ → ℕ → ℕ) → List ℕ → Type 0
Counted s g bs = bs ≡ image (with_counts (fields_of s) g)

pub counted-write : (s : State) (bs : List ℕ) → bs ≡ write s → Counted s (phi s) bs
unfolding write fields_of with_counts
counted-write s bs e = e

module _ {K : Kind} (s : State) (p : Proper K s) (g : ℕ → ℕ → ℕ) (bs : List ℕ) (e : Counted s g bs) where
  pub counted-sized : Sized K.shape bs
  unfolding with_counts fields_of
  counted-sized = ap length e ∙ image-length (with_counts (fields_of s) g) p.good ∙ ap (λ (T : Shape). rack_length T) (proper-shape p)

  pub counted-rank : (v : ℕ) → v < K.shape.most → rank_at bs v ≡ s.rank v
  unfolding with_counts fields_of
  counted-rank v l =
      ap (λ (x : List ℕ). rank_at x v) e
      ∙ rank-image (with_counts (fields_of s) g) p.good v (omega (arith, ap (λ (T : Shape). T.most) (proper-shape p)))

  pub counted-phi : (v j : ℕ) → v < K.shape.most → j ≤ K.top → phi_at K.shape bs v j ≡ g v j
  unfolding with_counts fields_of
  counted-phi v j l k =
      ap (λ (x : List ℕ). phi_at K.shape x v j) e
      ∙ subst (λ (L : Kind). v < L.shape.most → j ≤ L.top → phi_at L.shape (image (with_counts (fields_of s) g)) v j ≡ g v j) p.kind
      (λ l k. phi-image (with_counts (fields_of s) g) p.good v j l (omega (arith, p.range.room)) k) l k

  pub counted-owns : (v w : ℕ) → v < K.shape.most → w < K.shape.most → owns_at K.shape bs v w ≡ s.owns v w
  unfolding with_counts fields_of
  counted-owns v w l k =
      ap (λ (x : List ℕ). owns_at K.shape x v w) e
      ∙ subst (λ (T : Shape). v < T.most → w < T.most → owns_at T (image (with_counts (fields_of s) g)) v w ≡ s.owns v w) (proper-shape p)
      (owns-image (with_counts (fields_of s) g) p.good v w) l k

-- ---- the walk

-- the vertices before the place that the walk has reached have their new counts, the others the old ones, and u owns the edge to that place
pub record RowCounted (S : Shape) (s : State) (new : ℕ → ℕ → ℕ) (u : ℕ) (bs : List ℕ) (c : Cursor) : Type 0 where
  pub counts : ℕ → ℕ → ℕ
  pub is : Counted s counts bs
  pub done : (x j : ℕ) → x < reached S.most c → counts x j ≡ new x j
  pub left : (x j : ℕ) → reached S.most c ≤ x → counts x j ≡ phi s x j
  pub here : 0 < c.rest → Here S.most (s.owns u) (reached S.most c) c

-- the new counts change nothing where u owns no edge
abbrev pub Quiet : State → (ℕ → ℕ → ℕ) → ℕ → Type 0
Quiet s new u = (x j : ℕ) → (T (s.owns u x) → ⊥) → new x j ≡ phi s x j

module _ {K : Kind} (s : State) (p : Proper K s) (new : ℕ → ℕ → ℕ) (u : ℕ) (quiet : Quiet s new u) where
  pub walk_start : (bs : List ℕ) (r : Cursor) → bs ≡ write s → Came K.shape.most (s.owns u) 0 r → RowCounted K.shape s new u bs r
  walk_start bs r e n =
      record {
        counts = phi s;
        is = counted-write s bs e;
        done = λ x j l. sym (quiet x j (n.none x (omega arith) l));
        left = λ x j l. refl;
        here = n.here;
      }

  -- one vertex more, and on to the next
  pub walk_step : (bs : List ℕ) (c : Cursor) (k : RowCounted K.shape s new u bs c) (w : ℕ) → w ≡ reached K.shape.most c → (next : List ℕ) (r : Cursor)
      → Counted s (upd k.counts w (new w)) next → Came K.shape.most (s.owns u) (suc w) r → RowCounted K.shape s new u next r
  walk_step bs c k w at next r e n =
      let other : (x j : ℕ) → x ≢ w → upd k.counts w (new w) x j ≡ k.counts x j =
      λ x j d. ap (λ (f : ℕ → ℕ). f j) (upd_other k.counts w (new w) x d) in
      record {
        counts = upd k.counts w (new w);
        is = e;
        done = λ x j l. elim (eq? x w) [
          | inl p ↦ ap (λ (f : ℕ → ℕ). f j) (upd_same k.counts w (new w) x p) ∙ ap (λ (y : ℕ). new y j) (sym p)
          | inr d ↦ other x j d ∙ elim (le? w x) [
            | inl p ↦ k.left x j (omega arith) ∙ sym (quiet x j (n.none x (omega arith) l))
            | inr p ↦ k.done x j (omega arith)
          ]
        ];
        left = λ x j l. other x j (omega (arith, n.after)) ∙ k.left x j (omega (arith, n.after));
        here = n.here;
      }

  -- the row is walked
  pub walk_end : (bs : List ℕ) (c : Cursor) → c.rest ≡ 0 → RowCounted K.shape s new u bs c → Counted s new bs
  unfolding with_counts fields_of
  walk_end bs c z k =
      k.is ∙ counts-ext (with_counts (fields_of s) k.counts) p.good new (λ x j. elim (le? (reached K.shape.most c) x) [
        | inl b ↦ quiet x j (λ t. omega (arith, reached-end K.shape.most c z, proper-few p, (p.inside u x t).1)) ∙ sym (k.left x j b)
        | inr b ↦ sym (k.done x j b)
      ])

-- a walk along u's row of a held rack, as its loop goes
pub record Walk (S : Shape) (bs₀ : List ℕ) (new : ℕ → ℕ → ℕ) (u : ℕ) : Type 0 where
  pub held : Held S bs₀
  pub inside : u < (read S bs₀).n
  pub quiet : Quiet (read S bs₀) new u

module _ {S : Shape} {bs₀ : List ℕ} {new : ℕ → ℕ → ℕ} {u : ℕ} (W : Walk S bs₀ new u) where
  pub u-small : u < S.most
  u-small = held_small W.held u W.inside

  whole : S.most % 64 ≡ 0
  whole = row-whole (held-good W.held)

  pub came-first : {r : Cursor} → Stands S.most (owns_at S bs₀ u) 0 r → Came S.most ((read S bs₀).owns u) 0 r
  came-first n = came (omega arith) (stands-as whole (λ w l. held-owns W.held u w u-small l) n)

  pub row-starts : {r : Cursor} → Stands S.most (owns_at S bs₀ u) 0 r → RowCounted S (read S bs₀) new u bs₀ r
  row-starts {r} n = walk_start (read S bs₀) W.held.proper new u W.quiet bs₀ r W.held.written (came-first n)

  module _ {bs : List ℕ} {c : Cursor} (k : RowCounted S (read S bs₀) new u bs c) where
    pub w-sized : Sized S bs
    w-sized = counted-sized (read S bs₀) W.held.proper k.counts bs k.is

    pub same_size : length bs ≡ length bs₀
    same_size = w-sized ∙ sym (held-sized W.held)

    pub row_ends : c.rest ≡ 0 → Counted (read S bs₀) new bs
    row_ends z = walk_end (read S bs₀) W.held.proper new u W.quiet bs c z k

    -- a turn, at w
    module _ {w : ℕ} (some : 0 < c.rest) (place : w ≡ place_of c.word c.rest) where
      pub w-reached : w ≡ reached S.most c
      w-reached = place ∙ sym (reached-here S.most c some)

      pub w-owned : T ((read S bs₀).owns u w)
      w-owned = subst (λ (x : ℕ). T ((read S bs₀).owns u x)) (sym place) (k.here some).is

      pub w-small : w < S.most
      w-small = held_small W.held w (W.held.proper.inside u w w-owned).1

      module _ {next : List ℕ} {r : Cursor} (e : Counted (read S bs₀) (upd k.counts w (new w)) next)
          (g : Further S.most (owns_at S next u) c r) where
        pub came-next : Came S.most ((read S bs₀).owns u) (suc w) r
        came-next =
            let same : (x : ℕ) → x < S.most → owns_at S next u x ≡ (read S bs₀).owns u x =
            λ x l. counted-owns (read S bs₀) W.held.proper _ next e u x u-small l in
            let s = further_same whole some (k.here some) (further-as whole same g) in
            came w-small (subst (λ (x : ℕ). Stands S.most ((read S bs₀).owns u) (suc x) r) (sym place) s)

        pub row-goes-on : RowCounted S (read S bs₀) new u next r
        row-goes-on = walk_step (read S bs₀) W.held.proper new u W.quiet bs c k w w-reached next r e came-next

-- a row of counts put in at w
row_at : (f : ℕ → ℕ → ℕ) (w : ℕ) (row : ℕ → ℕ) (j : ℕ) → upd f w row w j ≡ row j
row_at f w row j = ap (λ (h : ℕ → ℕ). h j) (upd_same f w row w refl)

row_kept : (f : ℕ → ℕ → ℕ) (w : ℕ) (row : ℕ → ℕ) (x j : ℕ) → (x ≡ w → row j ≡ f w j) → upd f w row x j ≡ f x j
row_kept f w row x j d = elim (eq? x w) [
  | inl p ↦ ap (λ (h : ℕ → ℕ). h j) (upd_same f w row x p) ∙ d p ∙ ap (λ (y : ℕ). f y j) (sym p)
  | inr p ↦ ap (λ (h : ℕ → ℕ). h j) (upd_other f w row x p)
]

-- ---- counts that are raised at i

pub raised-quiet : (s : State) (i v : ℕ) → Quiet s (raised_counts s i v) v
raised-quiet s i v x j d = raised-no s i v x j (λ t. absurd (d t))

module _ {K : Kind} (s : State) (p : Proper K s) (i v : ℕ) (bs : List ℕ) (c : Cursor) (k : RowCounted K.shape s (raised_counts s i v) v bs c) where
  -- the count that comes next, raised
  pub raised_is : (w : ℕ) (y : ℕ) → w ≡ reached K.shape.most c → w < K.shape.most → i ≤ K.top → T (s.owns v w) → y ≡ phi_at K.shape bs w i
      → y + 1 ≡ raised_counts s i v w i
  raised_is w y at l b t e =
      omega (arith, e, counted-phi s p k.counts bs k.is w i l b, k.left w i (omega arith), raised-yes s i v w i t refl)

  -- one count raised
  pub raised-turn : (w : ℕ) (next : List ℕ) (y : ℕ) → w ≡ reached K.shape.most c → w < K.shape.most → i ≤ K.top → y + 1 ≡ raised_counts s i v w i
      → next ≡ set_phi K.shape bs w i (y + 1) → Counted s (upd k.counts w (raised_counts s i v w)) next
  raised-turn w next y at l b e f =
      let new : ℕ → ℕ = raised_counts s i v w in
      f ∙ ap (λ (x : List ℕ). set_phi K.shape x w i (y + 1)) k.is
      ∙ set_count-proper s p k.counts w i (y + 1) (upd k.counts w new) l b (row_at k.counts w new i ∙ sym e)
      (λ x j d. row_kept k.counts w new x j (λ q. raised-no s i v w j (λ _. d q) ∙ sym (k.left w j (omega arith))))

-- the raised counts of the vertices below m to which v owns an edge are below the threshold
abbrev pub LowTo : ℕ → State → ℕ → ℕ → ℕ → Type 0
LowTo bar s i v m = (w : ℕ) → w < m → T (s.owns v w) → raised_counts s i v w i < bar

module _ {most : ℕ} (bar : ℕ) (s : State) (i v : ℕ) where
  pub low-start : {r : Cursor} → Came most (s.owns v) 0 r → Says true (LowTo bar s i v (reached most r))
  low-start n = says-yes (λ w l t. absurd (n.none w (omega arith) l t))

  -- a vertex more
  module _ {b : Bool} {r : Cursor} (m w : ℕ) (at : w ≡ m) (said : Says b (LowTo bar s i v m)) (n : Came most (s.owns v) (suc w) r) where
    pub low-yes : raised_counts s i v w i < bar → Says b (LowTo bar s i v (reached most r))
    low-yes h =
        says-by
        (λ low x l t. elim (eq? x w) [
          | inl e ↦ subst (λ (y : ℕ). raised_counts s i v y i < bar) (sym e) h
          | inr d ↦ elim (le? x w) [ inl p ↦ low x (omega arith) t | inr p ↦ absurd (n.none x p l t) ]
        ])
        (λ low x l t. low x (omega (arith, n.after)) t) said

    pub low-no : T (s.owns v w) → bar ≤ raised_counts s i v w i → Says false (LowTo bar s i v (reached most r))
    low-no t h = says-no (λ low. omega (arith, low w n.after t))

-- the row is walked
pub low_end : {K : Kind} (bar : ℕ) (s : State) → Proper K s → (i v : ℕ) (c : Cursor) {b : Bool} → c.rest ≡ 0 → Says b (LowTo bar s i v (reached K.shape.most c))
    → Says b ((w : ℕ) → T (s.owns v w) → raised_counts s i v w i < bar)
low_end {K} bar s p i v c z said =
    says-by (λ low w t. low w (omega (arith, reached-end K.shape.most c z, proper-few p, (p.inside v w t).1)) t) (λ low w l t. low w t) said

-- ---- counts that are lowered from the higher of two ranks up to i

-- a vertex to which u owns an edge is below level i, if u's row is that of its neighbours there
pub row_low : (s : State) (i u w : ℕ) → RowBelow i u s → T (s.owns u w) → s.rank w ≤ i
unfolding near
row_low s i u w row t = leb→le _ _ (and_right (edge s u w) (leb (s.rank w) i) (subst T (row w) t))

pub lowered-quiet : (s : State) (i u : ℕ) → Quiet s (lowered_counts s i u) u
lowered-quiet s i u x j d = lowered-no s i u x j (λ t. d (hit-says s i u x j t).owned)

-- the counts of one vertex lowered
pub lowered-turn : {K : Kind} (s : State) → Proper K s → (i u : ℕ) (bs : List ℕ) (c : Cursor) (k : RowCounted K.shape s (lowered_counts s i u) u bs c)
    (w : ℕ) (next : List ℕ) → w ≡ reached K.shape.most c → w < K.shape.most → i ≤ K.top → T (s.owns u w) → (j : ℕ) → s.rank u ≤ j → s.rank w ≤ j
    → ((x : ℕ) → s.rank u ≤ x → s.rank w ≤ x → j ≤ x) → j ≤ i → next ≡ recounted K.shape (step false) bs w j (i + 1 - j)
    → Counted s (upd k.counts w (lowered_counts s i u w)) next
lowered-turn {K} s p i u bs c k w next at l b t j h₁ h₂ least h₃ f =
    let new : ℕ → ℕ = lowered_counts s i u w in
    let old : (x : ℕ) → k.counts w x ≡ phi s w x = λ x. k.left w x (omega arith) in
    f ∙ ap (λ (x : List ℕ). recounted K.shape (step false) x w j (i + 1 - j)) k.is
    ∙ recounted-proper s p k.counts (step false) w j (i + 1 - j) (upd k.counts w new) l (omega arith)
    (λ x p q. row_at k.counts w new x ∙ lowered-yes s i u w x (hit-of s i u w x t (omega arith) (omega arith) (omega arith))
    ∙ ap (λ (z : ℕ). z - 1) (sym (old x)))
    (λ v x d. row_kept k.counts w new v x
    (λ e. lowered-no s i u w x (λ t. let h = hit-says s i u w x t in d e (least x h.from h.seen) (omega (arith, h.upto))) ∙ sym (old x)))
