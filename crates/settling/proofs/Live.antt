-- The scan goes along v's row as it stands, while the moves change it. Whoever leaves the row stands too high for its turn, and nobody comes
-- in, so that the walk meets every vertex of the first row that is due. Assumes nothing.
use mathlib.Core.Path.{◌≡◌, sym, ap, ◌∙◌, subst}
use mathlib.Core.Logic.{◌≢◌, inl, inr}
use mathlib.Core.Bool.{Bool, true}
use mathlib.Core.List.{List}
use Prim.Native.Nat.{ℕ, zero, suc, ◌≤◌, ◌<◌}
use native.Mathlib.Omega.{arith}
use lib.Dec.{T}
use Rattle.model.specs.State.{rules, Kind, State, edge, near, below}
use Rattle.model.specs.Moves.{Run, lifted, part, rise, marry, chosen, drawn, draw, promote, due}
use Rattle.model.proofs.Tests.{eq?, holds?, true-T}
use Rattle.model.proofs.Lists.{upd_same, upd_other}
use Rattle.theory.proofs.Loops.{scan_upto}
use Rattle.theory.proofs.Ownership.{out, back, rest, turned}
use Rattle.moves.specs.Proper.{Proper, Ordered, RowBelow}
use Rattle.moves.proofs.Held.{proper-pos}
use Rattle.moves.proofs.Edges.{edge_of, near_of, near-edge, near-low}
use Rattle.settling.specs.Settling.{visited}
use Rattle.settling.proofs.Steps.{SameEdges, part-kept, rise-edge, lift-kept, lift-below, near-inside, chosen-near, due-low}
use Rattle.settling.proofs.News.{visited-yes, visited-no, upto-none, upto-yes, upto-no}
use Rattle.settling.proofs.Kept.{upto-kept}

-- v's row holds its neighbours below level i, and none but those of the first row, p
pub record Live (i v : ℕ) (p : ℕ → Bool) (t : State) : Type 0 where
  pub near : (x : ℕ) → T (near t v i x) → T (t.owns v x)
  pub from : (x : ℕ) → T (t.owns v x) → T (p x)

module _ (i v : ℕ) (p : ℕ → Bool) where
  live-part : (x : ℕ) (t : State) → Live i v p t → Live i v p (part x t)
  unfolding part near edge
  live-part x t h = record { near = h.near; from = h.from }

  live-marry : (x y : ℕ) (t : State) → Live i v p t → Live i v p (marry x y t)
  unfolding marry near edge
  live-marry x y t h = record { near = h.near; from = h.from }

  -- a vertex that rises is no longer near; v itself takes only edges to vertices that were in its row
  live-rise : {K : Kind} (x : ℕ) (t : State) → Proper K t → Ordered t → Live i v p t → Live i v p (rise i x t)
  unfolding rise
  live-rise x t q o h = record {
    near = λ y b.
        let l : (rise i x t).rank y ≤ i = near-low (rise i x t) v i y b in
        let d : y ≢ x = λ e. omega (arith, upd_same t.rank x (suc i) y e) in
        let n : T (near t v i y) =
        near_of t v i y (subst T (rise-edge t q i x v y) (near-edge (rise i x t) v i y b)) (omega (arith, upd_other t.rank x (suc i) y d)) in
        elim (turned x (near t x i) true t.owns v y) [
          | out e k g ↦ true-T g
          | back e k g ↦ absurd (d e)
          | rest e k g ↦ subst T (sym g) (h.near y n)
        ];
    from = λ y b. elim (turned x (near t x i) true t.owns v y) [
      | out e k g ↦ h.from y (h.near y (subst (λ (z : ℕ). T (near t z i y)) (sym e) k))
      | back e k g ↦ absurd (subst T g b)
      | rest e k g ↦ h.from y (subst T g b)
    ];
  }

  live-lift : {K : Kind} (x : ℕ) (t : State) → Proper K t → Ordered t → x < t.n → Live i v p t → Live i v p (rise i x (part x t))
  live-lift {K} x t q o l h = let a : SameEdges K t (part x t) = part-kept t q o x l in live-rise x (part x t) a.proper a.ordered (live-part x t h)

  live-draw : {K : Kind} (words : List ℕ) (u : ℕ) (r : Run) → Proper K r.state → Ordered r.state → 1 ≤ below r.state u i → Live i v p r.state
      → Live i v p (draw words i u r).state
  unfolding draw drawn
  live-draw words u r q o b h =
      let y : ℕ = chosen words i u r in
      live-marry u y (rise i y (part y r.state))
      (live-lift y r.state q o (near-inside r.state q u i y (chosen-near words i u r b)) h)

  live-promote : {K : Kind} (words : List ℕ) (u : ℕ) (r : Run) → Proper K r.state → Ordered r.state → u < r.state.n → i ≤ K.top
      → r.state.rank u ≤ i → 1 ≤ below r.state u i → Live i v p r.state → Live i v p (promote words i u r).state
  unfolding promote
  live-promote {K} words u r q o l k m b h =
      let s : State = r.state in
      let a : SameEdges K s (rise i u (part u s)) = lift-kept s q o i u l m k in
      live-draw words u (lifted i u r) a.proper a.ordered (omega (arith, lift-below s q o i u l)) (live-lift u s q o l h)

  live-visited : {K : Kind} (words : List ℕ) (w : ℕ) (r : Run) → Proper K r.state → Ordered r.state → w < r.state.n → i ≤ K.top
      → Live i v p r.state → Live i v p (visited (rules K) words i w r).state
  live-visited {K} words w r q o l k h = elim (holds? (due (rules K) i w r.state)) [
    | inl t ↦ rw (visited-yes (rules K) words i w r t)
        (live-promote words w r q o l k (due-low (rules K) (proper-pos q) i w r.state t).0 (due-low (rules K) (proper-pos q) i w r.state t).1 h)
    | inr t ↦ rw (visited-no (rules K) words i w r t) h
  ]

-- The scan from a run whose row of v holds exactly v's neighbours below level i.
module _ {K : Kind} (words : List ℕ) (i v : ℕ) (r : Run) (q : Proper K r.state) (o : Ordered r.state) (k : i ≤ K.top) (f : RowBelow i v r.state) where
  pub scanned-kept : (m : ℕ) → SameEdges K r.state (scan_upto (rules K) words i (r.state.owns v) m r).state
  scanned-kept m = upto-kept words i (r.state.owns v) r q o k (λ w t. (q.inside v w t).1) m

  pub scanned-live : (m : ℕ) → Live i v (r.state.owns v) (scan_upto (rules K) words i (r.state.owns v) m r).state
  scanned-live zero =
      rw (upto-none (rules K) words i (r.state.owns v) r) (record { near = λ x t. subst T (sym (f x)) t; from = λ x t. t })
  scanned-live (suc m) =
      let p : ℕ → Bool = r.state.owns v in
      let a : SameEdges K r.state (scan_upto (rules K) words i p m r).state = scanned-kept m in
      elim (holds? (p m)) [
        | inl t ↦ rw (upto-yes (rules K) words i p m r t)
            (live-visited i v p words m (scan_upto (rules K) words i p m r) a.proper a.ordered (omega (arith, a.size, (q.inside v m t).1)) k (scanned-live m))
        | inr t ↦ rw (upto-no (rules K) words i p m r t) (scanned-live m)
      ]

  -- the row only loses vertices
  pub scanned-less : (m x : ℕ) → T ((scan_upto (rules K) words i (r.state.owns v) (suc m) r).state.owns v x)
      → T ((scan_upto (rules K) words i (r.state.owns v) m r).state.owns v x)
  scanned-less m x t =
      let p : ℕ → Bool = r.state.owns v in
      let u : Run = scan_upto (rules K) words i p m r in
      let a : SameEdges K r.state u.state = scanned-kept m in
      elim (holds? (p m)) [
        | inl h ↦ (live-visited i v (u.state.owns v) words m u a.proper a.ordered (omega (arith, a.size, (q.inside v m h).1)) k
            (record { near = (scanned-live m).near; from = λ y b. b })).from x
            (subst (λ (z : Run). T (z.state.owns v x)) (upto-yes (rules K) words i p m r h) t)
        | inr h ↦ subst (λ (z : Run). T (z.state.owns v x)) (upto-no (rules K) words i p m r h) t
      ]

  -- a vertex of the first row that is in the row no longer is not due
  passed : (m x : ℕ) → T (r.state.owns v x) → (T ((scan_upto (rules K) words i (r.state.owns v) m r).state.owns v x) → ⊥)
      → T (due (rules K) i x (scan_upto (rules K) words i (r.state.owns v) m r).state) → ⊥
  passed m x t g d =
      let s : State = (scan_upto (rules K) words i (r.state.owns v) m r).state in
      g ((scanned-live m).near x (near_of s v i x (subst T (sym ((scanned-kept m).edges v x)) (edge_of r.state v x t)) (due-low (rules K) (proper-pos q) i x s d).0))

  -- so where the row has none from m on and below j, the scan has nothing to do there
  pub scanned-over : (m j : ℕ) → m ≤ j → ((x : ℕ) → m ≤ x → x < j → T ((scan_upto (rules K) words i (r.state.owns v) m r).state.owns v x) → ⊥)
      → scan_upto (rules K) words i (r.state.owns v) j r ≡ scan_upto (rules K) words i (r.state.owns v) m r
  scanned-over m zero l g = ap (λ (x : ℕ). scan_upto (rules K) words i (r.state.owns v) x r) (omega arith)
  scanned-over m (suc j) l g = elim (eq? m (suc j)) [
    | inl e ↦ ap (λ (x : ℕ). scan_upto (rules K) words i (r.state.owns v) x r) (sym e)
    | inr e ↦
        let p : ℕ → Bool = r.state.owns v in
        let c : scan_upto (rules K) words i p j r ≡ scan_upto (rules K) words i p m r = scanned-over m j (omega arith) (λ x a b. g x a (omega arith)) in
        elim (holds? (p j)) [
          | inl t ↦ upto-yes (rules K) words i p j r t ∙ ap (visited (rules K) words i j) c
              ∙ visited-no (rules K) words i j (scan_upto (rules K) words i p m r) (passed m j t (g j (omega arith) (omega arith)))
          | inr t ↦ upto-no (rules K) words i p j r t ∙ c
        ]
  ]
