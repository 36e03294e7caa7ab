-- A run with its words and one with more: they are the same, or both have used more words than were lent. For whole changes: proofs/Unused.antt.
-- Assumes nothing.
use mathlib.Core.Path.{◌≡◌, refl, sym, ap, subst, ◌∙◌}
use mathlib.Core.Logic.{◌⊎◌, inl, inr}
use mathlib.Core.Bool.{Bool, true, false}
use mathlib.Core.List.{List, [], ◌∷◌, ◌++◌}
use Prim.Native.Nat.{ℕ, zero, suc, ◌*◌, ◌-◌, ◌%◌, ◌≤◌, ◌<◌}
use native.Mathlib.Omega.{arith}
use lib.Dec.{leb}
use lib.ListN.{length, get_or, drop, length-drop}
use lib.Seq.{drop-append-le}
use Rattle.model.specs.Counting.{listed}
use Rattle.model.specs.State.{Rules, State, near, below}
use Rattle.model.specs.Words.{chooses, passed, deciding, place}
use Rattle.model.specs.Moves.{Run, Found, none, found, chosen, spent, drawn, draw, lifted, promote, handed, fall, due, scan, scan_from, take, pick, settle_in, settle}
use Rattle.model.specs.Change.{start, start_parted, add_edge, without_edge, reown, riser, add, drop as drop_edge}
use Rattle.model.proofs.Tests.{holds?, T_true, T_false, eq?, eqb_yes, eqb_no}
use Rattle.model.proofs.Lists.{listed-length}

module _ (words e : List ℕ) where
  -- Lists with e put after them.
  get_d-onto : (l : List ℕ) (j : ℕ) → j < length l → get_or (l ++ e) j 0 ≡ get_or l j 0
  get_d-onto [] j h = absurd (omega arith)
  get_d-onto (x ∷ l) zero h = refl
  get_d-onto (x ∷ l) (suc j) h = get_d-onto l j (omega arith)

  passed-onto : (k : ℕ) (l : List ℕ)
      → ((passed k l < length l) × (passed k (l ++ e) ≡ passed k l)) ⊎ ((length l ≤ passed k l) × (length l ≤ passed k (l ++ e)))
  unfolding passed
  passed-onto k [] = inr (omega arith, omega arith)
  passed-onto k (w ∷ l) = elim (holds? (chooses k w)) [
    | inl t ↦ rw (T_true {b = chooses k w} t, passed) (inl (omega arith, refl))
    | inr t ↦ rw (T_false {b = chooses k w} t, passed) (elim (passed-onto k l) [
      | inl a ↦ inl (omega (arith, a.0), ap suc a.1)
      | inr a ↦ inr (omega (arith, a.0), omega (arith, a.1))
    ])
  ]

  deciding-onto : (used k : ℕ) → used ≤ length words
      → ((deciding words used k < length words) × (deciding (words ++ e) used k ≡ deciding words used k))
      ⊎ ((length words ≤ deciding words used k) × (length words ≤ deciding (words ++ e) used k))
  unfolding deciding
  deciding-onto used k h =
      let n : length (drop used words) ≡ length words - used = length-drop used words in
      let d : passed k (drop used (words ++ e)) ≡ passed k (drop used words ++ e) = ap (passed k) (drop-append-le used words e h) in
      elim (passed-onto k (drop used words)) [
        | inl a ↦ inl (omega (arith, a.0, n), omega (arith, a.1, d))
        | inr a ↦ inr (omega (arith, a.0, n), omega (arith, a.1, d, n))
      ]

  -- Two runs, one with the words and one with more: they are the same, or both have used more than there were.
  unfoldable pub Agree : Run → Run → Type 0
  Agree r r' = ((r' ≡ r) × (r.draws ≤ length words)) ⊎ ((length words < r.draws) × (length words < r'.draws))

  pub record Follows (F G : Run → Run) : Type 0 where
    pub more : (r : Run) → r.draws ≤ (F r).draws
    pub more' : (r : Run) → r.draws ≤ (G r).draws
    pub alike : (r : Run) → r.draws ≤ length words → Agree (F r) (G r)

  -- a move that looks at no word
  plain : (F : Run → Run) → ((r : Run) → (F r).draws ≡ r.draws) → Follows F F
  unfolding Agree
  plain F h = record { more = λ r. omega (arith, h r); more' = λ r. omega (arith, h r); alike = λ r l. inl (refl, omega (arith, h r)) }

  -- one after the other
  and_then : {F F' G G' : Run → Run} → Follows F F' → Follows G G' → Follows (λ r. G (F r)) (λ r. G' (F' r))
  unfolding Agree
  and_then {F} {F'} {G} {G'} f g = record {
    more = λ r. omega (arith, f.more r, g.more (F r));
    more' = λ r. omega (arith, f.more' r, g.more' (F' r));
    alike = λ r l. elim (f.alike r l) [
      | inl a ↦ subst (λ (x : Run). Agree (G (F r)) (G' x)) (sym a.0) (g.alike (F r) a.1)
      | inr a ↦ inr (omega (arith, a.0, g.more (F r)), omega (arith, a.1, g.more' (F' r)))
    ];
  }

  -- by a test of the run
  choice : (b : Run → Bool) {F F' G G' : Run → Run} → Follows F F' → Follows G G'
      → Follows (λ r. elim (b r) [ true ↦ F r | false ↦ G r ]) (λ r. elim (b r) [ true ↦ F' r | false ↦ G' r ])
  choice b {F} {F'} {G} {G'} f g = record { more = λ r. m r (b r); more' = λ r. m' r (b r); alike = λ r l. a r l (b r) }
    where
      m : (r : Run) (x : Bool) → r.draws ≤ (elim x as (λ y. Run) [ true ↦ F r | false ↦ G r ]).draws
      m r true = f.more r
      m r false = g.more r

      m' : (r : Run) (x : Bool) → r.draws ≤ (elim x as (λ y. Run) [ true ↦ F' r | false ↦ G' r ]).draws
      m' r true = f.more' r
      m' r false = g.more' r

      a : (r : Run) → r.draws ≤ length words → (x : Bool)
          → Agree (elim x [ true ↦ F r | false ↦ G r ]) (elim x [ true ↦ F' r | false ↦ G' r ])
      a r l true = f.alike r l
      a r l false = g.alike r l

  -- A draw.
  spent-by : (ws : List ℕ) (i u : ℕ) (r : Run)
      → spent ws i u r ≡ suc (deciding ws r.draws (length (listed (near r.state u i) r.state.n)))
  unfolding spent below
  spent-by ws i u r = ap (λ (x : ℕ). suc (deciding ws r.draws x)) (sym (listed-length (near r.state u i) r.state.n))

  grows : (ws : List ℕ) (i u : ℕ) (r : Run) → r.draws ≤ (draw ws i u r).draws
  unfolding draw drawn spent deciding
  grows ws i u r = omega arith

  place-onto : (used k : ℕ) → deciding words used k < length words → deciding (words ++ e) used k ≡ deciding words used k
      → place (words ++ e) used k ≡ place words used k
  unfolding place
  place-onto used k h p =
      ap (λ (x : ℕ). get_or (words ++ e) x 0 % k) p ∙ ap (λ (x : ℕ). x % k) (get_d-onto words (deciding words used k) h)

  chosen-onto : (i u : ℕ) (r : Run) → deciding words r.draws (length (listed (near r.state u i) r.state.n)) < length words
      → deciding (words ++ e) r.draws (length (listed (near r.state u i) r.state.n))
      ≡ deciding words r.draws (length (listed (near r.state u i) r.state.n))
      → chosen (words ++ e) i u r ≡ chosen words i u r
  unfolding chosen
  chosen-onto i u r h p =
      ap (λ (x : ℕ). get_or (listed (near r.state u i) r.state.n) x 0)
      (place-onto r.draws (length (listed (near r.state u i) r.state.n)) h p)

  draw-alike : (i u : ℕ) (r : Run) → r.draws ≤ length words → Agree (draw words i u r) (draw (words ++ e) i u r)
  unfolding Agree draw drawn
  draw-alike i u r h =
      let l : List ℕ = listed (near r.state u i) r.state.n in
      elim (deciding-onto r.draws (length l) h) [
        | inl a ↦
            let c : chosen (words ++ e) i u r ≡ chosen words i u r = chosen-onto i u r a.0 a.1 in
            let s : spent (words ++ e) i u r ≡ spent words i u r =
            spent-by (words ++ e) i u r ∙ ap suc a.1 ∙ sym (spent-by words i u r) in
            inl ((λ k. drawn i u (c k) (s k) r), omega (arith, spent-by words i u r, a.0))
        | inr a ↦ inr (omega (arith, spent-by words i u r, a.0), omega (arith, spent-by (words ++ e) i u r, a.1))
      ]

  draw-follows : (i u : ℕ) → Follows (draw words i u) (draw (words ++ e) i u)
  draw-follows i u = record { more = grows words i u; more' = grows (words ++ e) i u; alike = draw-alike i u }

  promote-follows : (i u : ℕ) → Follows (promote words i u) (promote (words ++ e) i u)
  unfolding promote
  promote-follows i u = and_then (plain (lifted i u) (λ r. refl)) (draw-follows i u)

  -- A scan, a taking and the settling.
  module _ (R : Rules) where
    scan-follows : (i : ℕ) (Q : List ℕ) → Follows (scan R words i Q) (scan R (words ++ e) i Q)
    unfolding scan
    scan-follows i [] = plain (λ r. r) (λ r. refl)
    scan-follows i (w ∷ Q) = choice (λ r. due R i w r.state) (and_then (promote-follows i w) (scan-follows i Q)) (scan-follows i Q)

    scan_from-follows : (i v : ℕ) → Follows (scan_from R words i v) (scan_from R (words ++ e) i v)
    unfolding scan_from
    scan_from-follows i v = record {
      more = λ r. (scan-follows i (listed (r.state.owns v) r.state.n)).more r;
      more' = λ r. (scan-follows i (listed (r.state.owns v) r.state.n)).more' r;
      alike = λ r. (scan-follows i (listed (r.state.owns v) r.state.n)).alike r;
    }

    fall-follows : (i v : ℕ) → Follows (fall i v) (fall i v)
    unfolding fall
    fall-follows i v = plain (fall i v) (λ r. refl)

    take-follows : (i v : ℕ) → Follows (take R words i v) (take R (words ++ e) i v)
    unfolding take
    take-follows i v =
        and_then (plain (handed i v) (λ r. refl))
        (choice (λ q. leb (R.thr i) (below q.state v i)) (draw-follows i v) (and_then (fall-follows i v) (scan_from-follows i v)))

    settle_in-follows : (fuel : ℕ) → Follows (settle_in R words fuel) (settle_in R (words ++ e) fuel)
    unfolding settle_in
    settle_in-follows zero = plain (λ r. r) (λ r. refl)
    settle_in-follows (suc fuel) = go (λ i v. and_then (take-follows i v) (settle_in-follows fuel))
      where
        go : ((i v : ℕ) → Follows (λ r. settle_in R words fuel (take R words i v r)) (λ r. settle_in R (words ++ e) fuel (take R (words ++ e) i v r)))
            → Follows
            (λ r. elim (pick (suc R.top) r.queues) [ none ↦ r | found i v ↦ settle_in R words fuel (take R words i v r) ])
            (λ r. elim (pick (suc R.top) r.queues) [ none ↦ r | found i v ↦ settle_in R (words ++ e) fuel (take R (words ++ e) i v r) ])
        go f = record {
          more = λ r. m r (pick (suc R.top) r.queues);
          more' = λ r. m' r (pick (suc R.top) r.queues);
          alike = λ r l. a r l (pick (suc R.top) r.queues);
        }
          where
            m : (r : Run) (x : Found) → r.draws ≤ (elim x as (λ y. Run) [ none ↦ r | found i v ↦ settle_in R words fuel (take R words i v r) ]).draws
            m r none = omega arith
            m r (found i v) = (f i v).more r

            m' : (r : Run) (x : Found)
                → r.draws ≤ (elim x as (λ y. Run) [ none ↦ r | found i v ↦ settle_in R (words ++ e) fuel (take R (words ++ e) i v r) ]).draws
            m' r none = omega arith
            m' r (found i v) = (f i v).more' r

            a : (r : Run) → r.draws ≤ length words → (x : Found)
                → Agree (elim x [ none ↦ r | found i v ↦ settle_in R words fuel (take R words i v r) ])
                (elim x [ none ↦ r | found i v ↦ settle_in R (words ++ e) fuel (take R (words ++ e) i v r) ])
            a r l none = unfold Agree in inl (refl, l)
            a r l (found i v) = (f i v).alike r l

    settle-follows : Follows (settle R words) (settle R (words ++ e))
    unfolding settle
    settle-follows = record {
      more = λ r. (settle_in-follows (r.state.n * suc R.top)).more r;
      more' = λ r. (settle_in-follows (r.state.n * suc R.top)).more' r;
      alike = λ r. (settle_in-follows (r.state.n * suc R.top)).alike r;
    }

    -- an add and a drop
    pub add-agree : (a b : ℕ) (s : State) → Agree (add R words a b s) (add R (words ++ e) a b s)
    unfolding add Agree
    add-agree a b s = go (riser R a b (suc R.top) (add_edge a b s))
      where
        go : (x : Found) → Agree
            (elim x [ none ↦ start (add_edge a b s) | found i u ↦ settle R words (promote words i u (start (add_edge a b s))) ])
            (elim x [ none ↦ start (add_edge a b s) | found i u ↦ settle R (words ++ e) (promote (words ++ e) i u (start (add_edge a b s))) ])
        go none = unfold Agree start in inl (refl, omega arith)
        go (found i u) = unfold start in (and_then (promote-follows i u) settle-follows).alike (start (add_edge a b s)) (omega arith)

    pub drop-agree : (a b : ℕ) (s : State) → Agree (drop_edge R words a b s) (drop_edge R (words ++ e) a b s)
    unfolding drop_edge Agree
    drop-agree a b s = elim (eq? (s.mate a) b) [
      | inl p ↦ rw (eqb_yes (s.mate a) b p, drop_edge) (unfold start_parted in settle-follows.alike (start_parted a b (reown s (without_edge s.owns a b))) (omega arith))
      | inr p ↦ rw (eqb_no (s.mate a) b p, drop_edge) (unfold start Agree in inl (refl, omega arith))
    ]
