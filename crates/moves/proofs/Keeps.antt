-- Every step of a move keeps a state proper, and every whole move keeps owners at least as high as the other end. Assumes nothing.
use mathlib.Core.Path.{◌≡◌, refl, sym, ap, ◌∙◌, subst}
use mathlib.Core.Logic.{inl, inr}
use mathlib.Core.Bool.{Bool, true, false, ◌&&◌}
use Prim.Native.Nat.{ℕ, suc, ◌≤◌, ◌<◌}
use native.Mathlib.Omega.{arith}
use lib.Dec.{T, leb, eqb}
use Rattle.model.specs.Counting.{upd}
use Rattle.model.specs.State.{Kind, rules, State, edge, near}
use Rattle.model.specs.Moves.{part, rise, marry, hand_over}
use Rattle.model.specs.Change.{reown}
use Rattle.model.proofs.Tests.{eq?, bool-ext, T_true, and_left}
use Rattle.model.proofs.Lists.{upd_same, upd_other}
use Rattle.theory.proofs.Marks.{marks, setting, near_in}
use Rattle.theory.proofs.Ownership.{out, back, rest, turned, rise-owns, hand-owns, fall-owns}
use Rattle.theory.proofs.Fits.{lift-is}
use Rattle.theory.proofs.Handing.{handed-row}
use Rattle.moves.specs.Proper.{Proper, Ordered, took_over, ranked, RowBelow}
use Rattle.moves.proofs.Held.{proper-top, proper-ranks}
use Rattle.moves.proofs.Edges.{edge_of, near_of, near-edge, near-low, edge-loop, simple, owners, turned-edge, turned-proper}

-- a function changed at a number below n: from n on it is as it was, and its values stay below a bound
upd-past : (f : ℕ → ℕ) (k x n v : ℕ) → k < n → n ≤ v → upd f k x v ≡ f v
upd-past f k x n v h l = upd_other f k x v (omega arith)

upd-low : (f : ℕ → ℕ) (k x m v : ℕ) → x < m → f v < m → upd f k x v < m
upd-low f k x m v h l = elim (eq? v k) [ inl e ↦ omega (arith, upd_same f k x v e) | inr d ↦ omega (arith, upd_other f k x v d) ]

module _ {K : Kind} (s : State) (p : Proper K s) where
  -- other mates below n
  mates-proper : (k x u y : ℕ) → k < s.n → x < s.n → u < s.n → y < s.n
      → Proper K (record { kind = s.kind; n = s.n; rank = s.rank; mate = upd (upd s.mate k x) u y; owns = s.owns })
  mates-proper k x u y a b c d = record {
    kind = p.kind;
    good = p.good;
    range = p.range;
    few = p.few;
    inside = p.inside;
    past-rank = p.past-rank;
    past-mate = λ v l. upd-past (upd s.mate k x) u y s.n v c l ∙ upd-past s.mate k x s.n v a l ∙ p.past-mate v l;
    ranks = p.ranks;
    mates = λ v l. upd-low (upd s.mate k x) u y s.n v d (upd-low s.mate k x s.n v b (p.mates v l));
    no_loop = p.no_loop;
    owned-once = p.owned-once;
  }

  pub part-proper : (v : ℕ) → v < s.n → Proper K (part v s)
  unfolding part
  part-proper v l = mates-proper (s.mate v) (s.mate v) v v (p.mates v l) (p.mates v l) l l

  pub marry-proper : (u y : ℕ) → u < s.n → y < s.n → Proper K (marry u y s)
  unfolding marry
  marry-proper u y l k = mates-proper u y y u l k k l

  pub took-proper : (i u : ℕ) → u < s.n → Proper K (took_over i u s)
  unfolding took_over
  took-proper i u l = turned-proper s p u (near s u i) true (near-edge s u i)

  -- the edges that a vertex hands on are edges
  handed-edge : (i v w : ℕ) → T (s.owns v w && eqb (s.rank w) (suc i)) → T (edge s v w)
  handed-edge i v w t = edge_of s v w (and_left (s.owns v w) _ t)

  pub hand-proper : (i v : ℕ) → v < s.n → Proper K (hand_over i v s)
  unfolding hand_over reown
  hand-proper i v l = turned-proper s p v (λ w. s.owns v w && eqb (s.rank w) (suc i)) false (handed-edge i v)

  pub ranked-proper : (v x : ℕ) → v < s.n → x ≤ suc K.top → Proper K (ranked v x s)
  unfolding ranked
  ranked-proper v x l k = record {
    kind = p.kind;
    good = p.good;
    range = p.range;
    few = p.few;
    inside = p.inside;
    past-rank = λ w h. upd-past s.rank v x s.n w l h ∙ p.past-rank w h;
    past-mate = p.past-mate;
    ranks = λ w. let h : upd s.rank v x w < suc (suc K.top) =
        upd-low s.rank v x (suc (suc K.top)) w (omega arith) (omega (arith, proper-ranks p w)) in omega (arith, proper-top p);
    mates = p.mates;
    no_loop = p.no_loop;
    owned-once = p.owned-once;
  }

  -- a rise is its two halves
  pub rise-halves : (i u : ℕ) → ranked u (suc i) (took_over i u s) ≡ rise i u s
  unfolding ranked took_over reown rise
  rise-halves i u = refl

  -- the edges stay
  pub took-edge : (i u v w : ℕ) → edge (took_over i u s) v w ≡ edge s v w
  unfolding took_over
  took-edge i u v w = turned-edge s p u (near s u i) true (near-edge s u i) v w

  pub hand-edge : (i x v w : ℕ) → edge (hand_over i x s) v w ≡ edge s v w
  unfolding hand_over reown
  hand-edge i x v w = turned-edge s p x (λ y. s.owns x y && eqb (s.rank y) (suc i)) false (handed-edge i x) v w

  -- after the first half of a rise, u owns exactly the edges to its neighbours below the level
  pub took-row : (i u : ℕ) → ((w : ℕ) → T (s.owns u w) → s.rank w ≤ i) → RowBelow i u (took_over i u s)
  unfolding took_over reown near
  took-row i u low w =
      let same : near (took_over i u s) u i w ≡ near s u i w = ap (λ (b : Bool). b && leb (s.rank w) i) (took-edge i u u w) in
      elim (turned u (near s u i) true s.owns u w) [
        | out e t q ↦ q ∙ sym (same ∙ T_true t)
        | back e t q ↦ absurd (edge-loop s p u (near-edge s u i u t))
        | rest e t q ↦ q ∙ bool-ext (s.owns u w) (near s u i w) (λ o. near_of s u i w (edge_of s u w o) (low w o)) (λ h. absurd (e refl h))
            ∙ sym same
      ]

  -- and so does a vertex at level i that has handed its edges of that level on
  pub hand-row : (i v : ℕ) → Ordered s → s.rank v ≡ suc i → RowBelow i v (hand_over i v s)
  hand-row i v o e = handed-row (setting (rules s.kind) s) (simple s p) i v s (record { kind = refl; size = refl; owners = owners s p o }) e

  -- where a vertex goes to another rank, its own neighbours are as they were
  pub ranked-near : (v x j w : ℕ) → near (ranked v x s) v j w ≡ near s v j w
  unfolding ranked near edge
  ranked-near v x j w = elim (eq? w v) [
    | inl e ↦ subst (λ (y : ℕ). near (ranked v x s) v j y ≡ near s v j y) (sym e)
        (bool-ext (near (ranked v x s) v j v) (near s v j v)
        (λ t. absurd (edge-loop s p v (near-edge (ranked v x s) v j v t))) (λ t. absurd (edge-loop s p v (near-edge s v j v t))))
    | inr d ↦ ap (λ (r : ℕ). edge s v w && leb r j) (upd_other s.rank v x w d)
  ]

  -- a row that holds the neighbours below a level stays so when its own vertex goes to another rank
  pub ranked-row : (i v x : ℕ) → RowBelow i v s → RowBelow i v (ranked v x s)
  unfolding ranked
  ranked-row i v x f w = f w ∙ sym (ranked-near v x i w)

  pub rise-ordered : (i u : ℕ) → Ordered s → s.rank u ≤ i → Ordered (rise i u s)
  unfolding rise part near near_in
  rise-ordered i u o l = (rise-owns (setting (rules s.kind) s) (simple s p) s.owns (owners s p o) (lift-is i u s) l).high

  pub hand-ordered : (i v : ℕ) → Ordered s → s.rank v ≡ suc i → Ordered (hand_over i v s)
  unfolding hand_over
  hand-ordered i v o e = (hand-owns (setting (rules s.kind) s) (simple s p) s.owns (owners s p o) e).high

  -- a fall of a vertex that owns edges to lower vertices alone
  pub fall-ordered : (i v : ℕ) → Ordered s → s.rank v ≡ suc i → RowBelow i v s → Ordered (ranked v i s)
  unfolding ranked
  fall-ordered i v o e f =
      (fall-owns (edge s) s.owns {s' = marks (ranked v i s)} (owners s p o) (record {
        rank-v = upd_same s.rank v i v refl;
        rank-o = λ x d. upd_other s.rank v i x d;
        mate-o = λ x. refl;
      }) e (λ w t. omega (arith, near-low s v i w (subst T (f w) t)))).high

pub rise-proper : {K : Kind} (s : State) → Proper K s → (i u : ℕ) → u < s.n → i ≤ K.top → Proper K (rise i u s)
unfolding took_over reown
rise-proper {K} s p i u l k =
    subst (Proper K) (rise-halves s p i u) (ranked-proper (took_over i u s) (took-proper s p i u l) u (suc i) l (omega arith))
