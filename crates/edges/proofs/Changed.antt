-- The states that an add and a drop leave: proper again, and apart from the state before by the one edge. Assumes nothing.
use mathlib.Core.Path.{◌≡◌, refl, sym, ◌∙◌, subst}
use mathlib.Core.Logic.{◌≢◌, ◌⊎◌, inl, inr}
use mathlib.Core.Bool.{true, false, ◌&&◌}
use Prim.Native.Nat.{ℕ, ◌≤◌, ◌<◌}
use native.Mathlib.Omega.{arith}
use lib.Dec.{T, eqb, eqb→eq, not_T, T_not}
use Rattle.model.specs.State.{Kind, State, edge}
use Rattle.model.specs.Change.{is_edge, without_edge, reown, owning, add_edge}
use Rattle.model.proofs.Tests.{le?, holds?, bool-ext, T_true, T_false, true-T, eqb_yes, leb_yes, leb_no, and_intro, and_left, and_right, or_cases, or_left, or_right}
use Rattle.theory.proofs.EdgeSets.{edge-is, is-edge}
use Rattle.moves.specs.Proper.{Proper}
use Rattle.moves.proofs.Edges.{edge-cases, edge_of, edge-back, edge-turn}
use Rattle.edges.proofs.Joined.{EdgeMore, joined-turn}

-- ---- the edge o-e, which o owns

module _ (o e : ℕ) (s : State) where
  owning-cases : (v w : ℕ) → T ((owning o e s).owns v w) → T (s.owns v w) ⊎ ((v ≡ o) × (w ≡ e))
  unfolding owning reown
  owning-cases v w t = elim (or_cases (s.owns v w) (eqb v o && eqb w e) t) [
    | inl h ↦ inl h
    | inr h ↦ inr (eqb→eq v o (and_left (eqb v o) _ h), eqb→eq w e (and_right (eqb v o) _ h))
  ]

  owning-old : (v w : ℕ) → T (s.owns v w) → T ((owning o e s).owns v w)
  unfolding owning reown
  owning-old v w t = or_left (s.owns v w) _ t

  owning-here : T ((owning o e s).owns o e)
  unfolding owning reown
  owning-here =
      or_right (s.owns o e) _ (and_intro (eqb o o) (eqb e e) (true-T (eqb_yes o o refl)) (true-T (eqb_yes e e refl)))

  -- its owners are those of s, but for the one bit
  pub owning-bit : (owning o e s).owns o e ≡ true
  owning-bit = T_true owning-here

  pub owning-rest : (v w : ℕ) → (v ≡ o → w ≢ e) → (owning o e s).owns v w ≡ s.owns v w
  owning-rest v w d =
      bool-ext ((owning o e s).owns v w) (s.owns v w)
      (λ t. elim (owning-cases v w t) [ inl h ↦ h | inr h ↦ absurd (d h.0 h.1) ]) (owning-old v w)

  module _ (apart : o ≢ e) (inside : (o < s.n) × (e < s.n)) (absent : T (edge s o e) → ⊥) where
    owning-proper : {K : Kind} → Proper K s → Proper K (owning o e s)
    unfolding owning reown
    owning-proper p = record {
      kind = p.kind;
      good = p.good;
      range = p.range;
      few = p.few;
      inside = λ v w t. elim (owning-cases v w t) [
        | inl h ↦ p.inside v w h
        | inr h ↦ (omega (arith, h.0, inside.0), omega (arith, h.1, inside.1))
      ];
      past-rank = p.past-rank;
      past-mate = p.past-mate;
      ranks = p.ranks;
      mates = p.mates;
      no_loop = λ v t. elim (owning-cases v v t) [ inl h ↦ p.no_loop v h | inr h ↦ apart (sym h.0 ∙ h.1) ];
      owned-once = λ v w t u. elim (owning-cases v w t) [
        | inl h ↦ elim (owning-cases w v u) [
          | inl k ↦ p.owned-once v w h k
          | inr k ↦ absent (edge-back s o e (back-owned v w h k.1 k.0))
        ]
        | inr h ↦ elim (owning-cases w v u) [
          | inl k ↦ absent (edge-back s o e (back-owned w v k h.1 h.0))
          | inr k ↦ apart (sym h.0 ∙ k.1)
        ]
      ];
    }
      where
        back-owned : (v w : ℕ) → T (s.owns v w) → v ≡ e → w ≡ o → T (s.owns e o)
        back-owned v w t f g = subst (λ (x : ℕ). T (s.owns x o)) f (subst (λ (x : ℕ). T (s.owns v x)) g t)

    owning-joined : EdgeMore o e s (owning o e s)
    unfolding owning reown
    owning-joined = record {
      size = refl;
      rank = λ v. refl;
      added = record {
        old = λ v w t. elim (edge-cases s v w t) [
          | inl h ↦ edge_of (owning o e s) v w (owning-old v w h)
          | inr h ↦ edge-back (owning o e s) v w (owning-old w v h)
        ];
        new = λ v w t. elim (edge-cases (owning o e s) v w t) [
          | inl h ↦ elim (owning-cases v w h) [ inl k ↦ inl (edge_of s v w k) | inr k ↦ inr (inl k) ]
          | inr h ↦ elim (owning-cases w v h) [ inl k ↦ inl (edge-back s v w k) | inr k ↦ inr (inr (k.1, k.0)) ]
        ];
      };
      there = edge_of (owning o e s) o e owning-here;
      absent = absent;
      apart = apart;
      inside = inside;
    }

-- ---- an add: the owner is the end of higher rank, on equal ranks a

pub add-high : (a b : ℕ) (s : State) → s.rank b ≤ s.rank a → add_edge a b s ≡ owning a b s
unfolding add_edge
add-high a b s h = rw (leb_yes (s.rank b) (s.rank a) h, add_edge) refl

pub add_low : (a b : ℕ) (s : State) → s.rank a < s.rank b → add_edge a b s ≡ owning b a s
unfolding add_edge
add_low a b s h = rw (leb_no (s.rank b) (s.rank a) h, add_edge) refl

-- what holds of both choices holds of the state that an add leaves
add-either : (P : State → Type 0) (a b : ℕ) (s : State) → P (owning a b s) → P (owning b a s) → P (add_edge a b s)
add-either P a b s x y = elim (le? (s.rank b) (s.rank a)) [
  | inl h ↦ subst P (sym (add-high a b s h)) x
  | inr h ↦ subst P (sym (add_low a b s h)) y
]

module _ (a b : ℕ) (s : State) where
  pub add-kind : (add_edge a b s).kind ≡ s.kind
  unfolding owning reown
  add-kind = add-either (λ (t : State). t.kind ≡ s.kind) a b s refl refl

  pub add-size : (add_edge a b s).n ≡ s.n
  unfolding owning reown
  add-size = add-either (λ (t : State). t.n ≡ s.n) a b s refl refl

  pub add-rank : (v : ℕ) → (add_edge a b s).rank v ≡ s.rank v
  unfolding owning reown
  add-rank v = add-either (λ (t : State). t.rank v ≡ s.rank v) a b s refl refl

  pub add-mate : (v : ℕ) → (add_edge a b s).mate v ≡ s.mate v
  unfolding owning reown
  add-mate v = add-either (λ (t : State). t.mate v ≡ s.mate v) a b s refl refl

  module _ (apart : a ≢ b) (inside : (a < s.n) × (b < s.n)) (absent : T (edge s a b) → ⊥) where
    pub add-proper : {K : Kind} → Proper K s → Proper K (add_edge a b s)
    add-proper {K} p =
        add-either (Proper K) a b s (owning-proper a b s apart inside absent p)
        (owning-proper b a s (λ e. apart (sym e)) (inside.1, inside.0) (λ h. absent (edge-turn s b a h)) p)

    pub add-joined : EdgeMore a b s (add_edge a b s)
    add-joined =
        add-either (EdgeMore a b s) a b s (owning-joined a b s apart inside absent)
        (joined-turn b a s (owning b a s)
        (owning-joined b a s (λ e. apart (sym e)) (inside.1, inside.0) (λ h. absent (edge-turn s b a h))))

-- ---- a drop

-- the state without the edge a-b
abbrev pub drop_edge : ℕ → ℕ → State → State
drop_edge a b s = reown s (without_edge s.owns a b)

module _ (a b : ℕ) (s : State) where
  drop-old : (v w : ℕ) → T ((drop_edge a b s).owns v w) → T (s.owns v w)
  unfolding reown without_edge
  drop-old v w t = and_left (s.owns v w) _ t

  drop-other : (v w : ℕ) → T ((drop_edge a b s).owns v w) → T (is_edge a b v w) → ⊥
  unfolding reown without_edge
  drop-other v w t = T_not (is_edge a b v w) (and_right (s.owns v w) _ t)

  drop-keep : (v w : ℕ) → T (s.owns v w) → (T (is_edge a b v w) → ⊥) → T ((drop_edge a b s).owns v w)
  unfolding reown without_edge
  drop-keep v w t d = and_intro (s.owns v w) _ t (not_T (is_edge a b v w) d)

  pub drop-proper : {K : Kind} → Proper K s → Proper K (drop_edge a b s)
  unfolding reown
  drop-proper p = record {
    kind = p.kind;
    good = p.good;
    range = p.range;
    few = p.few;
    inside = λ v w t. p.inside v w (drop-old v w t);
    past-rank = p.past-rank;
    past-mate = p.past-mate;
    ranks = p.ranks;
    mates = p.mates;
    no_loop = λ v t. p.no_loop v (drop-old v v t);
    owned-once = λ v w t u. p.owned-once v w (drop-old v w t) (drop-old w v u);
  }

  pub drop-joined : a ≢ b → (a < s.n) × (b < s.n) → T (edge s a b) → EdgeMore a b (drop_edge a b s) s
  unfolding reown
  drop-joined apart inside there = record {
    size = refl;
    rank = λ v. refl;
    added = record {
      old = λ v w t. elim (edge-cases (drop_edge a b s) v w t) [
        | inl h ↦ edge_of s v w (drop-old v w h)
        | inr h ↦ edge-back s v w (drop-old w v h)
      ];
      new = λ v w t. elim (holds? (is_edge a b v w)) [
        | inl h ↦ inr (edge-is a b v w h)
        | inr h ↦ elim (edge-cases s v w t) [
          | inl k ↦ inl (edge_of (drop_edge a b s) v w (drop-keep v w k h))
          | inr k ↦ inl (edge-back (drop_edge a b s) v w (drop-keep w v k (λ g. h (turned v w (edge-is a b w v g)))))
        ]
      ];
    };
    there = there;
    absent = λ t. elim (edge-cases (drop_edge a b s) a b t) [
      | inl h ↦ drop-other a b h (is-edge a b a b (inl (refl, refl)))
      | inr h ↦ drop-other b a h (is-edge a b b a (inr (refl, refl)))
    ];
    apart = apart;
    inside = inside;
  }
    where
      turned : (v w : ℕ) → ((w ≡ a) × (v ≡ b)) ⊎ ((w ≡ b) × (v ≡ a)) → T (is_edge a b v w)
      turned v w (inl k) = is-edge a b v w (inr (k.1, k.0))
      turned v w (inr k) = is-edge a b v w (inl (k.1, k.0))

  -- its owners are those of s, but for the bits of both ends
  pub drop_here : (drop_edge a b s).owns a b ≡ false
  drop_here = T_false (λ t. drop-other a b t (is-edge a b a b (inl (refl, refl))))

  pub drop-back : (drop_edge a b s).owns b a ≡ false
  drop-back = T_false (λ t. drop-other b a t (is-edge a b b a (inr (refl, refl))))

  pub drop-rest : (v w : ℕ) → (v ≡ a → w ≢ b) → (v ≡ b → w ≢ a) → (drop_edge a b s).owns v w ≡ s.owns v w
  drop-rest v w d e =
      bool-ext ((drop_edge a b s).owns v w) (s.owns v w) (drop-old v w)
      (λ t. drop-keep v w t (λ h. elim (edge-is a b v w h) [ inl k ↦ d k.0 k.1 | inr k ↦ e k.0 k.1 ]))
