-- The pass over word k of v's row: the edges that go are walked place by place, and at the end the row keeps those that stay. Assumes nothing.
use mathlib.Core.Path.{◌≡◌, sym, ap, ◌∙◌, subst, fun_ext}
use mathlib.Core.Logic.{inl, inr}
use mathlib.Core.Bool.{Bool, false, not, ◌&&◌}
use mathlib.Core.List.{List}
use Prim.Native.Nat.{ℕ, suc, ◌+◌, ◌-◌, ◌*◌, ◌≤◌, ◌<◌}
use native.Mathlib.Numerals.{add-one}
use native.Mathlib.Omega.{arith}
use lib.Dec.{T, eqb, ltb, lt→ltb}
use lib.Bits.{bit_and, bit_xor}
use lib.Count.{count_trailing_zeros}
use Rattle.model.specs.Counting.{count}
use Rattle.model.specs.State.{Kind, State}
use Rattle.model.specs.Bytes.{image, write}
use Rattle.model.specs.Moves.{owned_by}
use Rattle.model.specs.Change.{reown}
use Rattle.model.proofs.Tests.{le?, bool-ext, and_intro, and_left, and_right, and_yes}
use Rattle.model.proofs.Counting.{count_none}
use Rattle.theory.proofs.Ownership.{out, back, rest, turned}
use Rattle.bitset.specs.Words.{Rest}
use Rattle.bitset.proofs.Words.{First, rest-first, rest_end}
use Rattle.bitset.proofs.Sets.{rest-and, rest-less, rest-ext}
use Rattle.layout.specs.Setters.{own, set_word}
use Rattle.moves.specs.Proper.{Proper}
use Rattle.moves.specs.Handing.{same_level, other_level, in_word, handed_in}
use Rattle.moves.proofs.Edges.{edge_of, turned-edge}
use Rattle.moves.proofs.Owning.{owners_of, owners-same, owners-write}
use Rattle.moves.proofs.Handing.{same-is, other-is, word-is, going, going_of, going-is, gains, gains-ext, gains-none, own-gains, word-gone}

-- the edges of word k that go, and those that stay, by their places in the word
abbrev pub goes : State → ℕ → ℕ → ℕ → ℕ → Bool
goes s i v k j = same_level s i v (64 * k + j)

abbrev pub stays : State → ℕ → ℕ → ℕ → ℕ → Bool
stays s i v k j = other_level s i v (64 * k + j)

-- the first `at` places of the word are done, and x holds the edges that go from there on
pub record Handing (s : State) (i v k : ℕ) (bs : List ℕ) (x : ℕ) : Type 0 where
  pub at : ℕ
  pub few : at ≤ 64
  pub rest : Rest (goes s i v k) at x
  pub bytes : bs ≡ image (owners_of s (gains v (going s i v k at) s.owns))

module _ {K : Kind} {s : State} (p : Proper K s) (i v k : ℕ) where
  -- ---- the word in two parts: who goes is in the roster of v's rank too

  -- a vertex of the word: in the roster exactly if it has the rank
  module _ {row roster : ℕ} (r : Rest (λ j. s.owns v (64 * k + j)) 0 row)
      (q : Rest (λ j. ltb (64 * k + j) s.n && eqb (s.rank (64 * k + j)) (suc i)) 0 roster) where
    -- whoever v owns an edge to is a vertex
    below : (j : ℕ) → T (s.owns v (64 * k + j)) → T (ltb (64 * k + j) s.n)
    below j t = lt→ltb (64 * k + j) s.n (p.inside v (64 * k + j) t).1

    go_same : (j : ℕ) → (s.owns v (64 * k + j) && (ltb (64 * k + j) s.n && eqb (s.rank (64 * k + j)) (suc i))) ≡ goes s i v k j
    unfolding same_level
    go_same j =
        let o : Bool = s.owns v (64 * k + j) in
        let n : Bool = ltb (64 * k + j) s.n in
        let e : Bool = eqb (s.rank (64 * k + j)) (suc i) in
        bool-ext (o && (n && e)) (o && e) (λ t. and_intro o e (and_left o _ t) (and_right n e (and_right o _ t)))
        (λ t. and_intro o (n && e) (and_left o e t) (and_intro n e (below j (and_left o e t)) (and_right o e t)))

    stay-same : (j : ℕ) → (s.owns v (64 * k + j) && not (ltb (64 * k + j) s.n && eqb (s.rank (64 * k + j)) (suc i))) ≡ stays s i v k j
    unfolding other_level
    stay-same j =
        let o : Bool = s.owns v (64 * k + j) in
        let n : Bool = ltb (64 * k + j) s.n in
        let e : Bool = eqb (s.rank (64 * k + j)) (suc i) in
        bool-ext (o && not (n && e)) (o && not e)
        (λ t. and_intro o (not e) (and_left o _ t) (subst (λ (b : Bool). T (not b)) (and_yes n e (below j (and_left o _ t))) (and_right o _ t)))
        (λ t. and_intro o (not (n && e)) (and_left o _ t) (subst (λ (b : Bool). T (not b)) (sym (and_yes n e (below j (and_left o _ t)))) (and_right o _ t)))

    pub word-goes : Rest (goes s i v k) 0 (bit_and row roster)
    word-goes = rest-ext (rest-and r q) (λ j l. go_same j)

    pub word-stays : Rest (stays s i v k) 0 (bit_xor row (bit_and row roster))
    word-stays = rest-ext (rest-less r q) (λ j l. stay-same j)

  -- ---- the walk along those that go

  pub handing-start : {bs : List ℕ} {x : ℕ} → bs ≡ write s → Rest (goes s i v k) 0 x → Handing s i v k bs x
  handing-start e r = record {
    at = 0;
    few = omega arith;
    rest = r;
    bytes = e ∙ owners-same s ∙ ap (λ (o : ℕ → ℕ → Bool). image (owners_of s o))
        (sym (gains-none v (going s i v k 0) s.owns (λ x u. let r = going-is s i v k 0 x u in omega (arith, r.1, r.2))));
  }

  module _ {bs : List ℕ} {x : ℕ} (G : Handing s i v k bs x) where
    -- the same have gone before place t, where none goes between
    skipped : (t : ℕ) → G.at ≤ t → ((j : ℕ) → G.at ≤ j → j < t → T (goes s i v k j) → ⊥)
        → bs ≡ image (owners_of s (gains v (going s i v k t) s.owns))
    skipped t l none =
        let before : (x : ℕ) → T (same_level s i v x) → 64 * k ≤ x → x < 64 * k + t → x < 64 * k + G.at = λ x u a c. elim (le? (64 * k + G.at) x) [
          | inl n ↦
              let e : x ≡ 64 * k + (x - 64 * k) = omega arith in
              absurd (none (x - 64 * k) (omega arith) (omega arith) (subst (λ (y : ℕ). T (same_level s i v y)) e u))
          | inr n ↦ n
        ] in
        G.bytes ∙ ap (λ (o : ℕ → ℕ → Bool). image (owners_of s o)) (gains-ext v (going s i v k G.at) (going s i v k t) s.owns
        (λ x u. let r = going-is s i v k G.at x u in going_of s i v k t x r.0 r.1 (omega (arith, r.2)))
        (λ x u. let r = going-is s i v k t x u in going_of s i v k G.at x r.0 r.1 (before x r.0 r.1 r.2)))

    module _ (some : 0 < x) where
      handing-first : First (goes s i v k) G.at x (count_trailing_zeros 64 x)
      handing-first = rest-first G.rest some

      -- the edge whose turn it is
      pub handing-turn : count_trailing_zeros 64 x < 64
      handing-turn = handing-first.within

      -- after it
      pub handing-next : v < s.kind.shape.most → 64 * k + count_trailing_zeros 64 x < s.kind.shape.most
          → {cs : List ℕ} → cs ≡ own s.kind.shape bs (64 * k + count_trailing_zeros 64 x) v → Handing s i v k cs (bit_and x (x - 1))
      handing-next l c {cs} q =
          let f = handing-first in
          let t : ℕ = count_trailing_zeros 64 x in
          let w : ℕ = 64 * k + t in
          record {
            at = suc t;
            few = f.within;
            rest = subst (λ (j : ℕ). Rest (goes s i v k) j (bit_and x (x - 1))) (add-one t) f.next;
            bytes = q ∙ ap (λ (x : List ℕ). own s.kind.shape x w v) (skipped t f.after f.skipped)
                ∙ own-gains s p.good v w (going s i v k t) (going s i v k (suc t)) l c (going_of s i v k (suc t) w f.is (omega arith) (omega arith))
                (λ x u. let r = going-is s i v k t x u in going_of s i v k (suc t) x r.0 r.1 (omega (arith, r.2)))
                (λ x u n. let r = going-is s i v k (suc t) x u in going_of s i v k t x r.0 r.1 (omega (arith, r.2)));
          }

    -- the whole word: the row keeps what stays
    pub handing-bytes : x ≡ 0 → v < s.n → 64 * k < s.kind.shape.most → {g : ℕ} → Rest (stays s i v k) 0 g
        → set_word s.kind.shape bs v k g ≡ write (handed_in (in_word k 64) i v s)
    unfolding handed_in going
    handing-bytes z l m {g} r =
        ap (λ (cs : List ℕ). set_word s.kind.shape cs v k g) (skipped 64 G.few (rest_end G.rest z))
        ∙ word-gone s p i v k g (omega (arith, p.few)) m (λ j h. r.same j (omega arith) h)
        ∙ owners-write s p.good (owned_by v (going s i v k 64) false s.owns)
        (λ a c. turned-edge s p v (going s i v k 64) false (λ w u. edge_of s v w (same-is s i v w (and_left (same_level s i v w) _ u)).0) a c)

  -- ---- a word without edges: nothing goes, and nothing stays

  module _ {row : ℕ} (r : Rest (λ j. s.owns v (64 * k + j)) 0 row) (z : row ≡ 0) where
    no_edge : (j : ℕ) → j < 64 → T (s.owns v (64 * k + j)) → ⊥
    no_edge j l = rest_end r z j (omega arith) l

    pub empty-numbers : (count (goes s i v k) 64 ≡ 0) × (count (stays s i v k) 64 ≡ 0)
    empty-numbers = (
      count_none (goes s i v k) 64 (λ j l t. no_edge j l (same-is s i v (64 * k + j) t).0),
      count_none (stays s i v k) 64 (λ j l t. no_edge j l (other-is s i v (64 * k + j) t).0),
    )

    none-go : (x : ℕ) → T (same_level s i v x && in_word k 64 x) → ⊥
    none-go x t =
        let b = word-is k 64 x (and_right (same_level s i v x) _ t) in
        let e : x ≡ 64 * k + (x - 64 * k) = omega arith in
        no_edge (x - 64 * k) (omega arith) (subst (λ (y : ℕ). T (s.owns v y)) e (same-is s i v x (and_left (same_level s i v x) _ t)).0)

    pub empty-handed : handed_in (in_word k 64) i v s ≡ s
    unfolding handed_in reown
    empty-handed = ap (reown s) (fun_ext (λ x. fun_ext (λ y. elim (turned v (λ w. same_level s i v w && in_word k 64 w) false s.owns x y) [
      | out e g f ↦ absurd (none-go y g)
      | back e g f ↦ absurd (none-go x g)
      | rest a b f ↦ f
    ])))
