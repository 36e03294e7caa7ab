-- u takes its edges from owners in one word: first its own row gains them, a word at once, then each owner's row loses its own. Assumes nothing.
use mathlib.Core.Path.{◌≡◌, refl, sym, ap, ◌∙◌, subst}
use mathlib.Core.Logic.{inl, inr}
use mathlib.Core.Bool.{Bool, true, ◌||◌}
use mathlib.Core.List.{List}
use Prim.Native.Nat.{ℕ, suc, ◌+◌, ◌-◌, ◌*◌, ◌≤◌, ◌<◌}
use native.Mathlib.Numerals.{add-one}
use native.Mathlib.Omega.{arith}
use lib.Dec.{T}
use lib.Bits.{bit_and, bit_or}
use lib.Count.{count_trailing_zeros}
use Rattle.model.specs.Counting.{count}
use Rattle.model.specs.Shape.{Shape}
use Rattle.model.specs.State.{Kind, State}
use Rattle.model.specs.Bytes.{image, write}
use Rattle.model.specs.Moves.{owned_by}
use Rattle.model.proofs.Tests.{le?, holds?, bool-ext, T_true, or_cases, or_left, or_right}
use Rattle.model.proofs.Counting.{bit-yes}
use Rattle.model.proofs.Prefix.{count-zero, count-suc, count-skip, count-step}
use Rattle.bitset.specs.Words.{Rest}
use Rattle.bitset.proofs.Words.{First, rest-first, rest_end}
use Rattle.bitset.proofs.Sets.{rest-or}
use Rattle.layout.specs.Setters.{disown, set_word}
use Rattle.moves.specs.Proper.{took_from}
use Rattle.moves.proofs.Owning.{owners_of, owners-same, owners-write}
use Rattle.moves.proofs.Taking.{Takes, takes-some, takes-edge, takes_none}
use Rattle.moves.proofs.Turning.{among, among_of, among-is, turning, turning-all, turning-ext, turning-out, turning-rest, turn-row, turn-disown}

-- The owners at the places of word k before `at` have lost their edges to u, and x holds the others. `left` is what is missing then.
pub record TakeWord (s : State) (u k : ℕ) (h : ℕ → Bool) (missing : ℕ) (bs : List ℕ) (x left : ℕ) : Type 0 where
  pub at : ℕ
  pub few : at ≤ 64
  pub rest : Rest (λ j. h (64 * k + j)) at x
  pub bytes : bs ≡ image (owners_of s (turning u (among h k 64) (among h k at) true s.owns))
  pub counted : left + count (λ j. h (64 * k + j)) at ≡ missing

-- the same of them come before two places, where none stands between
among-skip : (h : ℕ → Bool) (k a b : ℕ) → a ≤ b → ((j : ℕ) → a ≤ j → j < b → T (h (64 * k + j)) → ⊥)
    → (w : ℕ) → T (among h k b w) → T (among h k a w)
among-skip h k a b l none w t =
    let r = among-is h k b w t in
    among_of h k a w r.0 r.1 (elim (le? (64 * k + a) w) [
      | inl n ↦
          let e : w ≡ 64 * k + (w - 64 * k) = omega arith in
          absurd (none (w - 64 * k) (omega arith) (omega (arith, r.1, r.2)) (subst (λ (y : ℕ). T (h y)) e r.0))
      | inr n ↦ n
    ])

among-wider : (h : ℕ → Bool) (k a b : ℕ) → a ≤ b → (w : ℕ) → T (among h k a w) → T (among h k b w)
among-wider h k a b l w t = let r = among-is h k a w t in among_of h k b w r.0 r.1 (omega (arith, r.2))

among_none : (h : ℕ → Bool) (k w : ℕ) → T (among h k 0 w) → ⊥
among_none h k w t = let r = among-is h k 0 w t in omega (arith, r.1, r.2)

module _ {K : Kind} {s : State} {u : ℕ} {h : ℕ → Bool} (q : Takes K s u h) where
  -- the shape of its bytes
  abbrev of : Shape
  of = s.kind.shape

  in-word : (k : ℕ) → Takes K s u (among h k 64)
  in-word k = takes-some q (among h k 64) (λ w t. (among-is h k 64 w t).0)

  small : (w : ℕ) → w < s.n → w < of.most
  small w l = omega (arith, q.proper.few)

  apart : (w : ℕ) → T (h w) → w ≡ u → ⊥
  apart w t e = q.proper.no_loop u (subst (λ (x : ℕ). T (s.owns x u)) e (q.owes w t))

  -- a word with no owner
  pub word_none : (k : ℕ) {x : ℕ} → Rest (λ j. h (64 * k + j)) 0 x → x ≡ 0
      → (s ≡ took_from (among h k 64) u s) × (count (λ j. h (64 * k + j)) 64 ≡ 0)
  word_none k r z =
      let none : (j : ℕ) → 0 ≤ j → j < 64 → T (h (64 * k + j)) → ⊥ = rest_end r z in (
        sym (takes_none (in-word k) (λ w t. among_none h k w (among-skip h k 0 64 (omega arith) none w t))),
        sym (count-skip (λ j. h (64 * k + j)) 0 64 (omega arith) none) ∙ count-zero (λ j. h (64 * k + j)),
      )

  -- u's row gains the owners
  gained : (k y : ℕ) → 64 * k ≤ y → y < 64 * k + 64 → (s.owns u y || h y) ≡ turning u (among h k 64) (among h k 0) true s.owns u y
  gained k y a b =
      let p : ℕ → Bool = among h k 64 in
      let none : ℕ → Bool = among h k 0 in
      elim (holds? (h y)) [
        | inl t ↦ T_true (or_right (s.owns u y) (h y) t) ∙ sym (turning-out u p none true s.owns u y refl (among_of h k 64 y t a b))
        | inr n ↦
            bool-ext (s.owns u y || h y) (s.owns u y)
            (λ t. elim (or_cases (s.owns u y) (h y) t) [ inl o ↦ o | inr c ↦ absurd (n c) ]) (or_left (s.owns u y) (h y))
            ∙ sym (turning-rest u p none true s.owns u y (λ _ t. n (among-is h k 64 y t).0) (λ _ t. among_none h k u t))
      ]

  pub word-start : {k missing row x : ℕ} {bs cs : List ℕ} → bs ≡ write s → 64 * k < of.most
      → Rest (λ j. s.owns u (64 * k + j)) 0 row → Rest (λ j. h (64 * k + j)) 0 x → cs ≡ set_word of bs u k (bit_or row x)
      → TakeWord s u k h missing cs x missing
  word-start {k} {row = row} {x = x} e l a b f = record {
    at = 0;
    few = omega arith;
    rest = b;
    bytes = f ∙ ap (λ (c : List ℕ). set_word of c u k (bit_or row x)) (e ∙ owners-same s)
        ∙ turn-row s q.proper.good u k (among h k 64) (among h k 0) true (λ y t. let r = among-is h k 64 y t in (r.1, r.2)) (among_none h k)
        (bit_or row x) (small u q.within) l (λ j c. (rest-or a b).same j (omega arith) c ∙ gained k (64 * k + j) (omega arith) (omega arith));
    counted = omega (arith, count-zero (λ j. h (64 * k + j)));
  }

  module _ {k missing : ℕ} {bs : List ℕ} {x left : ℕ} (G : TakeWord s u k h missing bs x left) where
    module _ (some : 0 < x) where
      first : First (λ j. h (64 * k + j)) G.at x (count_trailing_zeros 64 x)
      first = rest-first G.rest some

      -- the owner whose turn it is
      pub word-owner : (count_trailing_zeros 64 x < 64) × T (h (64 * k + count_trailing_zeros 64 x))
      word-owner = (first.within, first.is)

      before : left + count (λ j. h (64 * k + j)) (count_trailing_zeros 64 x) ≡ missing
      before = omega (arith, G.counted, count-skip (λ j. h (64 * k + j)) G.at (count_trailing_zeros 64 x) first.after first.skipped)

      -- so one is missing
      pub word-left : count (λ j. h (64 * k + j)) 64 ≤ missing → 0 < left
      word-left m = omega (arith, before, count-step (λ j. h (64 * k + j)) (count_trailing_zeros 64 x) 64 first.is first.within)

      -- it loses its edge
      pub word_next : {cs : List ℕ} {left' : ℕ} → cs ≡ disown of bs (64 * k + count_trailing_zeros 64 x) u → suc left' ≡ left
          → TakeWord s u k h missing cs (bit_and x (x - 1)) left'
      word_next e f =
          let t : ℕ = count_trailing_zeros 64 x in
          let w : ℕ = 64 * k + t in
          let now : ℕ → Bool = among h k G.at in
          record {
            at = suc t;
            few = first.within;
            rest = subst (λ (j : ℕ). Rest (λ j. h (64 * k + j)) j (bit_and x (x - 1))) (add-one t) first.next;
            bytes = e ∙ ap (λ (c : List ℕ). disown of c w u) G.bytes
                ∙ turn-disown u w (among h k 64) now (among h k (suc t)) (apart w first.is)
                (among_of h k (suc t) w first.is (omega arith) (omega arith))
                (among-wider h k G.at (suc t) (omega (arith, first.after)))
                (λ y b n. among-skip h k G.at t first.after first.skipped y
                (let r = among-is h k (suc t) y b in among_of h k t y r.0 r.1 (omega (arith, r.2))))
                s q.proper.good (small w (q.proper.inside w u (q.owes w first.is)).0) (small u q.within);
            counted = omega (arith, before, count-suc (λ j. h (64 * k + j)) t, bit-yes (h w) first.is);
          }

    -- the whole word
    pub word_end : x ≡ 0 → (bs ≡ write (took_from (among h k 64) u s)) × (left + count (λ j. h (64 * k + j)) 64 ≡ missing)
    unfolding took_from
    word_end z =
        let none = rest_end G.rest z in (
          G.bytes ∙ ap (λ (o : ℕ → ℕ → Bool). image (owners_of s o))
              (turning-ext u (among h k 64) (among h k G.at) (among h k 64) true s.owns
              (among-wider h k G.at 64 G.few) (among-skip h k G.at 64 G.few none)
              ∙ turning-all u (among h k 64) true s.owns)
              ∙ owners-write s q.proper.good (owned_by u (among h k 64) true s.owns) (takes-edge (in-word k)),
          omega (arith, G.counted, count-skip (λ j. h (64 * k + j)) G.at 64 G.few none),
        )
