-- The walk over a word of a row of bits, a vertex's or a roster, from bit to bit: what holds as far as a place goes on over a stretch with no place
-- of the row, and over one. Assumes nothing.
use mathlib.Core.Path.{◌≡◌, sym, ap, ◌∙◌, subst}
use mathlib.Core.Logic.{inl, inr}
use mathlib.Core.Bool.{Bool}
use mathlib.Core.List.{List}
use Prim.Native.Nat.{ℕ, ◌+◌, ◌-◌, ◌*◌, ◌≤◌, ◌<◌}
use native.Mathlib.Omega.{arith}
use lib.Dec.{T}
use lib.ListN.{get_or}
use lib.Bits.{bit_and}
use lib.Count.{count_trailing_zeros}
use Rattle.model.specs.Shape.{Shape}
use Rattle.model.specs.Bytes.{rank_at, owns_at}
use Rattle.model.proofs.Tests.{eq?, le?}
use Rattle.bitset.specs.Words.{Rest}
use Rattle.bitset.proofs.Words.{rest-first, rest_end}
use Rattle.audit.specs.Tally.{tallied, partly, Holds, Added}
use Rattle.audit.specs.Parts.{Right, Walked}
use Rattle.audit.proofs.Tally.{share_other, share-add, share-skip, share-none, tallied-suc, partly-small}

-- ---- within a word

-- P holds as far as some place of the word, whose places are those of o, and x holds the places from there on
pub record Midway (o : ℕ → Bool) (P : ℕ → Type 0) (x : ℕ) : Type 0 where
  pub at : ℕ
  pub few : at ≤ 64
  pub rest : Rest o at x
  pub walked : P at

-- what holds as far as p holds as far as q, where there is no place between
abbrev pub Skips : (ℕ → Bool) → (ℕ → Type 0) → Type 0
Skips o P = (p q : ℕ) → p ≤ q → ((j : ℕ) → p ≤ j → j < q → T (o j) → ⊥) → P p → P q

module _ {o : ℕ → Bool} {P : ℕ → Type 0} {x : ℕ} where
  -- the place that comes next
  pub midway-first : Midway o P x → Skips o P → 0 < x → (count_trailing_zeros 64 x < 64) × T (o (count_trailing_zeros 64 x)) × P (count_trailing_zeros 64 x)
  midway-first m skips some =
      let f = rest-first m.rest some in
      (f.within, f.is, skips m.at (count_trailing_zeros 64 x) (omega (arith, f.after)) f.skipped m.walked)

  -- past it, where more holds
  pub midway-next : {Q : ℕ → Type 0} → Midway o P x → 0 < x → Q (count_trailing_zeros 64 x + 1) → Midway o Q (bit_and x (x - 1))
  midway-next m some q =
      let f = rest-first m.rest some in
      record { at = count_trailing_zeros 64 x + 1; few = omega (arith, f.within); rest = f.next; walked = q }

  -- the whole word
  pub midway_end : Midway o P x → Skips o P → x ≡ 0 → P 64
  midway_end m skips z = skips m.at 64 m.few (rest_end m.rest z) m.walked

-- a stretch of a row that begins at a place, as one from 0 on
pub skips_from : (o : ℕ → Bool) {P : ℕ → Type 0} (base : ℕ) → Skips o P → Skips (λ j. o (base + j)) (λ j. P (base + j))
skips_from o base skips p q h none = skips (base + p) (base + q) (omega arith) (λ j a b t.
    let e : j ≡ base + (j - base) = omega arith in
    none (j - base) (omega arith) (omega arith) (subst (λ (y : ℕ). T (o y)) e t))

-- ---- what is asked of each place of a row, as far as p

module _ (o : ℕ → Bool) (Q : ℕ → Type 0) where
  pub each-skips : Skips o (λ p. (w : ℕ) → w < p → T (o w) → Q w)
  each-skips p q h none g w l t = elim (le? p w) [ inl a ↦ absurd (none w a l t) | inr a ↦ g w a t ]

  pub each-add : {p : ℕ} → ((w : ℕ) → w < p → T (o w) → Q w) → Q p → (w : ℕ) → w < p + 1 → T (o w) → Q w
  each-add {p} g h w l t = elim (eq? w p) [ inl e ↦ subst Q (sym e) h | inr d ↦ g w (omega arith) t ]

-- ---- a row of a rank below the highest

module _ (S : Shape) (bs t : List ℕ) (v : ℕ) where
  pub walked-skips : Skips (owns_at S bs v) (Walked S bs t v)
  unfolding partly
  walked-skips p q h none w = record {
    right = each-skips _ _ p q h none w.right;
    tally = record {
      long = w.tally.long;
      at = λ x r hx hr. w.tally.at x r hx hr ∙ ap (λ (y : ℕ). tallied S bs v x r + y) (share-skip S bs v p q x r h none);
    };
  }

  pub walked-add : (u : List ℕ) (w : ℕ) → Walked S bs t v w → T (owns_at S bs v w) → Right S bs v w → Added S t u v w (rank_at bs v) → Walked S bs u v (w + 1)
  unfolding partly
  walked-add u w k o r a = record {
    right = each-add _ _ k.right r;
    tally = record {
      long = a.long ∙ k.tally.long;
      at = λ x s hx hs. omega (arith, a.at x s hs, k.tally.at x s hx hs, share-add S bs v w x s o);
    };
  }

  pub walked_start : Holds S t (tallied S bs v) → Walked S bs t v 0
  unfolding partly
  walked_start h = record {
    right = λ x l o. absurd (omega arith);
    tally = record { long = h.long; at = λ x r hx hr. omega (arith, h.at x r hx hr, share-none S bs v x r) };
  }

  -- all of the row
  pub walked_end : Walked S bs t v S.most → Holds S t (tallied S bs (v + 1))
  unfolding partly
  walked_end w = record { long = w.tally.long; at = λ x r hx hr. w.tally.at x r hx hr ∙ sym (tallied-suc S bs v x r) }

  -- entries stay small
  pub walked-small : 2 * S.most < 65534 → (p r : ℕ) → v < S.most → p ≤ S.most → r < S.levels → Walked S bs t v p
      → (x : ℕ) → x < S.most → get_or t (S.levels * x + r) 0 < 65534
  walked-small fits p r hv hp hr w x hx = omega (arith, w.tally.at x r hx hr, partly-small S fits bs v p x r hv hp)

  -- a row whose rank has no entry adds nothing
  pub highest-adds-none : S.levels ≤ rank_at bs v → Holds S t (tallied S bs v) → Holds S t (tallied S bs (v + 1))
  highest-adds-none h k = record {
    long = k.long;
    at = λ x r hx hr. omega (arith, k.at x r hx hr, tallied-suc S bs v x r, share_other S bs v S.most x r (λ e. omega arith));
  }
