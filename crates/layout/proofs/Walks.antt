-- The walk along a row from place to place, also where the row changes while it is walked. Assumes nothing.
use mathlib.Core.Path.{◌≡◌, refl, sym, ◌∙◌, subst, fun_ext}
use mathlib.Core.Logic.{inl, inr}
use mathlib.Core.Bool.{Bool, true, false}
use Prim.Native.Nat.{ℕ, suc, ◌+◌, ◌-◌, ◌*◌, ◌%◌, ◌≤◌, ◌<◌}
use native.Mathlib.Omega.{arith}
use lib.Dec.{T, leb}
use lib.Bits.{bit_and}
use lib.Count.{count_trailing_zeros}
use Rattle.model.specs.Shape.{Shape, GoodShape}
use Rattle.model.proofs.Tests.{le?, leb_yes, leb_no}
use Rattle.bitset.specs.Words.{Rest}
use Rattle.bitset.proofs.Words.{First, rest-first, rest_end}
use Rattle.layout.specs.declared.walk.Cursor.{Cursor}
use Rattle.layout.specs.Walks.{place_of, Here, Stands, Further}

-- a row of a good shape is whole words
pub row-whole : {S : Shape} → GoodShape S → S.most % 64 ≡ 0
row-whole good = omega (arith, good.rows, good.words)

-- ---- a word

-- a rest, named by its first place
rest-here : (p : ℕ → Bool) (from x : ℕ) → Rest p from x → 0 < x → Rest p (count_trailing_zeros 64 x) x
rest-here p from x r some =
    let f : First p from x (count_trailing_zeros 64 x) = rest-first r some in
    record {
      fits = r.fits;
      none = λ j h t. elim (le? from j) [
        | inl l ↦ f.skipped j l h (subst T (r.same j l (omega (arith, f.within))) t)
        | inr l ↦ r.none j l t
      ];
      same = λ j h k. r.same j (omega (arith, f.after)) k;
    }

-- a rest of places that are the same within the word
rest-as : (p q : ℕ → Bool) (from x : ℕ) → ((j : ℕ) → j < 64 → q j ≡ p j) → Rest p from x → Rest q from x
rest-as p q from x e r = record { fits = r.fits; none = r.none; same = λ j h k. r.same j h k ∙ sym (e j k) }

module _ {most : ℕ} (o : ℕ → Bool) (from k x : ℕ) (inside : 64 * k < most) (r : Rest (λ j. o (64 * k + j)) from x) where
  -- a place of the word, as one of the row
  between : (t : ℕ) → ((j : ℕ) → from ≤ j → j < t → T (o (64 * k + j)) → ⊥) → (w : ℕ) → 64 * k + from ≤ w → w < 64 * k + t → T (o w) → ⊥
  between t g w a b h =
      let e : w ≡ 64 * k + (w - 64 * k) = omega arith in
      g (w - 64 * k) (omega arith) (omega arith) (subst (λ (y : ℕ). T (o y)) e h)

  -- a word with something left: there the walk stands
  word-here : 0 < x → Here most o (64 * k + from) (record { word = k; rest = x })
  word-here some =
      let f : First (λ j. o (64 * k + j)) from x (count_trailing_zeros 64 x) = rest-first r some in
      record {
        inside = inside;
        after = omega (arith, f.after);
        is = f.is;
        none = between (count_trailing_zeros 64 x) f.skipped;
        left = rest-here (λ j. o (64 * k + j)) from x r some;
      }

  -- a word with nothing left
  word_none : x ≡ 0 → (w : ℕ) → 64 * k + from ≤ w → w < 64 * k + 64 → T (o w) → ⊥
  word_none z = between 64 (rest_end r z)

-- ---- a stretch with no place

-- the row has none from `from` on and below w
pub record Passed (most : ℕ) (o : ℕ → Bool) (from w : ℕ) : Type 0 where
  pub after : from ≤ w
  pub within : w ≤ most
  pub none : (x : ℕ) → from ≤ x → x < w → T (o x) → ⊥

pub passed_none : (most : ℕ) (o : ℕ → Bool) (from : ℕ) → from ≤ most → Passed most o from from
passed_none most o from h = record { after = omega arith; within = h; none = λ x a b t. absurd (omega arith) }

module _ {most : ℕ} {o : ℕ → Bool} {from w : ℕ} (p : Passed most o from w) where
  none_over : (v : ℕ) → ((x : ℕ) → w ≤ x → x < v → T (o x) → ⊥) → (x : ℕ) → from ≤ x → x < v → T (o x) → ⊥
  none_over v g x a b t = elim (le? w x) [ inl l ↦ g x l b t | inr l ↦ p.none x a (omega arith) t ]

  -- a stretch more
  passed-more : (v : ℕ) → w ≤ v → v ≤ most → ((x : ℕ) → w ≤ x → x < v → T (o x) → ⊥) → Passed most o from v
  passed-more v l h g = record { after = omega (arith, p.after); within = h; none = none_over v g }

  -- where a walk from w on stands is where one from `from` on stands
  here-over : {c : Cursor} → Here most o w c → Here most o from c
  here-over {c} h = record {
    inside = h.inside;
    after = omega (arith, p.after, h.after);
    is = h.is;
    none = none_over (place_of c.word c.rest) h.none;
    left = h.left;
  }

  stands-over : {c : Cursor} → Stands most o w c → Stands most o from c
  stands-over s = record { here = λ l. here-over (s.here l); ended = λ z. none_over most (s.ended z) }

-- the word k from there on, with an edge or without, and the end of the row
pub passed-end : {most : ℕ} {o : ℕ → Bool} {from : ℕ} (k : ℕ) → Passed most o from (64 * k) → most ≤ 64 * k
    → Stands most o from (record { word = k; rest = 0 })
passed-end k p h = record {
  here = λ l. absurd (omega arith);
  ended = λ _ x a b t. p.none x a (omega arith) t;
}

module _ {most : ℕ} {o : ℕ → Bool} {from x : ℕ} (k : ℕ) (p : Passed most o from (64 * k)) (l : 64 * k < most) (r : Rest (λ j. o (64 * k + j)) 0 x) where
  pub passed_here : 0 < x → Stands most o from (record { word = k; rest = x })
  passed_here some =
      let z : 64 * k + 0 ≡ 64 * k = omega arith in
      stands-over p (record {
        here = λ _. subst (λ (y : ℕ). Here most o y (record { word = k; rest = x })) z (word-here o 0 k x l r some);
        ended = λ d. absurd (omega arith);
      })

  pub passed-word : (whole : most % 64 ≡ 0) → x ≡ 0 → Passed most o from (64 * (k + 1))
  passed-word whole z = passed-more p (64 * (k + 1)) (omega arith) (omega arith) (λ w a b. word_none o 0 k x l r z w (omega arith) (omega arith))

-- ---- the next place

-- one row as far as m, another from there on
unfoldable pub until : ℕ → (ℕ → Bool) → (ℕ → Bool) → ℕ → Bool
until m o o' w = elim (leb m w) [ true ↦ o' w | false ↦ o w ]

module _ (m : ℕ) (o o' : ℕ → Bool) (w : ℕ) where
  pub until-low : w < m → until m o o' w ≡ o w
  unfolding until
  until-low h = rw (leb_no m w h, until) refl

  pub until-high : m ≤ w → until m o o' w ≡ o' w
  unfolding until
  until-high h = rw (leb_yes m w h, until) refl

-- a walk sees of its word what was there when it was read, and of the later words what is there when it comes to them
module _ {most : ℕ} {o o' : ℕ → Bool} {from : ℕ} {c r : Cursor} (whole : most % 64 ≡ 0) (some : 0 < c.rest) (h : Here most o from c)
    (g : Further most o' c r) where
  end : ℕ
  end = 64 * c.word + 64

  seen : ℕ → Bool
  seen = until end o o'

  first : First (λ j. o (64 * c.word + j)) (count_trailing_zeros 64 c.rest) c.rest (count_trailing_zeros 64 c.rest)
  first = rest-first h.left some

  next : Rest (λ j. seen (64 * c.word + j)) (count_trailing_zeros 64 c.rest + 1) (bit_and c.rest (c.rest - 1))
  unfolding seen end
  next =
      rest-as (λ j. o (64 * c.word + j)) (λ j. seen (64 * c.word + j)) (count_trailing_zeros 64 c.rest + 1) (bit_and c.rest (c.rest - 1))
      (λ j l. until-low end o o' (64 * c.word + j) (omega arith)) first.next

  -- the rest of the word
  within : 0 < bit_and c.rest (c.rest - 1) → Stands most seen (suc (place_of c.word c.rest)) r
  within l =
      let e : 64 * c.word + (count_trailing_zeros 64 c.rest + 1) ≡ suc (place_of c.word c.rest) = omega arith in
      let y = bit_and c.rest (c.rest - 1) in
      subst (Stands most seen (suc (place_of c.word c.rest))) (sym (g.same l)) (record {
        here = λ _. subst (λ (k : ℕ). Here most seen k (record { word = c.word; rest = y })) e
            (word-here seen (count_trailing_zeros 64 c.rest + 1) c.word y h.inside next l);
        ended = λ z. absurd (omega arith);
      })

  -- a later word, past this one
  later : 0 < r.rest → Here most o' end r → Here most seen end r
  unfolding seen end
  later l k =
      let f = rest-first k.left l in
      record {
        inside = k.inside;
        after = k.after;
        is = subst T (sym (until-high end o o' (place_of r.word r.rest) k.after)) k.is;
        none = λ w a b t. k.none w a b (subst T (until-high end o o' w a) t);
        left = rest-as (λ j. o' (64 * r.word + j)) (λ j. seen (64 * r.word + j)) (count_trailing_zeros 64 r.rest) r.rest
            (λ j b. until-high end o o' (64 * r.word + j) (omega (arith, k.after, f.within))) k.left;
      }

  past : bit_and c.rest (c.rest - 1) ≡ 0 → Stands most seen (suc (place_of c.word c.rest)) r
  unfolding seen end
  past z =
      let s = g.on z in
      let none = word_none seen (count_trailing_zeros 64 c.rest + 1) c.word (bit_and c.rest (c.rest - 1)) h.inside next z in
      stands-over (record {
        after = omega (arith, first.within);
        within = omega (arith, h.inside);
        none = λ w a b. none w (omega arith) b;
      }) (record {
        here = λ l. later l (s.here l);
        ended = λ e w a b t. s.ended e w a b (subst T (until-high end o o' w a) t);
      })

  pub further : Stands most (until (64 * c.word + 64) o o') (suc (place_of c.word c.rest)) r
  unfolding seen end
  further = elim (le? 1 (bit_and c.rest (c.rest - 1))) [ inl l ↦ within l | inr l ↦ past (omega arith) ]

until-same : (m : ℕ) (o : ℕ → Bool) → until m o o ≡ o
until-same m o = fun_ext (λ w. elim (le? m w) [ inl l ↦ until-high m o o w l | inr l ↦ until-low m o o w l ])

-- a row that stays as it is
pub further_same : {most : ℕ} {o : ℕ → Bool} {from : ℕ} {c r : Cursor} → (whole : most % 64 ≡ 0) → 0 < c.rest → Here most o from c
    → Further most o c r → Stands most o (suc (place_of c.word c.rest)) r
further_same {most} {o} {from} {c} {r} whole some h g =
    subst (λ (p : ℕ → Bool). Stands most p (suc (place_of c.word c.rest)) r) (until-same (64 * c.word + 64) o) (further whole some h g)
