-- The search of a word for the places that pass a test: each is among those that pass another test, and the word of these leads from one to
-- the next. How many there are at most is known, so that no place after the last is looked at. Assumes nothing.
use mathlib.Core.Path.{◌≡◌, sym, subst}
use mathlib.Core.Bool.{Bool}
use Prim.Native.Nat.{ℕ, suc, ◌+◌, ◌-◌, ◌^◌, ◌≤◌, ◌<◌}
use native.Mathlib.Numerals.{add-one}
use native.Mathlib.Omega.{arith}
use lib.Dec.{T}
use lib.Bits.{bit_and}
use lib.Count.{count_trailing_zeros}
use Rattle.model.specs.Counting.{count}
use Rattle.model.proofs.Counting.{bit-yes}
use Rattle.model.proofs.Prefix.{count-zero, count-suc, count-mono, count-step, count-skip}
use Rattle.bitset.specs.Words.{Rest, Got}
use Rattle.bitset.proofs.Words.{First, rest-first, rest_end, got-none, got-skip, got-more}

-- The places before `at` are searched: those that pass p are found, and `left` more are looked for. x holds the places from there on that pass r.
pub record Search (r p : ℕ → Bool) (missing left found x : ℕ) : Type 0 where
  pub at : ℕ
  pub few : at ≤ 64
  pub rest : Rest r at x
  pub got : Got p at found
  pub counted : count p at + left ≡ missing

pub search-start : {r p : ℕ → Bool} {missing x : ℕ} → Rest r 0 x → Search r p missing missing 0 x
search-start {p = p} rest = record {
  at = 0;
  few = omega arith;
  rest = rest;
  got = got-none p;
  counted = omega (arith, count-zero p);
}

-- a word that is gathered to its end
got-whole : {p : ℕ → Bool} {x : ℕ} → Got p 64 x → Rest p 0 x
got-whole g = record { fits = g.fits; none = λ j h t. omega arith; same = λ j h l. g.same j l }

module _ {r p : ℕ → Bool} (each : (j : ℕ) → j < 64 → T (p j) → T (r j)) {missing left found x : ℕ} (G : Search r p missing left found x) where
  -- all that were looked for are found
  pub search-full : count p 64 ≤ missing → left ≡ 0 → Rest p 0 found
  search-full most z =
      got-whole (got-skip G.got 64 G.few
      (λ j a b t. omega (arith, G.counted, count-mono p G.at j a, count-step p j 64 t b)))

  -- none is left to look at
  pub search-over : x ≡ 0 → Rest p 0 found
  search-over z = got-whole (got-skip G.got 64 G.few (λ j a b t. rest_end G.rest z j a b (each j b t)))

  module _ (some : 0 < x) where
    first : First r G.at x (count_trailing_zeros 64 x)
    first = rest-first G.rest some

    -- the place whose turn it is
    pub search-at : (count_trailing_zeros 64 x < 64) × T (r (count_trailing_zeros 64 x))
    search-at = (first.within, first.is)

    -- none that passes stands before it and is not searched yet
    none_between : (j : ℕ) → G.at ≤ j → j < count_trailing_zeros 64 x → T (p j) → ⊥
    none_between j a b t = first.skipped j a b (each j (omega (arith, first.within)) t)

    -- what is found before it
    pub search-got : Got p (count_trailing_zeros 64 x) found
    search-got = got-skip G.got (count_trailing_zeros 64 x) first.after none_between

    search-count : count p (count_trailing_zeros 64 x) + left ≡ missing
    search-count = omega (arith, G.counted, count-skip p G.at (count_trailing_zeros 64 x) first.after none_between)

    next : Rest r (suc (count_trailing_zeros 64 x)) (bit_and x (x - 1))
    next = subst (λ (j : ℕ). Rest r j (bit_and x (x - 1))) (add-one (count_trailing_zeros 64 x)) first.next

    -- it passes: then one was left to find
    pub search-left : count p 64 ≤ missing → T (p (count_trailing_zeros 64 x)) → 0 < left
    search-left most t = omega (arith, search-count, count-step p (count_trailing_zeros 64 x) 64 t first.within)

    pub search-yes : T (p (count_trailing_zeros 64 x)) → {left' found' : ℕ} → suc left' ≡ left → found' ≡ found + 2 ^ count_trailing_zeros 64 x
        → Search r p missing left' found' (bit_and x (x - 1))
    search-yes t {left'} {found'} e f = record {
      at = suc (count_trailing_zeros 64 x);
      few = first.within;
      rest = next;
      got = subst (Got p (suc (count_trailing_zeros 64 x))) (sym f) (got-more search-got t);
      counted = omega (arith, search-count, count-suc p (count_trailing_zeros 64 x), bit-yes (p (count_trailing_zeros 64 x)) t);
    }

    pub search_no : (T (p (count_trailing_zeros 64 x)) → ⊥) → Search r p missing left found (bit_and x (x - 1))
    search_no n =
        let none : (j : ℕ) → count_trailing_zeros 64 x ≤ j → j < suc (count_trailing_zeros 64 x) → T (p j) → ⊥ =
        λ j a b t. n (subst (λ (z : ℕ). T (p z)) (omega arith) t) in
        record {
          at = suc (count_trailing_zeros 64 x);
          few = first.within;
          rest = next;
          got = got-skip search-got (suc (count_trailing_zeros 64 x)) (omega arith) none;
          counted = omega (arith, search-count, count-skip p (count_trailing_zeros 64 x) (suc (count_trailing_zeros 64 x)) (omega arith) none);
        }
