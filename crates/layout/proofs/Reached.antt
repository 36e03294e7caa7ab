-- How far a walk along a row has come, as a number, whatever else happens to the bytes meanwhile. Assumes nothing.
use mathlib.Core.Path.{◌≡◌, refl, sym, ◌∙◌, subst}
use mathlib.Core.Logic.{inl, inr}
use mathlib.Core.Bool.{Bool, true, false}
use Prim.Native.Nat.{ℕ, ◌+◌, ◌*◌, ◌%◌, ◌≤◌, ◌<◌}
use native.Mathlib.Omega.{arith}
use lib.Dec.{T, leb}
use Rattle.model.proofs.Tests.{le?, leb_yes, leb_no}
use Rattle.bitset.proofs.Words.{rest-first}
use Rattle.layout.specs.declared.walk.Cursor.{Cursor}
use Rattle.layout.specs.Walks.{place_of, Here, Stands, Further}
use Rattle.layout.proofs.Walks.{further}

-- ---- the place at which a walk stands, or the end of the row

unfoldable pub reached : ℕ → Cursor → ℕ
reached most c = elim (leb 1 c.rest) [ true ↦ place_of c.word c.rest | false ↦ most ]

pub reached-here : (most : ℕ) (c : Cursor) → 0 < c.rest → reached most c ≡ place_of c.word c.rest
unfolding reached
reached-here most c l = rw (leb_yes 1 c.rest l, reached) refl

pub reached-end : (most : ℕ) (c : Cursor) → c.rest ≡ 0 → reached most c ≡ most
unfolding reached
reached-end most c z = rw (leb_no 1 c.rest (omega arith), reached) refl

pub place-small : {most : ℕ} {o : ℕ → Bool} {from : ℕ} {c : Cursor} → (whole : most % 64 ≡ 0) → 0 < c.rest → Here most o from c
    → place_of c.word c.rest < most
place-small whole some h = omega (arith, h.inside, (rest-first h.left some).within)

-- a walk from `from` on came to c
pub record Came (most : ℕ) (o : ℕ → Bool) (from : ℕ) (c : Cursor) : Type 0 where
  pub after : from ≤ reached most c
  pub none : (w : ℕ) → from ≤ w → w < reached most c → T (o w) → ⊥
  pub here : 0 < c.rest → Here most o (reached most c) c

came-here : {most : ℕ} {o : ℕ → Bool} {from : ℕ} {c : Cursor} → 0 < c.rest → Here most o from c → Came most o from c
came-here {most} {o} {from} {c} some h =
    let e = reached-here most c some in
    record {
      after = omega (arith, h.after);
      none = λ w a b t. h.none w a (omega arith) t;
      here = λ _. record {
        inside = h.inside;
        after = omega arith;
        is = h.is;
        none = λ w a b t. absurd (omega arith);
        left = h.left;
      };
    }

pub came : {most : ℕ} {o : ℕ → Bool} {from : ℕ} {c : Cursor} → from ≤ most → Stands most o from c → Came most o from c
came {most} {o} {from} {c} l s = elim (le? 1 c.rest) [
  | inl some ↦ came-here some (s.here some)
  | inr none ↦
      let e = reached-end most c (omega arith) in
      record {
        after = omega arith;
        none = λ w a b t. s.ended (omega arith) w a (omega arith) t;
        here = λ some. absurd (omega arith);
      }
]

-- each turn leads further, also where the row has changed
pub further-less : {most : ℕ} {o o' : ℕ → Bool} {from : ℕ} {c r : Cursor} → (whole : most % 64 ≡ 0) → 0 < c.rest → Here most o from c
    → Further most o' c r → reached most c < reached most r
further-less {most} {c = c} whole some h g =
    omega (arith, reached-here most c some, (came (place-small whole some h) (further whole some h g)).after)

-- ---- rows that are the same below `most`: what stands past their end is none of the walk

module _ {most : ℕ} {o o' : ℕ → Bool} (whole : most % 64 ≡ 0) (same : (w : ℕ) → w < most → o w ≡ o' w) where
  here-as : {from : ℕ} {c : Cursor} → 0 < c.rest → Here most o from c → Here most o' from c
  here-as {from} {c} some h =
      let l = place-small whole some h in
      record {
        inside = h.inside;
        after = h.after;
        is = subst T (same (place_of c.word c.rest) l) h.is;
        none = λ w a b t. h.none w a b (subst T (sym (same w (omega arith))) t);
        left = record {
          fits = h.left.fits;
          none = h.left.none;
          same = λ j a b. h.left.same j a b ∙ same (64 * c.word + j) (omega (arith, h.inside));
        };
      }

  pub stands-as : {from : ℕ} {c : Cursor} → Stands most o from c → Stands most o' from c
  stands-as s = record {
    here = λ l. here-as l (s.here l);
    ended = λ z w a b t. s.ended z w a b (subst T (sym (same w b)) t);
  }

  pub further-as : {c r : Cursor} → Further most o c r → Further most o' c r
  further-as g = record { same = g.same; on = λ z. stands-as (g.on z) }
