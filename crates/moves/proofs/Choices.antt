-- The choices that the counts' definitions make: what a hit says, and what the lowered and the raised counts are where the test holds and
-- where it fails. Assumes nothing.
use mathlib.Core.Path.{◌≡◌, refl}
use mathlib.Core.Bool.{◌&&◌}
use Prim.Native.Nat.{ℕ, suc, ◌-◌, ◌≤◌}
use lib.Dec.{T, leb, eqb, leb→le, le→leb, eqb→eq}
use Rattle.model.specs.State.{State, phi}
use Rattle.model.proofs.Tests.{T_true, T_false, eqb_yes, and_intro, and_left, and_right}
use Rattle.moves.specs.Counts.{hit, lowered_counts, raised_counts}

pub record Hit (s : State) (i u w j : ℕ) : Type 0 where
  pub owned : T (s.owns u w)
  pub from : s.rank u ≤ j
  pub seen : s.rank w ≤ j
  pub upto : j ≤ i

module _ (s : State) (i u w j : ℕ) where
  pub hit-says : T (hit s i u w j) → Hit s i u w j
  unfolding hit
  hit-says t =
      let a = and_right (s.owns u w) _ t in
      let b = and_right (leb (s.rank u) j) _ a in
      record {
        owned = and_left (s.owns u w) _ t;
        from = leb→le (s.rank u) j (and_left (leb (s.rank u) j) _ a);
        seen = leb→le (s.rank w) j (and_left (leb (s.rank w) j) _ b);
        upto = leb→le j i (and_right (leb (s.rank w) j) _ b);
      }

  pub hit-of : T (s.owns u w) → s.rank u ≤ j → s.rank w ≤ j → j ≤ i → T (hit s i u w j)
  unfolding hit
  hit-of t a b c =
      and_intro (s.owns u w) _ t
      (and_intro (leb (s.rank u) j) _ (le→leb _ _ a) (and_intro (leb (s.rank w) j) _ (le→leb _ _ b) (le→leb _ _ c)))

  pub lowered-yes : T (hit s i u w j) → lowered_counts s i u w j ≡ phi s w j - 1
  unfolding lowered_counts
  lowered-yes t = rw (T_true {b = hit s i u w j} t, lowered_counts) refl

  pub lowered-no : (T (hit s i u w j) → ⊥) → lowered_counts s i u w j ≡ phi s w j
  unfolding lowered_counts
  lowered-no t = rw (T_false {b = hit s i u w j} t, lowered_counts) refl

module _ (s : State) (i v w j : ℕ) where
  pub raised-yes : T (s.owns v w) → j ≡ i → raised_counts s i v w j ≡ suc (phi s w j)
  unfolding raised_counts
  raised-yes t e = rw (T_true {b = s.owns v w} t, eqb_yes j i e, raised_counts) refl

  pub raised-no : (T (s.owns v w) → j ≡ i → ⊥) → raised_counts s i v w j ≡ phi s w j
  unfolding raised_counts
  raised-no h =
      rw (T_false {b = s.owns v w && eqb j i} (λ t. h (and_left (s.owns v w) _ t) (eqb→eq j i (and_right (s.owns v w) _ t))), raised_counts) refl
