-- A test of every number below n, by `all` of a range: it says that each passes. Assumes nothing.
use mathlib.Core.Path.{◌≡◌, sym, subst}
use mathlib.Core.Bool.{Bool, true, false}
use Prim.Native.Nat.{ℕ, ◌<◌}
use native.Mathlib.Omega.{arith}
use lib.ListN.{length, get_or}
use denote.Param.Members.{Mut}
use Rattle.std.specs.Bool.{MatchBool}
use Rattle.std.specs.Fn.{Called}
use Rattle.std.specs.Iterator.{ChecksAll}
use Rattle.std.specs.List.{range_with_len, AllWithin, HoldsAt}
use Rattle.std.proofs.iter.Yields.{nat_range_steps}
use Rattle.std.proofs.lemmas.Iterator.{YieldsList-from_range, cases_from_all}
use Rattle.std.proofs.lemmas.List.FromFn.{length-range_with_len, get_or-range_with_len}
use Rattle.std.specs.declared.ops.Range.{Range}
use Rattle.model.proofs.Facts.{Says}
use Rattle.layout.proofs.Said.{says-yes, says-no}

at : (n v : ℕ) → v < n → (d : ℕ) → get_or (range_with_len 0 n) v d ≡ v
at n v l d = omega (arith, get_or-range_with_len 0 n v d l)

cases : (r : Bool) (n : ℕ) (P : ℕ → Type 0)
    → let xs = range_with_len 0 n in
    MatchBool r (AllWithin P xs 0 (length xs)) ((k : ℕ) × (k < length xs) × HoldsAt (λ x. P x → ⊥) xs k) → Says r ((v : ℕ) → v < n → P v)
cases true n P h = says-yes (λ v l. subst P (at n v l 0) (h v 0 (omega arith) (omega (arith, l, length-range_with_len 0 n))))
cases false n P h =
    let l : h.0 < n = omega (arith, h.1, length-range_with_len 0 n) in
    says-no (λ g. h.2 0 (subst P (sym (at n h.0 l 0)) (g h.0 l)))

-- where the test, which stays as it was, says P of each x by its answer b
module _ {F : Type 0} {g : Mut F (ℕ × Unit {0}) Bool} {s : Range ℕ} (u : Range ℕ) (f : F) (r : Bool) (n : ℕ) (P : ℕ → Type 0) where
  pub each-says : ChecksAll nat_range_steps g s f r u
      → s ≡ record { start = 0; end = n } → ((x : ℕ) (b : Bool) (q : F) → Called g f (x, tt) b q → (q ≡ f) × Says b (P x)) → Says r ((v : ℕ) → v < n → P v)
  each-says ran is test = cases r n P (cases_from_all u f r P (λ x. P x → ⊥) ran (YieldsList-from_range 0 n n is (omega arith))
      (λ x q k. let t = test x true q k in (t.0, t.1.fact tt)) (λ x q k. (test x false q k).1.test))
