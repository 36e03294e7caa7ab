-- What is left of a trial: all of the run if its words sufficed, and otherwise the bytes as they were. Assumes nothing.
use mathlib.Core.Path.{◌≡◌, subst, ◌∙◌}
use mathlib.Core.Logic.{◌⊎◌, inl, inr}
use mathlib.Core.Bool.{Bool, true, false}
use mathlib.Core.List.{List}
use Prim.Native.Nat.{ℕ, ◌/◌, ◌≤◌, ◌<◌}
use native.Mathlib.Omega.{arith}
use lib.ListN.{length}
use Rattle.std.specs.Borrow.{MutBor}
use Rattle.std.specs.Fn.{Once, FnOnceReturnsAtMut}
use Rattle.model.specs.Shape.{low}
use Rattle.model.specs.State.{State, edges}
use Rattle.model.specs.Moves.{Run}
use Rattle.model.proofs.Tests.{le?, true-T}
use Rattle.std.specs.Prelude.{min}
use Rattle.std.proofs.Math.Nat.{min-eq_left, min-eq_right}
use Rattle.drawing.specs.Sure.{Sure}
use Rattle.drawing.proofs.Certain.{sure}
use Rattle.settling.specs.declared.tally.Tally.{Tally}
use Rattle.changes.specs.Sounded.{Ended}
use Rattle.changes.specs.Working.{TriedOut, Tried, Enough}

-- what is left of a run that was tried out
pub tried-of : {ends : Tally → List ℕ → Type 0} {r : Run} {words bs bs' : List ℕ} {t : Tally} (x : TriedOut ends words bs bs' t)
    → Ended r x.after t → Tried r words bs bs' t
tried-of x e = record { draws = e.draws; falls = e.falls; made = λ h. x.made h ∙ e.rack; kept = x.kept }

module _ {F : Type 0} {g : Once F (MutBor (List ℕ) × Unit {0}) (Tally × (MutBor (List ℕ) × Unit {0}))} {f : F} where
  -- where work that was called on the bytes bs ended, by its run from the bytes that it was shown
  pub ended-at : {bs after : List ℕ} {t : Tally} (run : List ℕ → Run) (x : FnOnceReturnsAtMut g f bs t after)
      → Ended (run x.shown.now) x.left.now t → Ended (run bs) after t
  ended-at {after = after} {t} run x e =
      subst (λ (l : List ℕ). Ended (run l) after t) x.shows (subst (λ (l : List ℕ). Ended (run x.shown.now) l t) x.leaves e)

module _ {r : Run} {words bs bs' : List ℕ} {t : Tally} (e : Ended r bs' t) where
  -- the words sufficed ..
  pub tried-made : t.draws ≤ length words → Tried r words bs bs' t
  tried-made h = record { draws = e.draws; falls = e.falls; made = λ k. e.rack; kept = λ k. absurd (omega arith) }

  -- .. or the old bytes are put back
  pub tried-back : length words < t.draws → {back : List ℕ} → back ≡ bs → Tried r words bs back t
  tried-back h b = record { draws = e.draws; falls = e.falls; made = λ k. absurd (omega arith); kept = λ k. b }

-- as many words that are sure to choose as there can be new pairs
pub sure-enough : (s : State) (i k : ℕ) (words : List ℕ) (h : ℕ) (ok : Bool) → s.n ≤ low.most
    → (s.n / 2 ≤ h) ⊎ (edges s ≤ h) ⊎ ((i ≡ 0) × (k ≤ h)) → Sure ok words h → Enough ok s i k words
sure-enough s i k words h true few b q = record {
  most = h;
  bound = b;
  quick = record { many = q.0; small = λ j x l p m. true-T (sure _ x p (omega arith) (q.1 j l)) };
}
sure-enough s i k words h false few b q = tt

-- where h is the lower of two numbers, half the vertices or more and the edges or more
pub lower-enough : (s : State) (i k : ℕ) (words : List ℕ) {x y h : ℕ} (ok : Bool) → s.n ≤ low.most → s.n / 2 ≤ x → edges s ≤ y → h ≡ min x y
    → Sure ok words h → Enough ok s i k words
lower-enough s i k words {x} {y} {h} ok few p r e q = sure-enough s i k words h ok few (elim (le? x y) [
  | inl l ↦ inl (omega (arith, min-eq_left l))
  | inr l ↦ inr (inl (let m : min x y ≡ y = min-eq_right (omega arith) in omega arith))
]) q

-- the answer was yes, for as many as can draw or more
pub enough-yes : (s : State) (i k : ℕ) (words : List ℕ) {k' : ℕ} {ok : Bool} → k ≤ k' → ok ≡ true → Enough ok s i k' words → Enough true s i k words
enough-yes s i k words {k'} l e q =
    let z = subst (λ (x : Bool). Enough x s i k' words) e q in
    record {
      most = z.most;
      bound = elim z.bound [ inl b ↦ inl b | inr (inl b) ↦ inr (inl b) | inr (inr b) ↦ inr (inr (b.0, omega (arith, b.1))) ];
      quick = z.quick;
    }
