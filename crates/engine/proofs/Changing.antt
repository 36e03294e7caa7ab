-- A change of any bytes: turned back for the bytes, or a change of a sound rack. Assumes nothing.
use mathlib.Core.Path.{◌≡◌, refl, sym, ap, ◌∙◌}
use mathlib.Core.Logic.{◌≢◌}
use mathlib.Core.List.{List}
use Prim.Native.Nat.{ℕ}
use Rattle.model.specs.Shape.{Shape, GoodShape}
use Rattle.model.specs.Bytes.{rules_at, read, write}
use Rattle.model.specs.Valid.{IsBytes}
use Rattle.model.specs.Change.{Change, refused, change}
use Rattle.model.specs.Calls.{rack_number, ChangedBytes, unchanged, change_bytes}
use Rattle.model.proofs.Tests.{true-T, eqb_no}
use Rattle.model.proofs.Bridge.{sound-valid}
use Rattle.theory.proofs.OnBytes.{call-leaves}
use Rattle.std.specs.Prelude.{Result}
use Rattle.calls.specs.declared.Refusal.{Refusal}
use Rattle.calls.specs.declared.Figures.{Figures}
use Rattle.calls.specs.Terms.{told}
use Rattle.changes.specs.Sounded.{Sounded}
use Rattle.changes.proofs.Answered.{sounded-rack}
use Rattle.engine.specs.Answers.{ChangeIs}
use Rattle.engine.proofs.Numbers.{rack-good, sized-length}

module _ (S : Shape) (bs : List ℕ) (c : Change) where
  turned : rack_number S bs ≢ 0 → change_bytes S bs c ≡ unchanged (rack_number S bs) bs
  unfolding change_bytes
  turned d = rw (eqb_no (rack_number S bs) 0 d, change_bytes) refl

  -- 1 or 6
  pub turned-is : {k : ℕ} → rack_number S bs ≡ k → k ≢ 0 → (refused k ≡ (change_bytes S bs c).answer) × (bs ≡ (change_bytes S bs c).rack)
  unfolding unchanged
  turned-is {k} e d =
      let t : change_bytes S bs c ≡ unchanged (rack_number S bs) bs = turned (λ p. d (sym e ∙ p)) in
      (ap refused (sym e) ∙ ap (λ (u : ChangedBytes). u.answer) (sym t), ap (λ (u : ChangedBytes). u.rack) (sym t))

-- bytes that neither 1 nor 6 fits
pub sounded : {S : Shape} → GoodShape S → (bs : List ℕ) → IsBytes bs → rack_number S bs ≡ 0 → Sounded S bs
sounded {S} good bs by e =
    let g = rack-good S bs e in
    let v = sound-valid S good bs by (sized-length S bs g.0) (true-T g.1) in
    record { kind = v.1.0; written = v.0; valid = v.1.1 }

-- a change of such bytes is that of the rack which they write
pub ran-is : {S : Shape} (bs : List ℕ) (c : Change) → Sounded S bs → (r : Result Figures Refusal) (after : List ℕ)
    → told r ≡ (change (rules_at bs) (read S bs) c).answer → after ≡ write (change (rules_at bs) (read S bs) c).state → ChangeIs S bs c r after
unfolding read
ran-is {S} bs c g r after p q =
    let e = ap (λ (x : List ℕ). change_bytes S x c) g.written ∙ call-leaves (read S bs) (sounded-rack g) c in
    record {
      answers = p ∙ ap (λ (u : ChangedBytes). u.answer) (sym e);
      leaves = q ∙ ap (λ (u : ChangedBytes). u.rack) (sym e);
    }
