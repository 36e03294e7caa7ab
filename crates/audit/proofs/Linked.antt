-- An edge of the rack that bytes hold, by the bits of its two ends, and the mate that an entry names. Assumes nothing.
use mathlib.Core.Path.{◌≡◌, sym, ap₂, ◌∙◌}
use mathlib.Core.Logic.{inl, inr}
use mathlib.Core.Bool.{Bool, ◌||◌}
use mathlib.Core.List.{List}
use Prim.Native.Nat.{ℕ, ◌<◌}
use native.Mathlib.Omega.{arith}
use lib.Dec.{T, eqb}
use Rattle.std.specs.Prelude.{Option, None, Some}
use Rattle.std.specs.Option.{option_eq}
use Rattle.model.specs.Shape.{Shape}
use Rattle.model.specs.State.{edge}
use Rattle.model.specs.Bytes.{size_at, owns_at, read}
use Rattle.model.proofs.Tests.{or_cases}
use Rattle.model.proofs.Facts.{Says, eqb-says}
use Rattle.layout.specs.Setters.{MateIs}
use Rattle.layout.proofs.Said.{says-no, says-by}
use Rattle.model.proofs.Reading.{read-owns, read_owned}

module _ (S : Shape) (bs : List ℕ) (v w : ℕ) where
  pub linked-inside : T (edge (read S bs) v w) → w < size_at bs
  unfolding edge
  linked-inside t = elim (or_cases ((read S bs).owns v w) ((read S bs).owns w v) t) [
    | inl o ↦ (read_owned S bs v w o).1
    | inr o ↦ (read_owned S bs w v o).0
  ]

  pub linked-reads : v < size_at bs → w < size_at bs → edge (read S bs) v w ≡ owns_at S bs v w || owns_at S bs w v
  unfolding edge
  linked-reads hv hw = ap₂ (λ (x y : Bool). x || y) (read-owns S bs v w hv hw) (read-owns S bs w v hw hv)

-- a mate that is one names the vertex that its entry has
pub names-says : {e : ℕ} (o : Option ℕ) (v : ℕ) → v < 65535 → MateIs e o → Says (option_eq eqb o (Some v)) (e ≡ v)
names-says None v h m = says-no (λ q. omega (arith, m, q))
names-says (Some x) v h m = says-by (λ q. sym m.0 ∙ q) (λ q. m.0 ∙ q) (eqb-says x v)
