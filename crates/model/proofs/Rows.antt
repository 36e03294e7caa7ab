-- Rows of bits in bytes: m rows, one after the other from byte `from` on, of which row v has the places that pass p v. Its bytes are known by
-- its bits, and its bits by its bytes. Assumes nothing.
use mathlib.Core.Path.{◌≡◌, sym, ap, ap₂, ◌∙◌}
use mathlib.Core.Bool.{Bool}
use mathlib.Core.List.{List}
use Prim.Native.Nat.{ℕ, ◌+◌, ◌*◌, ◌/◌, ◌%◌, ◌<◌}
use native.Mathlib.Nat.{div-add-mod}
use native.Mathlib.Omega.{arith}
use lib.ListN.{get_or}
use Rattle.model.specs.Shape.{Shape, GoodShape}
use Rattle.model.specs.Parts.{bit_of, row_byte, by_rows}
use Rattle.model.specs.Bytes.{in_row}
use Rattle.model.specs.Valid.{IsBytes}
use Rattle.model.proofs.Chunks.{bit-row_byte, row_byte-of}
use Rattle.model.proofs.Parts.{rows_at, rows_inside, in_rows}

-- the rows of p stand in the bytes
abbrev pub Rows : Shape → List ℕ → ℕ → ℕ → (ℕ → ℕ → Bool) → Type 0
Rows S bs from m p = (i : ℕ) → i < m * S.row → get_or bs (from + i) 0 ≡ by_rows S.row (λ v. row_byte (p v)) i

module _ {S : Shape} (good : GoodShape S) (bs : List ℕ) (from m : ℕ) (p : ℕ → ℕ → Bool) where
  rows-byte : Rows S bs from m p → (v k : ℕ) → v < m → k < S.row → get_or bs (from + (S.row * v + k)) 0 ≡ row_byte (p v) k
  rows-byte rows v k l h = rows (S.row * v + k) (rows_inside m S.row v k l h) ∙ rows_at (λ v. row_byte (p v)) S.row v k h

  pub rows-bit : Rows S bs from m p → (v w : ℕ) → v < m → w < S.most → in_row S bs from v w ≡ p v w
  rows-bit rows v w l h =
      let e : 8 * (w / 8) + w % 8 ≡ w = omega arith in
      ap (λ (x : ℕ). bit_of x (w % 8)) (rows-byte rows v (w / 8) l (omega (arith, good.rows)))
      ∙ bit-row_byte (p v) (w / 8) (w % 8) (omega arith) ∙ ap (p v) e

  pub bits-rows : IsBytes bs → ((v w : ℕ) → v < m → w < S.most → in_row S bs from v w ≡ p v w) → Rows S bs from m p
  bits-rows bytes shows i l =
      let v : ℕ = i / S.row in
      let k : ℕ = i % S.row in
      let b = in_rows m S.row i l in
      sym (row_byte-of (get_or bs (from + i) 0) (bytes (from + i)) (p v) k (λ j c.
      let at : S.row * v + (8 * k + j) / 8 ≡ i = omega (arith, div-add-mod i S.row) in
      let bit : (8 * k + j) % 8 ≡ j = omega arith in
      sym (shows v (8 * k + j) b.0 (omega (arith, good.rows, b.1)))
      ∙ ap₂ (λ (x y : ℕ). bit_of (get_or bs (from + x) 0) y) at bit))
