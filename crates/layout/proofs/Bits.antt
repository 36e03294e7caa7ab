-- Rows of bits as one part of some bytes, with one place, or one word, of a row set: the same for the rows of the vertices and for the rosters.
-- Assumes nothing.
use mathlib.Core.Path.{◌≡◌, refl, sym, ap, ap₂, ◌∙◌}
use mathlib.Core.Logic.{◌≢◌, inl, inr}
use mathlib.Core.Bool.{Bool, true, false, ◌&&◌}
use mathlib.Core.List.{List}
use Prim.Native.Nat.{ℕ, zero, suc, ◌+◌, ◌-◌, ◌*◌, ◌/◌, ◌%◌, ◌^◌, ◌≤◌, ◌<◌}
use native.Mathlib.Omega.{arith}
use lib.Dec.{T, leb, ltb, leb→le, le→leb, ltb→lt, lt→ltb}
use lib.ListN.{get_or, set}
use lib.Bits.{bit_and, bit_or}
use Rattle.model.specs.Counting.{upd}
use Rattle.model.specs.Shape.{Shape, GoodShape}
use Rattle.model.specs.Parts.{bit_of, row_byte, by_rows}
use Rattle.model.proofs.Tests.{eq?, T_true, T_false, and_intro, and_left, and_right}
use Rattle.model.proofs.Lists.{upd_same, upd_other}
use Rattle.model.proofs.Chunks.{row_byte-of}
use Rattle.model.proofs.Parts.{rows_at, rows_inside, rows_ext}
use Rattle.bitset.specs.Row.{inserted, removed}
use Rattle.bitset.specs.Words.{stored_bytes, stored}
use Rattle.bitset.proofs.Words.{bit_byte}
use Rattle.layout.specs.Setters.{place_in}
use Rattle.layout.proofs.Pieces.{row_byte-ext, row_byte-or, row_byte-and}
use Rattle.layout.proofs.Tables.{entered, entry_other}

-- a table with one entry changed, row after row: only that number is
pub rows_other : (f g : ℕ → ℕ → ℕ) (m k v j : ℕ) → ((p q : ℕ) → (p ≡ v → q ≢ j) → f p q ≡ g p q)
    → (u : ℕ) → u < m * k → u ≢ k * v + j → by_rows k f u ≡ by_rows k g u
rows_other f g m k v j same u l d =
    rows_ext f g m k u l (λ p q b c e. same p q (λ a z. d (e ∙ ap₂ (λ (x y : ℕ). k * x + y) a z)))

-- ---- a row with a word of it set

-- the places 64 k to 64 k + 63 of a row those that pass p
unfoldable pub worded : (ℕ → Bool) → ℕ → (ℕ → Bool) → ℕ → Bool
worded row k p w = elim (leb (64 * k) w && ltb w (64 * k + 64)) [ true ↦ p w | false ↦ row w ]

module _ (rows : ℕ → ℕ → Bool) (v k : ℕ) (p : ℕ → Bool) where
  -- in row v
  abbrev pub with_row_word : ℕ → ℕ → Bool
  with_row_word = upd rows v (worded (rows v) k p)

  pub word_in : (u w : ℕ) → u ≡ v → 64 * k ≤ w → w < 64 * k + 64 → with_row_word u w ≡ p w
  unfolding worded
  word_in u w e a b =
      let low = leb (64 * k) w in
      let high = ltb w (64 * k + 64) in
      let yes : T (low && high) = and_intro low high (le→leb (64 * k) w a) (lt→ltb w (64 * k + 64) b) in
      ap (λ (row : ℕ → Bool). row w) (upd_same rows v (worded (rows v) k p) u e) ∙ rw (T_true {b = low && high} yes, worded) refl

  pub word_out : (u w : ℕ) → (u ≡ v → 64 * k ≤ w → w < 64 * k + 64 → ⊥) → with_row_word u w ≡ rows u w
  unfolding worded
  word_out u w out =
      let low = leb (64 * k) w in
      let high = ltb w (64 * k + 64) in
      elim (eq? u v) [
        | inl e ↦
            let no : T (low && high) → ⊥ = λ t. out e (leb→le (64 * k) w (and_left low high t)) (ltb→lt w (64 * k + 64) (and_right low high t)) in
            ap (λ (row : ℕ → Bool). row w) (upd_same rows v (worded (rows v) k p) u e)
            ∙ rw (T_false {b = low && high} no, worded) (ap (λ (y : ℕ). rows y w) (sym e))
        | inr d ↦ ap (λ (row : ℕ → Bool). row w) (upd_other rows v (worded (rows v) k p) u d)
      ]

-- ---- rows of bits in bytes

-- m rows of bits stand from byte `from` on, as one part: `bytes g` are the bytes with g as its numbers
pub record Table (S : Shape) (from m : ℕ) (bytes : (ℕ → ℕ) → List ℕ) : Type 0 where
  pub holds : (g : ℕ → ℕ) (i : ℕ) → i < m * S.row → get_or (bytes g) (from + i) 0 ≡ g i
  pub sets : (old new : ℕ → ℕ) (i x : ℕ) → i < m * S.row → x ≡ new i → ((u : ℕ) → u < m * S.row → u ≢ i → old u ≡ new u)
      → set (bytes old) (from + i) x ≡ bytes new
  pub ext : (old new : ℕ → ℕ) → ((u : ℕ) → u < m * S.row → old u ≡ new u) → bytes old ≡ bytes new

module _ {S : Shape} (good : GoodShape S) {from m : ℕ} {bytes : (ℕ → ℕ) → List ℕ} (table : Table S from m bytes) where
  -- the numbers of rows of which row v has the places that pass p v
  abbrev numbers_of : (ℕ → ℕ → Bool) → ℕ → ℕ
  numbers_of p = by_rows S.row (λ v. row_byte (p v))

  pub rows_same : (p q : ℕ → ℕ → Bool) → ((v w : ℕ) → v < m → w < S.most → p v w ≡ q v w) → bytes (numbers_of p) ≡ bytes (numbers_of q)
  rows_same p q same =
      table.ext (numbers_of p) (numbers_of q) (λ u l. rows_ext _ _ m S.row u l (λ v k b c e.
      row_byte-ext (p v) (q v) k (λ j d. same v (8 * k + j) b (omega (arith, good.rows)))))

  module _ (p : ℕ → ℕ → Bool) (v w : ℕ) (l : v < m) (h : w < S.most) where
    inside : w / 8 < S.row
    inside = omega (arith, good.rows)

    byte : get_or (bytes (numbers_of p)) (from + (S.row * v + w / 8)) 0 ≡ row_byte (p v) (w / 8)
    byte =
        table.holds (numbers_of p) (S.row * v + w / 8) (rows_inside m S.row v (w / 8) l inside)
        ∙ rows_at (λ v. row_byte (p v)) S.row v (w / 8) inside

    -- one place changed: only the byte that holds it
    set-place : (x : ℕ) (b : Bool) → x ≡ row_byte (upd (p v) w b) (w / 8)
        → set (bytes (numbers_of p)) (from + (S.row * v + w / 8)) x ≡ bytes (numbers_of (entered p v w b))
    set-place x b e =
        let new : ℕ → ℕ → ℕ = λ u. row_byte (entered p v w b u) in
        let row : upd (p v) w b ≡ entered p v w b v = sym (upd_same p v (upd (p v) w b) v refl) in
        table.sets (numbers_of p) (by_rows S.row new) (S.row * v + w / 8) x (rows_inside m S.row v (w / 8) l inside)
        (e ∙ ap (λ (r : ℕ → Bool). row_byte r (w / 8)) row ∙ sym (rows_at new S.row v (w / 8) inside))
        (rows_other (λ u. row_byte (p u)) new m S.row v (w / 8)
        (λ y q d. row_byte-ext (p y) (entered p v w b y) q
        (λ a c. sym (entry_other p v w b y (8 * q + a) (λ z t. d z (omega arith))))))

    -- the byte and the bit of a place, in the whole buffer
    place_byte : place_in S from v w / 8 ≡ from + (S.row * v + w / 8)
    place_byte = omega arith

    place-bit : place_in S from v w % 8 ≡ w % 8
    place-bit = omega arith

    pub insert-place : inserted (bytes (numbers_of p)) (place_in S from v w) ≡ bytes (numbers_of (entered p v w true))
    unfolding inserted
    insert-place =
        ap₂ (λ (i j : ℕ). set (bytes (numbers_of p)) i (bit_or (get_or (bytes (numbers_of p)) i 0) (2 ^ j))) place_byte place-bit
        ∙ set-place _ true (ap (λ (x : ℕ). bit_or x (2 ^ (w % 8))) byte ∙ row_byte-or (p v) w)

    pub remove-place : removed (bytes (numbers_of p)) (place_in S from v w) ≡ bytes (numbers_of (entered p v w false))
    unfolding removed
    remove-place =
        ap₂ (λ (i j : ℕ). set (bytes (numbers_of p)) i (bit_and (get_or (bytes (numbers_of p)) i 0) (255 - 2 ^ j))) place_byte place-bit
        ∙ set-place _ false (ap (λ (x : ℕ). bit_and x (255 - 2 ^ (w % 8))) byte ∙ row_byte-and (p v) w)

  -- m bytes of x, stored one after the other from byte i of the rows on, make new numbers of the old
  store_bytes : (old new : ℕ → ℕ) (i x k : ℕ) → i + k ≤ m * S.row
      → ((a : ℕ) → a < k → x / 2 ^ (8 * a) % 256 ≡ new (i + a))
      → ((u : ℕ) → u < m * S.row → (i ≤ u → u < i + k → ⊥) → old u ≡ new u)
      → stored_bytes (bytes old) (from + i) x k ≡ bytes new
  unfolding stored_bytes
  store_bytes old new i x zero h in-word out = table.ext old new (λ u l. out u l (λ a b. omega arith))
  store_bytes old new i x (suc k) h in-word out =
      let less : ℕ → ℕ = upd new (i + k) (old (i + k)) in
      let at : from + i + k ≡ from + (i + k) = omega arith in
      ap₂ (λ (l : List ℕ) (a : ℕ). set l a (x / 2 ^ (8 * k) % 256))
      (store_bytes old less i x k (omega arith)
      (λ a l. in-word a (omega arith) ∙ sym (upd_other new (i + k) (old (i + k)) (i + a) (omega arith)))
      (λ u l n. elim (eq? u (i + k)) [
        | inl e ↦ ap old e ∙ sym (upd_same new (i + k) (old (i + k)) u e)
        | inr d ↦ out u l (λ a b. n a (omega arith)) ∙ sym (upd_other new (i + k) (old (i + k)) u d)
      ]))
      at
      ∙ table.sets less new (i + k) _ (omega arith) (in-word k (omega arith)) (λ u l d. upd_other new (i + k) (old (i + k)) u d)

  pub store_word : (p : ℕ → ℕ → Bool) (v k x : ℕ) (q : ℕ → Bool) → v < m → 64 * k < S.most → ((j : ℕ) → j < 64 → bit_of x j ≡ q (64 * k + j))
      → stored (bytes (numbers_of p)) (from + S.row * v + 8 * k) x ≡ bytes (numbers_of (with_row_word p v k q))
  unfolding stored
  store_word p v k x q l c same =
      let i : ℕ = S.row * v + 8 * k in
      let new : ℕ → ℕ → Bool = with_row_word p v k q in
      let at : from + S.row * v + 8 * k ≡ from + i = omega arith in
      let whole : 8 * k + 8 ≤ S.row = omega (arith, good.rows, good.words) in
      ap (λ (a : ℕ). stored_bytes (bytes (numbers_of p)) a x 8) at
      ∙ store_bytes (numbers_of p) (numbers_of new) i x 8 (omega (arith, rows_inside m S.row v (8 * k + 7) l (omega arith)))
      (λ a b.
      let e : i + a ≡ S.row * v + (8 * k + a) = omega arith in
      sym (ap (numbers_of new) e ∙ rows_at (λ u. row_byte (new u)) S.row v (8 * k + a) (omega arith)
      ∙ row_byte-of (x / 2 ^ (8 * a) % 256) (omega arith) (new v) (8 * k + a) (λ j t.
      let z : 8 * (8 * k + a) + j ≡ 64 * k + (8 * a + j) = omega arith in
      word_in p v k q v (8 * (8 * k + a) + j) refl (omega arith) (omega arith) ∙ ap q z ∙ sym (same (8 * a + j) (omega arith)) ∙ sym (bit_byte x a j t))))
      (λ u b n. rows_ext _ _ m S.row u b (λ w y d h e.
      row_byte-ext (p w) (new w) y (λ j t. sym (word_out p v k q w (8 * y + j) (λ z s r.
      n (omega (arith, ap (λ (o : ℕ). S.row * o) z)) (omega (arith, ap (λ (o : ℕ). S.row * o) z)))))))
