-- Stretches of the rack's bytes that are one byte throughout, as facts of the fields in them, and the rows of all vertices as one row of
-- bits. Assumes nothing.
use mathlib.Core.Path.{◌≡◌, refl, sym, ap, ap₂, ◌∙◌, subst}
use mathlib.Core.Logic.{inl, inr}
use mathlib.Core.Bool.{Bool}
use mathlib.Core.List.{List}
use Prim.Native.Nat.{ℕ, zero, suc, ◌+◌, ◌-◌, ◌*◌, ◌/◌, ◌%◌, ◌≤◌, ◌<◌}
use native.Mathlib.Nat.{mul_comm, mul-suc, mul-le-mul_left, add_assoc, div-lt_iff_lt-mul, le-div_iff_mul-le, mod-lt, div-add-mod}
use native.Mathlib.Omega.{arith}
use lib.Dec.{T}
use lib.ListN.{length, get_or, take, drop, length-take, length-drop}
use lib.Seq.{get_or-take, get_or-drop}
use Rattle.model.specs.Counting.{sum, count}
use Rattle.model.specs.Shape.{Shape, GoodShape, ranks_from, mates_from, phis_from, rows_from, rosters_from, rack_length}
use Rattle.model.specs.Bytes.{no_mate, rank_at, mate_at, phi_at, in_row, owns_at, roster_at}
use Rattle.model.specs.Parts.{num_at, num, bit_of}
use Rattle.model.specs.Valid.{IsBytes}
use Rattle.model.proofs.Tests.{eq?}
use Rattle.model.proofs.Parts.{num-back, num-is, rows_inside}
use Rattle.model.proofs.Prefix.{count-zero, count_add, count-ext}
use Rattle.model.proofs.Facts.{Says}
use Rattle.bitset.specs.Row.{member, size}
use Rattle.bitset.specs.Words.{Rest}
use Rattle.bitset.proofs.Digits.{digit, digit_lt, digit-bit_of, bit_of-digit, digits-ext}
use Rattle.bitset.proofs.Words.{digit-zero}
use Rattle.bitset.proofs.Laws.{member-part}
use Rattle.layout.specs.Setters.{Sized, NumberAt, place_in, row_place}
use Rattle.layout.specs.Rows.{degree_at}
use Rattle.layout.proofs.Said.{says-by}
use Rattle.layout.proofs.Rows.{row-place, owns-place}

-- ---- one byte throughout

-- every byte from a to e, as the code cuts them out, is z
abbrev pub AllFrom : List ℕ → ℕ → ℕ → ℕ → Type 0
AllFrom bs a e z = (k : ℕ) → k < length (take (e - a) (drop a bs)) → get_or (take (e - a) (drop a bs)) k 0 ≡ z

-- they are bytes p to q of a part that begins at `from`
pub cut-says : (bs : List ℕ) (from p q a e z : ℕ) {b : Bool} → p ≤ q → a ≡ from + p → e ≡ from + q → e ≤ length bs
    → Says b (AllFrom bs a e z) → Says b ((i : ℕ) → i < q → p ≤ i → get_or bs (from + i) 0 ≡ z)
cut-says bs from p q a e z up begins ends l =
    let long : length (take (e - a) (drop a bs)) ≡ e - a = simp (length-take, length-drop) (omega arith) in
    let same : (k : ℕ) → k < e - a → get_or (take (e - a) (drop a bs)) k 0 ≡ get_or bs (from + (p + k)) 0 =
    λ k h. get_or-take (e - a) (drop a bs) k 0 h ∙ get_or-drop a bs k 0 ∙ ap (λ (x : ℕ). get_or bs x 0) {y = from + (p + k)} (omega arith) in
    says-by
    (λ f i h g.
    let there : p + (i - p) ≡ i = omega arith in
    ap (λ (x : ℕ). get_or bs (from + x) 0) (sym there) ∙ sym (same (i - p) (omega arith)) ∙ f (i - p) (omega (arith, long)))
    (λ f k h. same k (omega (arith, long)) ∙ f (p + k) (omega (arith, long)) (omega arith))

-- rows of k entries as one list, row after row: those from row n on
table-says : {b : Bool} {P : ℕ → Type 0} (k n m : ℕ) → 1 ≤ k → Says b ((i : ℕ) → i < k * m → k * n ≤ i → P i)
    → Says b ((v : ℕ) → v < m → n ≤ v → (j : ℕ) → j < k → P (k * v + j))
table-says {P = P} k n m some =
    says-by (λ f v h l j t. f (k * v + j) (omega (arith, rows_inside m k v j h t, mul_comm m k)) (omega (arith, mul-le-mul_left k l)))
    (λ f i h l.
    let below : i / k < m = (div-lt_iff_lt-mul {k = k} {x = i} {y = m} some).1 (omega (arith, mul_comm m k)) in
    let above : n ≤ i / k = (le-div_iff_mul-le {k = k} {x = n} {y = i} some).1 (omega (arith, mul_comm n k)) in
    subst P (div-add-mod i k) (f (i / k) below above (i % k) (mod-lt i {m = k} some)))

-- x is the number of w bytes z
Alike : ℕ → ℕ → ℕ → Type 0
Alike w x z = (i : ℕ) → i < w → get_or (num w x) i 0 ≡ z

alike-zero : (w : ℕ) → Alike w 0 0
unfolding Alike num
alike-zero zero i l = absurd (omega arith)
alike-zero (suc zero) zero l = refl
alike-zero (suc zero) (suc i) l = absurd (omega arith)
alike-zero (suc (suc w)) zero l = refl
alike-zero (suc (suc w)) (suc i) l = alike-zero (suc w) i (omega arith)

alike-free : Alike 2 no_mate 255
unfolding Alike num
alike-free zero l = refl
alike-free (suc zero) l = refl
alike-free (suc (suc i)) l = absurd (omega arith)

-- numbers n to m of w bytes each are x throughout exactly if their bytes are z throughout
span-says : (bs : List ℕ) → IsBytes bs → (from w n m a e x z : ℕ) {b : Bool} → 1 ≤ w → Alike w x z → n ≤ m
    → a ≡ from + w * n → e ≡ from + w * m → e ≤ length bs
    → Says b (AllFrom bs a e z) → Says b ((i : ℕ) → i < m → n ≤ i → num_at w bs (from + w * i) ≡ x)
unfolding Alike
span-says bs bytes from w n m a e x z some alike up begins ends l s =
    says-by
    (λ f i h g. num-back w x some bs (from + w * i) (λ j t. ap (λ (k : ℕ). get_or bs k 0) (add_assoc from (w * i) j) ∙ f i h g j t ∙ sym (alike j t)))
    (λ f i h g j t. ap (λ (k : ℕ). get_or bs k 0) (sym (add_assoc from (w * i) j)) ∙ num-is w bs bytes (from + w * i) x (f i h g) j t ∙ alike j t)
    (table-says {P = λ i. get_or bs (from + i) 0 ≡ z} w n m some
    (cut-says bs from (w * n) (w * m) a e z (mul-le-mul_left w up) begins ends l s))

-- a byte is zero exactly if no bit of it is set
zero_bits : (x : ℕ) → x ≡ 0 → (j : ℕ) → T (bit_of x j) → ⊥
zero_bits x e j t = omega (arith, bit_of-digit x j t, ap (λ (y : ℕ). digit y j) e ∙ digit-zero j)

bits-zero : (x : ℕ) → x < 256 → ((j : ℕ) → j < 8 → T (bit_of x j) → ⊥) → x ≡ 0
bits-zero x h f = digits-ext 8 x 0 h (omega arith) (λ j l. elim (eq? (digit x j) 1) [
  | inl e ↦ absurd (f j l (digit-bit_of x j e))
  | inr e ↦ omega (arith, digit_lt x j, digit-zero j)
])

-- Each field from vertex n on. Where the counts begin is given, since the code leaves out the factor 1 of a count of one byte.
module _ {S : Shape} (good : GoodShape S) (bs : List ℕ) (sized : Sized S bs) (n : ℕ) (up : n ≤ S.most) {b : Bool} where
  pub span-ranks : Says b (AllFrom bs (ranks_from + n) (mates_from S) 0) → Says b ((v : ℕ) → v < S.most → n ≤ v → rank_at bs v ≡ 0)
  unfolding rank_at
  span-ranks = cut-says bs ranks_from n S.most (ranks_from + n) (mates_from S) 0 up refl refl (omega arith)

  pub span-mates : IsBytes bs → Says b (AllFrom bs (mates_from S + 2 * n) (phis_from S) 255)
      → Says b ((v : ℕ) → v < S.most → n ≤ v → mate_at S bs v ≡ no_mate)
  unfolding mate_at
  span-mates bytes =
      span-says bs bytes (mates_from S) 2 n S.most (mates_from S + 2 * n) (phis_from S) no_mate 255 (omega arith) alike-free up refl refl (omega arith)

  pub span_counts : IsBytes bs → (at : ℕ) → at ≡ phis_from S + S.width * (S.levels * n) → Says b (AllFrom bs at (rows_from S) 0)
      → Says b ((v : ℕ) → v < S.most → n ≤ v → (j : ℕ) → j < S.levels → phi_at S bs v j ≡ 0)
  unfolding phi_at
  span_counts bytes at e s =
      table-says {P = λ i. num_at S.width bs (phis_from S + S.width * i) ≡ 0} S.levels n S.most good.high
      (span-says bs bytes (phis_from S) S.width (S.levels * n) (S.levels * S.most) at (rows_from S) 0 0
      good.wide (alike-zero S.width) (mul-le-mul_left S.levels up) e
      (ap (λ (x : ℕ). phis_from S + S.width * x) (mul_comm S.most S.levels)) (omega arith) s)

-- rows n to m of the rows of bits that stand from byte `from` on are empty exactly if their bytes are zero
span-bits : {S : Shape} → GoodShape S → (bs : List ℕ) → IsBytes bs → (from n m a e : ℕ) {b : Bool} → n ≤ m → a ≡ from + S.row * n → e ≡ from + S.row * m
    → e ≤ length bs → Says b (AllFrom bs a e 0) → Says b ((v : ℕ) → v < m → n ≤ v → (w : ℕ) → w < S.most → T (in_row S bs from v w) → ⊥)
span-bits {S} good bs bytes from n m a e up begins ends l s =
    let byte : ℕ → ℕ → ℕ = λ v k. get_or bs (from + (S.row * v + k)) 0 in
    says-by (λ f v h g w t. zero_bits (byte v (w / 8)) (f v h g (w / 8) (omega (arith, good.rows))) (w % 8))
    (λ f v h g k t. bits-zero (byte v k) (bytes (from + (S.row * v + k))) (λ j i o.
    let at : k ≡ (8 * k + j) / 8 = omega arith in
    let bit : j ≡ (8 * k + j) % 8 = omega arith in
    f v h g (8 * k + j) (omega (arith, good.rows)) (subst T (ap₂ (λ (x y : ℕ). bit_of (byte v x) y) at bit) o)))
    (table-says {P = λ i. get_or bs (from + i) 0 ≡ 0} S.row n m good.some
    (cut-says bs from (S.row * n) (S.row * m) a e 0 (mul-le-mul_left S.row up) begins ends l s))

module _ {S : Shape} (good : GoodShape S) (bs : List ℕ) (sized : Sized S bs) (bytes : IsBytes bs) (n : ℕ) {b : Bool} where
  pub span-rows : n ≤ S.most → Says b (AllFrom bs (rows_from S + S.row * n) (rosters_from S) 0)
      → Says b ((v : ℕ) → v < S.most → n ≤ v → (w : ℕ) → w < S.most → T (owns_at S bs v w) → ⊥)
  unfolding owns_at
  span-rows up = span-bits good bs bytes (rows_from S) n S.most _ _ up refl (omega (arith, mul_comm S.most S.row)) (omega arith)

  pub span-rosters : n ≤ suc S.levels → Says b (AllFrom bs (rosters_from S + S.row * n) (rack_length S) 0)
      → Says b ((r : ℕ) → r < suc S.levels → n ≤ r → (v : ℕ) → v < S.most → T (roster_at S bs r v) → ⊥)
  unfolding roster_at
  span-rosters up =
      span-bits good bs bytes (rosters_from S) n (suc S.levels) _ _ up refl (omega (arith, mul_comm (suc S.levels) S.row)) (omega arith)

-- ---- words and rows

-- A word of row v, of those that stand from byte `from` on.
pub word_row : {S : Shape} (bs : List ℕ) {from v at : ℕ} (k x : ℕ) → NumberAt S from S.row v at
    → Rest (λ j. member bs (8 * (at + 8 * k) + j)) 0 x → Rest (λ j. in_row S bs from v (64 * k + j)) 0 x
word_row {S} bs {from} {v} {at} k x place r = record {
  fits = r.fits;
  none = r.none;
  same = λ j a b.
      let e : 8 * (at + 8 * k) + j ≡ place_in S from v (64 * k + j) = omega (arith, place.at) in
      r.same j a b ∙ ap (member bs) e ∙ row-place S bs from v (64 * k + j);
}

-- The rows of the vertices below n, as one row.
module _ {S : Shape} (good : GoodShape S) (bs : List ℕ) where
  count-rows : (n : ℕ) → count (λ w. member bs (8 * rows_from S + w)) (8 * (S.row * n)) ≡ sum (degree_at S bs) n
  unfolding sum degree_at
  count-rows zero = ap (count (λ w. member bs (8 * rows_from S + w))) (omega arith) ∙ count-zero (λ w. member bs (8 * rows_from S + w))
  count-rows (suc n) =
      let p : ℕ → Bool = λ w. member bs (8 * rows_from S + w) in
      let before : ℕ = 8 * (S.row * n) in
      let e : 8 * (S.row * suc n) ≡ before + S.most = omega (arith, mul-suc S.row n, good.rows) in
      let there : (j : ℕ) → 8 * rows_from S + (before + j) ≡ row_place S n j = λ j. omega arith in
      omega (
        arith,
        ap (count p) e,
        count_add p before S.most,
        count-ext (λ j. p (before + j)) (owns_at S bs n) S.most (λ j h. ap (member bs) (there j) ∙ owns-place S bs n j),
        count-rows n,
      )

  pub size-rows : (n : ℕ) → Sized S bs → n ≤ S.most
      → size (take (rows_from S + S.row * n - rows_from S) (drop (rows_from S) bs)) ≡ sum (degree_at S bs) n
  unfolding size
  size-rows n sized h =
      let m : ℕ = rows_from S + S.row * n - rows_from S in
      let part : List ℕ = take m (drop (rows_from S) bs) in
      let long : length part ≡ m = simp (length-take, length-drop) (omega (arith, mul-le-mul_left S.row h, mul_comm S.row S.most)) in
      let e : 8 * length part ≡ 8 * (S.row * n) = omega (arith, long) in
      ap (count (member part)) e
      ∙ count-ext (member part) (λ w. member bs (8 * rows_from S + w)) (8 * (S.row * n)) (λ w b. member-part bs (rows_from S) m w (omega arith))
      ∙ count-rows n
