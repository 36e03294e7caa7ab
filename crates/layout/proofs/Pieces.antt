-- A number set in the bytes of some parts, for a number of any width in any part; and one bit set in the byte of a row. Assumes nothing.
use mathlib.Core.Path.{◌≡◌, refl, sym, ap, ap₂, ◌∙◌}
use mathlib.Core.Logic.{◌≢◌, inl, inr}
use mathlib.Core.Bool.{Bool, true, false}
use mathlib.Core.List.{List, [], ◌∷◌, ◌++◌, append_assoc, append-nil}
use Prim.Native.Nat.{ℕ, zero, suc, ◌+◌, ◌-◌, ◌*◌, ◌/◌, ◌%◌, ◌^◌, ◌≤◌, ◌<◌}
use native.Mathlib.Nat.{mul-suc, mul_comm, mul-le-mul_left}
use native.Mathlib.Omega.{arith}
use lib.Dec.{eqb}
use lib.ListN.{length, set, length-set}
use lib.Seq.{set-append_left}
use lib.Bits.{bit_and, bit_or, or_lt, and_le_l, or_zero_r, and_zero_r}
use lib.Pow.{pow-lt}
use borrow.Author.Tests.{eq-eqb, ne_eqb}
use Rattle.model.specs.Counting.{bit, each_onto, each, upd}
use Rattle.model.specs.Parts.{num, bit_of, row_byte, Part, bytes_of}
use Rattle.model.proofs.Tests.{eq?}
use Rattle.model.proofs.Counting.{sum-eq}
use Rattle.model.proofs.Lists.{upd_same, upd_other}
use Rattle.model.proofs.Chunks.{each-length, each-ext, row_byte-small, bit-row_byte, row_byte-of}
use Rattle.model.proofs.Parts.{num-length, span, chunks, chunks-length, part_at, offset}
use Rattle.bitset.proofs.Digits.{digit, digit_lt, digit_or, digit_and, digit-bit, digit-hole, or-one, and_one}
use Rattle.layout.specs.Setters.{set_num, put}

-- ---- a number set in a list

-- what is set behind a front of n elements leaves the front as it is
set-behind : (a b : List ℕ) (n i x : ℕ) → length a ≡ n → set (a ++ b) (n + i) x ≡ a ++ set b i x
set-behind [] b n i x e = ap (λ (k : ℕ). set b k x) (omega arith)
set-behind (y ∷ a) b n i x e =
    let k : n + i ≡ suc (length a + i) = omega arith in
    ap (λ (m : ℕ). set (y ∷ (a ++ b)) m x) k ∙ ap (λ (l : List ℕ). y ∷ l) (set-behind a b (length a) i x refl)

set_num-behind : (w : ℕ) (a b : List ℕ) (n i x : ℕ) → length a ≡ n → set_num w (a ++ b) (n + i) x ≡ a ++ set_num w b i x
unfolding set_num
set_num-behind zero a b n i x e = refl
set_num-behind (suc zero) a b n i x e = set-behind a b n i x e
set_num-behind (suc (suc w)) a b n i x e =
    let q : n + i + 1 ≡ n + (i + 1) = omega arith in
    ap₂ (λ (l : List ℕ) (m : ℕ). set_num (suc w) l m (x / 256)) (set-behind a b n i (x % 256) e) q
    ∙ set_num-behind (suc w) a (set b i (x % 256)) n (i + 1) (x / 256) e

-- what is set within a front leaves the rest as it is
set_num-left : (w : ℕ) (a b : List ℕ) (i x : ℕ) → i + w ≤ length a → set_num w (a ++ b) i x ≡ set_num w a i x ++ b
unfolding set_num
set_num-left zero a b i x h = refl
set_num-left (suc zero) a b i x h = set-append_left a b i x (omega arith)
set_num-left (suc (suc w)) a b i x h =
    ap (λ (l : List ℕ). set_num (suc w) l (i + 1) (x / 256)) (set-append_left a b i (x % 256) (omega arith))
    ∙ set_num-left (suc w) (set a i (x % 256)) b (i + 1) (x / 256) (simp length-set (omega arith))

-- a number set over one of its width
set_num-over : (w y x : ℕ) → set_num w (num w y) 0 x ≡ num w x
unfolding set_num num
set_num-over zero y x = refl
set_num-over (suc zero) y x = refl
set_num-over (suc (suc w)) y x =
    set_num-behind (suc w) (x % 256 ∷ []) (num (suc w) (y / 256)) 1 0 (x / 256) refl
    ∙ ap (λ (l : List ℕ). x % 256 ∷ l) (set_num-over (suc w) (y / 256) (x / 256))

-- ---- a number set among numbers of its width

-- one chunk more
onto-append : (f : ℕ → List ℕ) (n : ℕ) (l : List ℕ) → each_onto f n l ≡ each n f ++ l
unfolding each each_onto
onto-append f zero l = refl
onto-append f (suc n) l =
    onto-append f n (f n ++ l) ∙ sym (append_assoc (each n f) (f n) l)
    ∙ ap (λ (k : List ℕ). k ++ l) (ap (λ (k : List ℕ). each n f ++ k) (sym (append-nil (f n))) ∙ sym (onto-append f n (f n ++ [])))

pub each_next : (f : ℕ → List ℕ) (n : ℕ) → each (suc n) f ≡ each n f ++ f n
unfolding each each_onto
each_next f n = onto-append f n (f n ++ []) ∙ ap (λ (k : List ℕ). each n f ++ k) (append-nil (f n))

-- number i becomes x: only its chunk changes
module _ (w : ℕ) (f g : ℕ → ℕ) where
  abbrev old : ℕ → List ℕ
  old i = num w (f i)

  abbrev new : ℕ → List ℕ
  new i = num w (g i)

  set-each : (n i x : ℕ) → i < n → x ≡ g i → ((u : ℕ) → u < n → u ≢ i → f u ≡ g u) → set_num w (each n old) (w * i) x ≡ each n new
  set-each zero i x l e other = absurd (omega arith)
  set-each (suc n) i x l e other =
      let long : length (each n old) ≡ w * n = each-length w old (λ u. num-length w (f u)) n ∙ mul_comm n w in
      ap (λ (s : List ℕ). set_num w s (w * i) x) (each_next old n) ∙ elim (eq? i n) [
        | inl d ↦
            let at : w * i ≡ w * n + 0 = omega (arith, ap (λ (m : ℕ). w * m) d) in
            ap (λ (m : ℕ). set_num w (each n old ++ old n) m x) at ∙ set_num-behind w (each n old) (old n) (w * n) 0 x long
            ∙ ap₂ (λ (s t : List ℕ). s ++ t) (each-ext old new n (λ u b. ap (num w) (other u (omega arith) (omega arith))))
            (set_num-over w (f n) x ∙ ap (num w) (e ∙ ap g d))
        | inr d ↦
            let before : suc i ≤ n = omega arith in
            set_num-left w (each n old) (old n) (w * i) x (omega (arith, long, mul-suc w i, mul-le-mul_left w before))
            ∙ ap₂ (λ (s t : List ℕ). s ++ t) (set-each n i x (omega arith) e (λ u b. other u (omega arith))) (ap (num w) (other n (omega arith) (omega arith)))
      ] ∙ sym (each_next new n)

-- ---- a number set in one of some parts

pub put-ext : (k : ℕ) (ps : List Part) (f g : ℕ → ℕ) → ((u : ℕ) → u < (part_at k ps).many → f u ≡ g u) → bytes_of (put k f ps) ≡ bytes_of (put k g ps)
unfolding bytes_of
put-ext k [] f g h = refl
put-ext zero (p ∷ ps) f g h = ap (λ (s : List ℕ). s ++ bytes_of ps) (each-ext _ _ p.many (λ u l. ap (num p.width) (h u l)))
put-ext (suc k) (p ∷ ps) f g h = ap (λ (s : List ℕ). chunks p ++ s) (put-ext k ps f g h)

-- What every setter does: number i of part k becomes x.
pub set-part : (k : ℕ) (ps : List Part) (g : ℕ → ℕ) (i at x : ℕ) → i < (part_at k ps).many → at ≡ offset k ps + (part_at k ps).width * i → x ≡ g i
    → ((u : ℕ) → u < (part_at k ps).many → u ≢ i → (part_at k ps).number u ≡ g u) → set_num (part_at k ps).width (bytes_of ps) at x ≡ bytes_of (put k g ps)
unfolding bytes_of
set-part k [] g i at x l e same other = absurd (omega arith)
set-part zero (p ∷ ps) g i at x l e same other =
    let w : ℕ = p.width in
    let here : at ≡ w * i = omega arith in
    ap (λ (m : ℕ). set_num w (bytes_of (p ∷ ps)) m x) here
    ∙ set_num-left w (chunks p) (bytes_of ps) (w * i) x (omega (arith, chunks-length p, mul-suc w i, mul-le-mul_left w l))
    ∙ ap (λ (s : List ℕ). s ++ bytes_of ps) (set-each w p.number g p.many i x l same other)
set-part (suc k) (p ∷ ps) g i at x l e same other =
    let w : ℕ = (part_at k ps).width in
    let from : ℕ = offset k ps + w * i in
    let there : at ≡ span p + from = omega arith in
    ap (λ (m : ℕ). set_num w (bytes_of (p ∷ ps)) m x) there
    ∙ set_num-behind w (chunks p) (bytes_of ps) (span p) from x (chunks-length p)
    ∙ ap (λ (s : List ℕ). chunks p ++ s) (set-part k ps g i from x l refl same other)

-- ---- the byte of a row

-- the byte of a row is known by the eight places that it holds
pub row_byte-ext : (p q : ℕ → Bool) (k : ℕ) → ((b : ℕ) → b < 8 → p (8 * k + b) ≡ q (8 * k + b)) → row_byte p k ≡ row_byte q k
unfolding row_byte
row_byte-ext p q k h = sum-eq _ _ 8 (λ b l. ap (λ (t : Bool). 2 ^ b * bit t) (h b l))

-- a byte with one bit put in, or taken out
or_same : (x j : ℕ) → j < 8 → bit_of (bit_or x (2 ^ j)) j ≡ true
unfolding bit_of digit
or_same x j h =
    eq-eqb _ 1 (digit_or x (2 ^ j) j ∙ ap (bit_or (digit x j)) (digit-bit j j h h ∙ ap bit (eq-eqb j j refl)) ∙ or-one _ (digit_lt x j))

or-other : (x j i : ℕ) → j < 8 → i < 8 → i ≢ j → bit_of (bit_or x (2 ^ j)) i ≡ bit_of x i
unfolding bit_of digit
or-other x j i h l d =
    ap (λ (n : ℕ). eqb n 1)
    (digit_or x (2 ^ j) i ∙ ap (bit_or (digit x i)) (digit-bit j i h l ∙ ap bit (ne_eqb j i (λ e. d (sym e)))) ∙ or_zero_r (digit x i))

and_same : (x j : ℕ) → j < 8 → bit_of (bit_and x (255 - 2 ^ j)) j ≡ false
unfolding bit_of digit
and_same x j h =
    ap (λ (n : ℕ). eqb n 1)
    (digit_and x (255 - 2 ^ j) j ∙ ap (bit_and (digit x j)) (digit-hole j j h h ∙ ap (λ (b : Bool). 1 - bit b) (eq-eqb j j refl)) ∙ and_zero_r (digit x j))

and-other : (x j i : ℕ) → j < 8 → i < 8 → i ≢ j → bit_of (bit_and x (255 - 2 ^ j)) i ≡ bit_of x i
unfolding bit_of digit
and-other x j i h l d =
    ap (λ (n : ℕ). eqb n 1)
    (digit_and x (255 - 2 ^ j) i
    ∙ ap (bit_and (digit x i)) (digit-hole j i h l ∙ ap (λ (b : Bool). 1 - bit b) (ne_eqb j i (λ e. d (sym e))))
    ∙ and_one (digit x i) (digit_lt x i))

-- so the byte that holds place w, where the bit of w is b and the others are as before, is the byte of the row changed at w
changed : (p : ℕ → Bool) (w : ℕ) (b : Bool) (x : ℕ) → x < 256 → bit_of x (w % 8) ≡ b
    → ((i : ℕ) → i < 8 → i ≢ w % 8 → bit_of x i ≡ bit_of (row_byte p (w / 8)) i) → x ≡ row_byte (upd p w b) (w / 8)
changed p w b x h same other =
    sym (row_byte-of x h (upd p w b) (w / 8) (λ i l. elim (eq? i (w % 8)) [
      | inl e ↦ upd_same p w b (8 * (w / 8) + i) (omega arith) ∙ sym same ∙ ap (bit_of x) (sym e)
      | inr e ↦
          upd_other p w b (8 * (w / 8) + i) (λ q. e (omega arith)) ∙ sym (bit-row_byte p (w / 8) i l) ∙ sym (other i l e)
    ]))

pub row_byte-or : (p : ℕ → Bool) (w : ℕ) → bit_or (row_byte p (w / 8)) (2 ^ (w % 8)) ≡ row_byte (upd p w true) (w / 8)
row_byte-or p w =
    changed p w true (bit_or (row_byte p (w / 8)) (2 ^ (w % 8)))
    (or_lt 8 (row_byte p (w / 8)) (2 ^ (w % 8)) (row_byte-small p (w / 8)) (pow-lt {i = w % 8} {j = 8} (omega arith)))
    (or_same (row_byte p (w / 8)) (w % 8) (omega arith))
    (λ i l d. or-other (row_byte p (w / 8)) (w % 8) i (omega arith) l d)

pub row_byte-and : (p : ℕ → Bool) (w : ℕ) → bit_and (row_byte p (w / 8)) (255 - 2 ^ (w % 8)) ≡ row_byte (upd p w false) (w / 8)
row_byte-and p w =
    changed p w false (bit_and (row_byte p (w / 8)) (255 - 2 ^ (w % 8)))
    (omega (arith, row_byte-small p (w / 8), and_le_l (row_byte p (w / 8)) (255 - 2 ^ (w % 8))))
    (and_same (row_byte p (w / 8)) (w % 8) (omega arith))
    (λ i l d. and-other (row_byte p (w / 8)) (w % 8) i (omega arith) l d)
