-- Parts of bytes: what the bytes of a list of parts have, where, and that they are the only ones. Assumes nothing.
use mathlib.Core.Path.{◌≡◌, refl, sym, ap, ap₂, ◌∙◌}
use mathlib.Core.Logic.{inl, inr}
use mathlib.Core.List.{List, [], ◌∷◌, ◌++◌}
use Prim.Native.Nat.{ℕ, zero, suc, ◌+◌, ◌-◌, ◌*◌, ◌/◌, ◌%◌, ◌^◌, ◌≤◌, ◌<◌}
use native.Mathlib.Nat.{mul_comm, mul-suc, mul-le-mul_left, pow-succ', add_assoc, zero-add, div-lt_iff_lt-mul, mod-lt, div-add-mod, mul-add-div, div-eq_of_lt}
use native.Mathlib.Omega.{arith}
use lib.ListN.{length, get_or, length-append, get_or-append}
use lib.Seq.{ext_get_or}
use Rattle.model.specs.Counting.{each_onto, each}
use Rattle.model.specs.Parts.{num_at, num, Part, numbers, by_rows, bytes_of}
use Rattle.model.specs.Valid.{IsBytes}
use Rattle.model.proofs.Tests.{eq?, le?}
use Rattle.model.proofs.Chunks.{each-length, each_at, each-ext, behind}

-- ---- a number in some bytes

pub num-length : (w x : ℕ) → length (num w x) ≡ w
unfolding num
num-length zero x = refl
num-length (suc zero) x = refl
num-length (suc (suc w)) x = ap suc (num-length (suc w) (x / 256))

-- bytes that stand one after the other are read back as the number that they were made of
pub num-back : (w x : ℕ) → 1 ≤ w → (bs : List ℕ) (k : ℕ) → ((i : ℕ) → i < w → get_or bs (k + i) 0 ≡ get_or (num w x) i 0) → num_at w bs k ≡ x
unfolding num num_at
num-back zero x h bs k f = absurd (omega arith)
num-back (suc zero) x h bs k f = ap (λ (m : ℕ). get_or bs m 0) (omega arith) ∙ f 0 (omega arith)
num-back (suc (suc w)) x h bs k f =
    let lo : get_or bs k 0 ≡ x % 256 = ap (λ (m : ℕ). get_or bs m 0) (omega arith) ∙ f 0 (omega arith) in
    let hi : num_at (suc w) bs (k + 1) ≡ x / 256 =
    num-back (suc w) (x / 256) (omega arith) bs (k + 1)
    (λ i l. ap (λ (m : ℕ). get_or bs m 0) (omega arith) ∙ f (suc i) (omega arith)) in
    omega (arith, lo, hi)

-- bytes are those of the number that they make
pub num-is : (w : ℕ) (bs : List ℕ) → IsBytes bs → (k x : ℕ) → num_at w bs k ≡ x → (i : ℕ) → i < w → get_or bs (k + i) 0 ≡ get_or (num w x) i 0
unfolding num num_at
num-is zero bs h k x e i l = absurd (omega arith)
num-is (suc zero) bs h k x e zero l = ap (λ (m : ℕ). get_or bs m 0) {y = k} (omega arith) ∙ e
num-is (suc zero) bs h k x e (suc i) l = absurd (omega arith)
num-is (suc (suc w)) bs h k x e zero l = ap (λ (m : ℕ). get_or bs m 0) {y = k} (omega arith) ∙ omega (arith, e, h k)
num-is (suc (suc w)) bs h k x e (suc i) l =
    ap (λ (m : ℕ). get_or bs m 0) (omega arith) ∙ num-is (suc w) bs h (k + 1) (x / 256) (omega (arith, e, h k)) i (omega arith)

-- a number that fits is of bytes
num-small : (w x : ℕ) → x < 256 ^ w → IsBytes (num w x)
unfolding num
num-small zero x h k = omega arith
num-small (suc zero) x h zero = omega arith
num-small (suc zero) x h (suc k) = omega arith
num-small (suc (suc w)) x h zero = omega arith
num-small (suc (suc w)) x h (suc k) = num-small (suc w) (x / 256) (omega (arith, pow-succ' 256 (suc w))) k

-- ---- a table of rows of k entries, row after row

pub rows-div : (k v j : ℕ) → j < k → (k * v + j) / k ≡ v
rows-div k v j l = mul-add-div (omega arith) v j ∙ omega (arith, div-eq_of_lt l)

pub rows-mod : (k v j : ℕ) → j < k → (k * v + j) % k ≡ j
rows-mod k v j l = omega (arith, div-add-mod (k * v + j) k, ap (λ (x : ℕ). k * x) (rows-div k v j l))

pub rows_at : (f : ℕ → ℕ → ℕ) (k v j : ℕ) → j < k → by_rows k f (k * v + j) ≡ f v j
rows_at f k v j l = ap (f ((k * v + j) / k)) (rows-mod k v j l) ∙ ap (λ (x : ℕ). f x j) (rows-div k v j l)

-- entry j of row v, of m rows, stands within them
pub rows_inside : (m k v j : ℕ) → v < m → j < k → k * v + j < m * k
rows_inside m k v j l h = omega (arith, mul-le-mul_left k l, mul-suc k v, mul_comm m k)

-- and every entry has a row and a place there
pub in_rows : (m k i : ℕ) → i < m * k → (i / k < m) × (i % k < k)
in_rows m k i l = elim (eq? k 0) [
  | inl z ↦ absurd (omega (arith, ap (λ (x : ℕ). m * x) z))
  | inr z ↦
      let some : 1 ≤ k = omega arith in
      ((div-lt_iff_lt-mul {k = k} {x = i} {y = m} some).1 l, mod-lt i {m = k} some)
]

-- tables have the same entry i if they have where it stands in its row
pub rows_ext : (f g : ℕ → ℕ → ℕ) (m k i : ℕ) → i < m * k → ((v j : ℕ) → v < m → j < k → i ≡ k * v + j → f v j ≡ g v j) → by_rows k f i ≡ by_rows k g i
rows_ext f g m k i l same = let p = in_rows m k i l in same (i / k) (i % k) p.0 p.1 (sym (div-add-mod i k))

-- ---- the parts

-- the bytes of one part, and of all
abbrev pub chunks : Part → List ℕ
chunks p = each p.many (λ i. num p.width (p.number i))

abbrev pub span : Part → ℕ
span p = p.width * p.many

abbrev pub total : List Part → ℕ
total [] = 0
total (p ∷ ps) = span p + total ps

pub chunks-length : (p : Part) → length (chunks p) ≡ span p
chunks-length p =
    each-length p.width (λ i. num p.width (p.number i)) (λ i. num-length p.width (p.number i)) p.many ∙ mul_comm p.many p.width

pub bytes-length : (ps : List Part) → length (bytes_of ps) ≡ total ps
unfolding bytes_of
bytes-length [] = refl
bytes-length (p ∷ ps) = length-append (chunks p) (bytes_of ps) ∙ omega (arith, chunks-length p, bytes-length ps)

-- part k, from 0, and where it begins
abbrev pub part_at : ℕ → List Part → Part
part_at k [] = numbers 0 0 (λ i. 0)
part_at zero (p ∷ ps) = p
part_at (suc k) (p ∷ ps) = part_at k ps

abbrev pub offset : ℕ → List Part → ℕ
offset k [] = 0
offset zero (p ∷ ps) = 0
offset (suc k) (p ∷ ps) = span p + offset k ps

-- what is said of a part, and of the parts after it
pub next : {P Q : Type 0} → P → Q → P × Q
next p q = (p, q)

-- from `at` on, the bytes bs have the numbers of the parts
unfoldable pub Has : List ℕ → ℕ → List Part → Type 0
Has bs at [] = Unit
Has bs at (p ∷ ps) = ((i : ℕ) → i < p.many → 1 ≤ p.width → num_at p.width bs (at + p.width * i) ≡ p.number i) × Has bs (at + span p) ps

-- .. and those of the parts themselves
Stands : List ℕ → ℕ → List Part → Type 0
Stands bs at ps = (j : ℕ) → j < total ps → get_or bs (at + j) 0 ≡ get_or (bytes_of ps) j 0

-- what stands in the first part, and behind it
first-at : (p : Part) (ps : List Part) (i b : ℕ) → i < p.many → b < p.width → get_or (bytes_of (p ∷ ps)) (p.width * i + b) 0 ≡ get_or (num p.width (p.number i)) b 0
unfolding bytes_of
first-at p ps i b l c =
    get_or-append (chunks p) (bytes_of ps) 0 (p.width * i + b)
    (omega (arith, chunks-length p, mul-le-mul_left p.width l, mul-suc p.width i))
    ∙ each_at p.width (λ i. num p.width (p.number i)) (λ i. num-length p.width (p.number i)) p.many i b 0 l c

after_first : (p : Part) (ps : List Part) (j : ℕ) → get_or (bytes_of (p ∷ ps)) (span p + j) 0 ≡ get_or (bytes_of ps) j 0
unfolding bytes_of
after_first p ps j = behind (chunks p) (bytes_of ps) (span p) j (chunks-length p)

has_of : (ps : List Part) (bs : List ℕ) (at : ℕ) → Stands bs at ps → Has bs at ps
unfolding Has Stands
has_of [] bs at h = tt
has_of (p ∷ ps) bs at h = (
  λ i l w. num-back p.width (p.number i) w bs (at + p.width * i) (λ b c.
      let in-part : p.width * i + b < span p = omega (arith, mul-le-mul_left p.width l, mul-suc p.width i) in
      ap (λ (x : ℕ). get_or bs x 0) (add_assoc at (p.width * i) b) ∙ h (p.width * i + b) (omega arith) ∙ first-at p ps i b l c),
  has_of ps bs (at + span p) (λ j l. ap (λ (x : ℕ). get_or bs x 0) (add_assoc at (span p) j) ∙ h (span p + j) (omega arith) ∙ after_first p ps j),
)

has-number : (k : ℕ) (ps : List Part) (bs : List ℕ) (at i : ℕ) → Has bs at ps → i < (part_at k ps).many → 1 ≤ (part_at k ps).width
    → num_at (part_at k ps).width bs (at + (offset k ps + (part_at k ps).width * i)) ≡ (part_at k ps).number i
unfolding Has
has-number k [] bs at i h l w = absurd (omega arith)
has-number zero (p ∷ ps) bs at i h l w = ap (λ (x : ℕ). num_at p.width bs (at + x)) (zero-add (p.width * i)) ∙ h.0 i l w
has-number (suc k) (p ∷ ps) bs at i h l w =
    let q : Part = part_at k ps in
    ap (num_at q.width bs) {y = at + span p + (offset k ps + q.width * i)} (omega arith) ∙ has-number k ps bs (at + span p) i h.1 l w

-- the bytes of the parts have their numbers: number i of part k, which stands at m
pub bytes-number : (k : ℕ) (ps : List Part) (i m : ℕ) → i < (part_at k ps).many → 1 ≤ (part_at k ps).width → m ≡ offset k ps + (part_at k ps).width * i
    → num_at (part_at k ps).width (bytes_of ps) m ≡ (part_at k ps).number i
unfolding Stands
bytes-number k ps i m l w e =
    ap (num_at (part_at k ps).width (bytes_of ps)) (e ∙ sym (zero-add (offset k ps + (part_at k ps).width * i)))
    ∙ has-number k ps (bytes_of ps) 0 i (has_of ps (bytes_of ps) 0 (λ j b. ap (λ (x : ℕ). get_or (bytes_of ps) x 0) (zero-add j))) l w

stands_of : (ps : List Part) (bs : List ℕ) → IsBytes bs → (at : ℕ) → Has bs at ps → Stands bs at ps
unfolding Has Stands
stands_of [] bs h at has j l = absurd (omega arith)
stands_of (p ∷ ps) bs h at has j l = elim (le? (span p) j) [
  | inl past ↦
      let k : ℕ = j - span p in
      let e : at + j ≡ at + span p + k = omega arith in
      let d : span p + k ≡ j = omega arith in
      ap (λ (x : ℕ). get_or bs x 0) e ∙ stands_of ps bs h (at + span p) has.1 k (omega arith)
      ∙ sym (after_first p ps k) ∙ ap (λ (x : ℕ). get_or (bytes_of (p ∷ ps)) x 0) d
  | inr in-part ↦ elim (eq? p.width 0) [
    | inl z ↦ absurd (omega (arith, ap (λ (x : ℕ). x * p.many) z))
    | inr z ↦
        let w : ℕ = p.width in
        let some : 1 ≤ w = omega arith in
        let i : ℕ = j / w in
        let b : ℕ = j % w in
        let in-i : i < p.many = (div-lt_iff_lt-mul {k = w} {x = j} {y = p.many} some).1 (omega (arith, mul_comm p.many w)) in
        let in_b : b < w = mod-lt j {m = w} some in
        let whole : w * i + b ≡ j = div-add-mod j w in
        let e : at + j ≡ at + w * i + b = omega arith in
        ap (λ (x : ℕ). get_or bs x 0) e ∙ num-is w bs h (at + w * i) (p.number i) (has.0 i in-i some) b in_b
        ∙ sym (first-at p ps i b in-i in_b) ∙ ap (λ (x : ℕ). get_or (bytes_of (p ∷ ps)) x 0) whole
  ]
]

-- as many bytes as the parts have, with their numbers, are those of the parts
pub bytes-are : (ps : List Part) (bs : List ℕ) → IsBytes bs → length bs ≡ total ps → Has bs 0 ps → bs ≡ bytes_of ps
unfolding Stands
bytes-are ps bs h e has =
    ext_get_or 0 bs (bytes_of ps) (e ∙ sym (bytes-length ps)) (λ j l.
    ap (λ (x : ℕ). get_or bs x 0) (omega arith) ∙ stands_of ps bs h 0 has j (omega arith))

-- ---- when they are bytes

-- each number fits its width
unfoldable pub Fit : List Part → Type 0
Fit [] = Unit
Fit (p ∷ ps) = ((i : ℕ) → i < p.many → p.number i < 256 ^ p.width) × Fit ps

append-small : (a b : List ℕ) → IsBytes a → IsBytes b → IsBytes (a ++ b)
append-small [] b h k i = k i
append-small (x ∷ a) b h k zero = h 0
append-small (x ∷ a) b h k (suc i) = append-small a b (λ j. h (suc j)) k i

onto-small : (f : ℕ → List ℕ) (n : ℕ) (l : List ℕ) → ((v : ℕ) → v < n → IsBytes (f v)) → IsBytes l → IsBytes (each_onto f n l)
unfolding each_onto
onto-small f zero l h k = k
onto-small f (suc n) l h k = onto-small f n (f n ++ l) (λ v b. h v (omega arith)) (append-small (f n) l (h n (omega arith)) k)

pub bytes_small : (ps : List Part) → Fit ps → IsBytes (bytes_of ps)
unfolding bytes_of Fit each
bytes_small [] f = λ k. omega arith
bytes_small (p ∷ ps) f =
    append-small (chunks p) (bytes_of ps)
    (onto-small (λ i. num p.width (p.number i)) p.many [] (λ i l. num-small p.width (p.number i) (f.0 i l)) (λ k. omega arith))
    (bytes_small ps f.1)

-- ---- parts with the same numbers

unfoldable pub Same : List Part → List Part → Type 0
Same [] [] = Unit
Same [] (q ∷ qs) = ⊥
Same (p ∷ ps) [] = ⊥
Same (p ∷ ps) (q ∷ qs) = (p.many ≡ q.many) × (p.width ≡ q.width) × ((i : ℕ) → i < p.many → p.number i ≡ q.number i) × Same ps qs

pub bytes-ext : (ps qs : List Part) → Same ps qs → bytes_of ps ≡ bytes_of qs
unfolding Same bytes_of
bytes-ext [] [] s = refl
bytes-ext [] (q ∷ qs) s = absurd s
bytes-ext (p ∷ ps) [] s = absurd s
bytes-ext (p ∷ ps) (q ∷ qs) s =
    ap₂ (λ (x y : List ℕ). x ++ y)
    (each-ext _ _ p.many (λ i l. ap₂ num s.1 (s.2 i l)) ∙ ap (λ (m : ℕ). each m (λ i. num q.width (q.number i))) s.0)
    (bytes-ext ps qs s.3)
