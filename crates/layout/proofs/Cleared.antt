-- The bytes of a rack with no edge: those that the code leaves, part by part. Assumes nothing.
use mathlib.Core.Path.{◌≡◌, refl, sym, ap, ap₂, ◌∙◌}
use mathlib.Core.Logic.{◌≢◌, inl, inr}
use mathlib.Core.Bool.{Bool, false, ◌&&◌}
use mathlib.Core.List.{List, [], ◌∷◌, ◌++◌, append_assoc, append-nil}
use Prim.Native.Nat.{ℕ, zero, suc, ◌+◌, ◌-◌, ◌*◌, ◌/◌, ◌%◌, ◌≤◌, ◌<◌}
use native.Mathlib.Nat.{mul-suc, mul-zero}
use native.Mathlib.Omega.{arith}
use lib.Dec.{T, leb, ltb, eqb, eqb→eq, T_not, ltb→lt, lt→ltb}
use lib.ListN.{length, set, take, drop, replicate, length-replicate, replicate-append-replicate}
use lib.Seq.{take_at, drop_at}
use borrow.Rule.Slice.PartMut.{put_mid}
use Rattle.model.specs.Counting.{sum, each_onto, each}
use Rattle.model.specs.Shape.{Shape, GoodShape, mates_from, phis_from, rosters_from, rack_length}
use Rattle.model.specs.State.{Kind, edge, near, below, phi, edges, empty}
use Rattle.model.specs.Parts.{num, row_byte, by_rows, Part, bytes_of}
use Rattle.model.specs.Bytes.{Fields, roster, parts, image, mate_entry, phi_entry, fields_of, write}
use Rattle.model.proofs.Tests.{eq?, le?, bool?, T_true, T_false, bool-ext, true-T, eqb_yes, and_intro, and_left, and_right, and_yes}
use Rattle.model.proofs.Counting.{count_none, sum-eq, sum-zero}
use Rattle.model.proofs.Limits.{mate_entry-free, phi_entry-le}
use Rattle.model.proofs.Parts.{total, span, next}
use Rattle.bitset.specs.Words.{Rest, stored}
use Rattle.layout.specs.Setters.{set_num, put, blanked, unset, enrolled}
use Rattle.layout.proofs.Pieces.{each_next, put-ext, set-part, row_byte-ext}
use Rattle.layout.proofs.Bits.{with_row_word, word_in, word_out, rows_same, store_word}
use Rattle.layout.proofs.Images.{rosters-table}

-- ---- what the code leaves: zeros, and then a part of them overwritten

-- a part of a list, overwritten
put-between : (xs ys zs new : List ℕ) (a k : ℕ) → length xs ≡ a → length ys ≡ k → put_mid a k (xs ++ (ys ++ zs)) new ≡ xs ++ (new ++ zs)
put-between xs ys zs new a k e d =
    ap₂ (λ (s t : List ℕ). s ++ (new ++ t)) (take_at xs (ys ++ zs) a e) (ap (drop k) (drop_at xs (ys ++ zs) a e) ∙ drop_at ys zs k d)

blank-between : (a k b n x y : ℕ) → n ≡ a + (k + b) → put_mid a k (replicate n x) (replicate k y) ≡ replicate a x ++ (replicate k y ++ replicate b x)
blank-between a k b n x y e =
    ap (λ (l : List ℕ). put_mid a k l (replicate k y))
    (ap (λ (m : ℕ). replicate m x) e ∙ sym (replicate-append-replicate a (k + b) x)
    ∙ ap (λ (l : List ℕ). replicate a x ++ l) (sym (replicate-append-replicate k b x)))
    ∙ put-between (replicate a x) (replicate k x) (replicate b x) (replicate k y) a k (length-replicate a x) (length-replicate k x)

pub blank-is : (S : Shape) → put_mid (mates_from S) (2 * S.most) (replicate (rack_length S) 0) (replicate (2 * S.most) 255) ≡ blanked S
unfolding blanked
blank-is S = blank-between (mates_from S) (2 * S.most) (rack_length S - phis_from S) (rack_length S) 0 255 (omega arith)

-- ---- parts of which every byte is y

each-even : (f : ℕ → List ℕ) (w y n : ℕ) → ((i : ℕ) → i < n → f i ≡ replicate w y) → each n f ≡ replicate (w * n) y
unfolding each each_onto
each-even f w y zero h = ap (λ (m : ℕ). replicate m y) (sym (mul-zero w))
each-even f w y (suc n) h =
    each_next f n ∙ ap₂ (λ (s t : List ℕ). s ++ t) (each-even f w y n (λ i l. h i (omega arith))) (h n (omega arith))
    ∙ replicate-append-replicate (w * n) w y ∙ ap (λ (m : ℕ). replicate m y) (sym (mul-suc w n))

abbrev Even : ℕ → List Part → Type 0
Even y [] = Unit
Even y (p ∷ ps) = ((i : ℕ) → i < p.many → num p.width (p.number i) ≡ replicate p.width y) × Even y ps

-- they stand there as one
even : (y n : ℕ) (ps qs : List Part) (l : List ℕ) → Even y ps → total ps ≡ n → bytes_of qs ≡ l → bytes_of (ps ++ qs) ≡ replicate n y ++ l
unfolding bytes_of
even y n [] qs l h e d = d ∙ ap (λ (m : ℕ). replicate m y ++ l) e
even y n (p ∷ ps) qs l h e d =
    ap₂ (λ (s t : List ℕ). s ++ t) (each-even _ p.width y p.many h.0) (even y (total ps) ps qs l h.1 refl d)
    ∙ sym (append_assoc (replicate (span p) y) (replicate (total ps) y) l)
    ∙ ap (λ (k : List ℕ). k ++ l) (replicate-append-replicate (span p) (total ps) y ∙ ap (λ (m : ℕ). replicate m y) e)

-- every byte of 0 is 0
num-zero : (w x : ℕ) → x ≡ 0 → num w x ≡ replicate w 0
unfolding num
num-zero zero x e = refl
num-zero (suc zero) x e = ap (λ (y : ℕ). y ∷ []) e
num-zero (suc (suc w)) x e = ap₂ (λ (y : ℕ) (l : List ℕ). y ∷ l) (omega arith) (num-zero (suc w) (x / 256) (omega arith))

-- ---- a rack with no edge

module _ (K : Kind) (n : ℕ) where
  no_phi : (v j : ℕ) → phi (empty K n) v j ≡ 0
  unfolding phi below near edge empty
  no_phi v j = elim (bool? (leb 0 j)) [
    | inl t ↦ rw (T_true {b = leb 0 j} t, phi) (count_none _ n (λ w l h. h))
    | inr t ↦ rw (T_false {b = leb 0 j} (T_not (leb 0 j) t), phi) refl
  ]

  no-entry : (v j : ℕ) → phi_entry (empty K n) v j ≡ 0
  no-entry v j = omega (arith, phi_entry-le (empty K n) v j, no_phi v j)

  no_edges : edges (empty K n) ≡ 0
  unfolding edges edge empty
  no_edges = sum-eq _ (λ v. 0) n (λ v l. count_none _ n (λ w k h. and_right (ltb v w) false h)) ∙ sum-zero n

  no-mate : (v : ℕ) → num 2 (mate_entry (empty K n) v) ≡ replicate 2 255
  unfolding num empty
  no-mate v = ap (num 2) (mate_entry-free (empty K n) v refl)

no_row : (k : ℕ) → row_byte (λ w. false) k ≡ 0
unfolding row_byte sum
no_row k = refl

module _ (S : Shape) (good : GoodShape S) (n : ℕ) where
  abbrev bare : Kind
  bare = unset S

  -- its parts, with nobody in a roster yet, and n not yet told
  abbrev nobody : ℕ → ℕ
  nobody = by_rows S.row (λ r. row_byte (λ v. ltb v 0 && roster (fields_of (empty bare n)) r v))

  none_in : (i : ℕ) → nobody i ≡ 0
  none_in i =
      row_byte-ext _ (λ v. false) (i % S.row)
      (λ b l. T_false {b = ltb (8 * (i % S.row) + b) 0 && _} (λ t. omega (arith, ltb→lt (8 * (i % S.row) + b) 0 (and_left (ltb (8 * (i % S.row) + b) 0) _ t))))
      ∙ no_row (i % S.row)

  abbrev all : List Part
  all = unfold fields_of empty in put 0 (λ i. 0) (put 10 nobody (parts (fields_of (empty bare n))))

  blank-bytes : bytes_of all ≡ blanked S
  unfolding fields_of empty blanked bytes_of
  blank-bytes =
      let rest : ℕ = rack_length S - phis_from S in
      even 0 (mates_from S) (take 7 all) (drop 7 all) _
      (next (λ i l. num-zero 2 0 refl)
      (next (λ i l. num-zero 2 _ (omega (arith, no_edges bare n)))
      (next (λ i l. num-zero 1 0 refl)
      (next (λ i l. num-zero 1 0 refl)
      (next (λ i l. num-zero 1 0 refl)
      (next (λ i l. num-zero (2 - S.spare) _ (omega (arith, no_edges bare n)))
      (next (λ v l. num-zero 1 0 refl) tt))))))) (omega (arith, good.spare))
      (even 255 (2 * S.most) (take 1 (drop 7 all)) (drop 8 all) _ (next (λ v l. no-mate bare n v) tt) (omega arith)
      (even 0 rest (drop 8 all) [] []
      (next (λ i l. num-zero S.width _ (no-entry bare n _ _))
      (next (λ i l. num-zero 1 _ (no_row _))
      (next (λ i l. num-zero 1 _ (none_in i)) tt))) (omega arith) refl
      ∙ append-nil (replicate rest 0)))

  pub founded : set (set (blanked S) 0 (n % 256)) 1 (n / 256) ≡ enrolled S n 0
  unfolding enrolled set_num fields_of empty
  founded =
      ap (λ (l : List ℕ). set_num 2 l 0 n) (sym blank-bytes)
      ∙ set-part 0 all (λ i. n) 0 0 n (omega arith) (omega arith) refl (λ u l d. absurd (omega arith))

  -- who is in the rosters once the vertices below m have entered
  abbrev entry : ℕ → ℕ → ℕ → Bool
  entry m r v = ltb v m && roster (fields_of (empty bare n)) r v

  -- none is in that of another rank
  other-rank : (m r v : ℕ) → r ≢ 0 → entry m r v ≡ false
  unfolding roster fields_of empty
  other-rank m r v d =
      T_false {b = entry m r v} (λ t.
      let q = and_right (ltb v n) (eqb 0 r) (and_right (ltb v m) _ t) in
      d (sym (eqb→eq 0 r q)))

  entry-word : (k r v : ℕ) → with_row_word (entry (64 * k)) 0 k (λ v. ltb v n) r v ≡ entry (64 * (k + 1)) r v
  unfolding roster fields_of empty
  entry-word k r v =
      let out : (r ≡ 0 → 64 * k ≤ v → v < 64 * k + 64 → ⊥) → with_row_word (entry (64 * k)) 0 k (λ v. ltb v n) r v ≡ entry (64 * k) r v =
      word_out (entry (64 * k)) 0 k (λ v. ltb v n) r v in
      elim (eq? r 0) [
        | inr d ↦ out (λ e. absurd (d e)) ∙ other-rank (64 * k) r v d ∙ sym (other-rank (64 * (k + 1)) r v d)
        | inl e ↦ elim (le? (64 * k) v) [
          | inr before ↦
              out (λ _ a. absurd (omega arith)) ∙ and_yes (ltb v (64 * k)) _ (lt→ltb v (64 * k) before)
              ∙ sym (and_yes (ltb v (64 * (k + 1))) _ (lt→ltb v (64 * (k + 1)) (omega arith)))
          | inl from ↦ elim (le? (64 * k + 64) v) [
            | inl past ↦
                let late : (m : ℕ) → m ≤ v → entry m r v ≡ false =
                λ m h. T_false {b = entry m r v} (λ t. omega (arith, ltb→lt v m (and_left (ltb v m) _ t))) in
                out (λ _ _ b. absurd (omega arith)) ∙ late (64 * k) (omega arith) ∙ sym (late (64 * (k + 1)) (omega arith))
            | inr here ↦
                let in-word : with_row_word (entry (64 * k)) 0 k (λ v. ltb v n) r v ≡ ltb v n =
                word_in (entry (64 * k)) 0 k (λ v. ltb v n) r v e from here in
                let zero_rank : T (eqb 0 r) = true-T (eqb_yes 0 r (sym e)) in
                in-word ∙ bool-ext (ltb v n) (entry (64 * (k + 1)) r v)
                (λ t. and_intro (ltb v (64 * (k + 1))) _ (lt→ltb v (64 * (k + 1)) (omega arith)) (and_intro (ltb v n) (eqb 0 r) t zero_rank))
                (λ t. and_left (ltb v n) (eqb 0 r) (and_right (ltb v (64 * (k + 1))) _ t))
          ]
        ]
      ]

  -- word by word the vertices enter their roster, in which none but them are
  pub enrolled-word : (k x : ℕ) → 64 * k < S.most → Rest (λ j. ltb (64 * k + j) n) 0 x
      → stored (enrolled S n (64 * k)) (rosters_from S + S.row * 0 + 8 * k) x ≡ enrolled S n (64 * (k + 1))
  unfolding enrolled fields_of empty
  enrolled-word k x h r =
      let table = rosters-table (fields_of (empty bare n)) good in
      store_word good table (entry (64 * k)) 0 k x (λ v. ltb v n) (omega arith) h (λ j l. r.same j (omega arith) l)
      ∙ rows_same good table (with_row_word (entry (64 * k)) 0 k (λ v. ltb v n)) (entry (64 * (k + 1))) (λ r v l b. entry-word k r v)

  pub enrolled-all : (m : ℕ) → S.most ≤ m → enrolled S n m ≡ write (empty bare n)
  unfolding enrolled write image fields_of empty
  enrolled-all m h =
      let f : Fields = fields_of (empty bare n) in
      rows_same good (rosters-table f good) (entry m) (roster f) (λ r v l b. and_yes (ltb v m) (roster f r v) (lt→ltb v m (omega arith)))

-- ---- the settings, written last

pub settled : (K : Kind) (n : ℕ) → set (set (write (empty (unset K.shape) n)) 4 K.growth) 5 K.top ≡ write (empty K n)
unfolding write image fields_of empty edges edge mate_entry roster set_num
settled K n =
    let S : Shape = K.shape in
    let ps : List Part = parts (fields_of (empty (unset S) n)) in
    let grown : List Part = put 2 (λ i. K.growth) ps in
    ap (λ (l : List ℕ). set l 5 K.top)
    (set-part 2 ps (λ i. K.growth) 0 4 K.growth (omega arith) (omega arith) refl (λ u l d. absurd (omega arith)))
    ∙ set-part 3 grown (λ i. K.top) 0 5 K.top (omega arith) (omega arith) refl (λ u l d. absurd (omega arith))
    ∙ put-ext 8 (put 3 (λ i. K.top) grown) (by_rows S.levels (phi_entry (empty (unset S) n))) (by_rows S.levels (phi_entry (empty K n)))
    (λ u l. no-entry (unset S) n (u / S.levels) (u % S.levels) ∙ sym (no-entry K n (u / S.levels) (u % S.levels)))
