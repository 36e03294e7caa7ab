-- The numbers of the calls, case by case: which is the first that fits. Assumes nothing.
use mathlib.Core.Path.{◌≡◌, refl, sym, ◌∙◌, subst}
use mathlib.Core.Logic.{◌≢◌, inl, inr}
use mathlib.Core.Bool.{Bool, true, false, ◌||◌}
use mathlib.Core.List.{List}
use Prim.Native.Nat.{ℕ, suc, ◌≤◌, ◌<◌}
use native.Mathlib.Omega.{arith}
use lib.Dec.{T, eqb→eq}
use lib.IntN.{ℤ, pos, pred_ℤ}
use lib.ListN.{length}
use Rattle.model.specs.Shape.{Shape, rack_length}
use Rattle.model.specs.State.{Kind, edge, empty}
use Rattle.model.specs.Counting.{bit, count}
use Rattle.model.specs.Bytes.{size_at, rank_at, mate_at, owns_at, roster_at, read, write}
use Rattle.model.specs.Sound.{size_good, settings_good, sound}
use Rattle.model.specs.Calls.{sized, rack_number, asked_number, make_number, made, one_number, two_number, audit}
use Rattle.model.specs.Calls.{level_query, mate_query, linked_query, roster_query, at_level}
use Rattle.std.specs.Prelude.{None, Some}
use Rattle.engine.specs.Answers.{Ranks, sound_number, other_number}
use Rattle.model.proofs.Tests.{eq?, le?, true-T, eqb_yes, eqb_no, leb_yes, leb_no}
use Rattle.model.proofs.Counting.{count_none}
use Rattle.model.proofs.Prefix.{count-ext}
use Rattle.model.proofs.Facts.{Facts, sound-says}
use Rattle.model.proofs.Rosters.{roster-size}
use Rattle.model.proofs.Reading.{read-owns}

pub sized-length : (S : Shape) (bs : List ℕ) → sized S bs ≡ true → length bs ≡ rack_length S
unfolding sized
sized-length S bs e = eqb→eq (length bs) (rack_length S) (true-T e)

pub sized-long : (S : Shape) (bs : List ℕ) → length bs ≡ rack_length S → sized S bs ≡ true
unfolding sized
sized-long S bs e = eqb_yes (length bs) (rack_length S) e

pub sized-short : (S : Shape) (bs : List ℕ) → length bs ≢ rack_length S → sized S bs ≡ false
unfolding sized
sized-short S bs d = eqb_no (length bs) (rack_length S) d

-- what is asked of a rack to be made: the first of 5 and 13 that fits
module _ (K : Kind) (n : ℕ) where
  pub asked-five : size_good K.shape n ≡ false → asked_number K n ≡ 5
  unfolding asked_number
  asked-five e = rw (e, asked_number) refl

  pub asked-thirteen : size_good K.shape n ≡ true → settings_good K ≡ false → asked_number K n ≡ 13
  unfolding asked_number
  asked-thirteen e f = rw (e, f, asked_number) refl

  pub asked-none : size_good K.shape n ≡ true → settings_good K ≡ true → asked_number K n ≡ 0
  unfolding asked_number
  asked-none e f = rw (e, f, asked_number) refl

-- making: the number, and the bytes that are left
module _ (K : Kind) (bs : List ℕ) (n : ℕ) where
  pub make-one : sized K.shape bs ≡ false → (make_number K bs n ≡ 1) × (made K bs n ≡ bs)
  unfolding make_number made
  make-one e = (rw (e, make_number) refl, rw (e, make_number, made) refl)

  pub make-asked : sized K.shape bs ≡ true → make_number K bs n ≡ asked_number K n
  unfolding make_number
  make-asked e = rw (e, make_number) refl

  pub make-back : {k : ℕ} → sized K.shape bs ≡ true → asked_number K n ≡ k → k ≢ 0 → (make_number K bs n ≡ k) × (made K bs n ≡ bs)
  unfolding made
  make-back {k} e f d =
      let m : make_number K bs n ≡ k = make-asked e ∙ f in
      (m, rw (eqb_no (make_number K bs n) 0 (λ z. d (sym m ∙ z)), made) refl)

  pub make-new : sized K.shape bs ≡ true → asked_number K n ≡ 0 → (make_number K bs n ≡ 0) × (made K bs n ≡ write (empty K n))
  unfolding made
  make-new e f =
      let m : make_number K bs n ≡ 0 = make-asked e ∙ f in
      (m, rw (eqb_yes (make_number K bs n) 0 m, made) refl)

module _ (S : Shape) (bs : List ℕ) where
  pub rack-one : sized S bs ≡ false → rack_number S bs ≡ 1
  unfolding rack_number
  rack-one e = rw (e, rack_number) refl

  pub rack-six : sized S bs ≡ true → sound S bs ≡ false → rack_number S bs ≡ 6
  unfolding rack_number
  rack-six e f = rw (e, f, rack_number) refl

  pub rack-zero : sized S bs ≡ true → sound S bs ≡ true → rack_number S bs ≡ 0
  unfolding rack_number
  rack-zero e f = rw (e, f, rack_number) refl

  -- 6 or 0, once the length is tested
  pub rack-sized : length bs ≡ rack_length S → rack_number S bs ≡ sound_number (sound S bs)
  rack-sized e = go (sound S bs) refl
    where
      go : (y : Bool) → sound S bs ≡ y → rack_number S bs ≡ sound_number y
      go true f = rack-zero (sized-long S bs e) f
      go false f = rack-six (sized-long S bs e) f

  -- neither fits: the bytes are as many as a rack has, and sound
  pub rack-good : rack_number S bs ≡ 0 → (sized S bs ≡ true) × (sound S bs ≡ true)
  rack-good = go (sized S bs) refl (sound S bs) refl
    where
      go : (x : Bool) → sized S bs ≡ x → (y : Bool) → sound S bs ≡ y → rack_number S bs ≡ 0 → (sized S bs ≡ true) × (sound S bs ≡ true)
      go true e true f z = (e, f)
      go true e false f z = absurd (omega (arith, rack-six e f))
      go false e y f z = absurd (omega (arith, rack-one e))

  -- n of a sound rack
  pub good-size : sound S bs ≡ true → size_at bs ≤ S.most
  good-size e = ((sound-says S bs).fact (true-T e)).size.1

  -- queries
  pub one-back : (v : ℕ) → rack_number S bs ≢ 0 → one_number S bs v ≡ rack_number S bs
  unfolding one_number
  one-back v d = rw (eqb_no (rack_number S bs) 0 d, one_number) refl

  pub one-eight : (v : ℕ) → rack_number S bs ≡ 0 → size_at bs ≤ v → one_number S bs v ≡ 8
  unfolding one_number
  one-eight v e l = rw (eqb_yes (rack_number S bs) 0 e, leb_no (suc v) (size_at bs) (omega arith), one_number) refl

  pub one-zero : (v : ℕ) → rack_number S bs ≡ 0 → v < size_at bs → one_number S bs v ≡ 0
  unfolding one_number
  one-zero v e l = rw (eqb_yes (rack_number S bs) 0 e, leb_yes (suc v) (size_at bs) l, one_number) refl

  pub one-good : (v : ℕ) → one_number S bs v ≡ 0 → (rack_number S bs ≡ 0) × (v < size_at bs)
  one-good v z = elim (eq? (rack_number S bs) 0) [
    | inr d ↦ absurd (d (sym (one-back v d) ∙ z))
    | inl e ↦ elim (le? (size_at bs) v) [
      | inl l ↦ absurd (omega (arith, one-eight v e l))
      | inr l ↦ (e, l)
    ]
  ]

  pub two_back : (v w : ℕ) → one_number S bs v ≢ 0 → two_number S bs v w ≡ one_number S bs v
  unfolding two_number
  two_back v w d = rw (eqb_no (one_number S bs v) 0 d, two_number) refl

  pub two-other : (v w : ℕ) → one_number S bs v ≡ 0 → two_number S bs v w ≡ other_number (size_at bs) v w
  unfolding two_number
  two-other v w e = rw (eqb_yes (one_number S bs v) 0 e, two_number) refl

  two-eight : (v w : ℕ) → one_number S bs v ≡ 0 → size_at bs ≤ w → two_number S bs v w ≡ 8
  two-eight v w e l = two-other v w e ∙ rw (leb_no (suc w) (size_at bs) (omega arith), other_number) refl

  pub two_good : (v w : ℕ) → two_number S bs v w ≡ 0 → (one_number S bs v ≡ 0) × (w < size_at bs)
  two_good v w z = elim (eq? (one_number S bs v) 0) [
    | inr d ↦ absurd (d (sym (two_back v w d) ∙ z))
    | inl e ↦ elim (le? (size_at bs) w) [
      | inl l ↦ absurd (omega (arith, two-eight v w e l))
      | inr l ↦ (e, l)
    ]
  ]

  -- two vertices below n are linked if one of their rows names the other
  pub edge-owns : (v w : ℕ) → v < size_at bs → w < size_at bs → edge (read S bs) v w ≡ owns_at S bs v w || owns_at S bs w v
  unfolding edge
  edge-owns v w l k = rw (read-owns S bs v w l k, read-owns S bs w v k l) refl

  -- what a query may read once no number fits
  pub asked : (v : ℕ) → one_number S bs v ≡ 0 → (length bs ≡ rack_length S) × (v < S.most)
  asked v z =
      let o = one-good v z in
      let g = rack-good o.0 in
      (sized-length S bs g.0, omega (arith, o.1, good-size g.1))

  pub asked-two : (v w : ℕ) → two_number S bs v w ≡ 0 → (length bs ≡ rack_length S) × ((v < S.most) × (w < S.most))
  asked-two v w z =
      let t = two_good v w z in
      let o = asked v t.0 in
      (o.0, (o.1, omega (arith, t.1, good-size (rack-good (one-good v t.0).0).1)))

  pub linked-edge : (v w : ℕ) → two_number S bs v w ≡ 0 → owns_at S bs v w || owns_at S bs w v ≡ edge (read S bs) v w
  linked-edge v w z = let t = two_good v w z in sym (edge-owns v w (one-good v t.0).1 t.1)

  -- The vertices at a level: none, if no rank is the level's, and otherwise as many as the roster of its rank has.
  module _ (z : rack_number S bs ≡ 0) (level : ℤ) where
    facts : Facts S bs
    facts = (sound-says S bs).fact (true-T (rack-good z).1)

    listed : (v : ℕ) → v < size_at bs → rank_at bs v ≤ S.levels
    listed v l = omega (arith, facts.ranks v l, facts.settings.room)

    pub level-none : Ranks S.levels level None → 0 ≡ count (λ v. at_level level (rank_at bs v)) (size_at bs)
    level-none none = sym (count_none _ (size_at bs) (λ v l t. subst T (none (rank_at bs v) (listed v l)) t))

    pub level-roster : (r : ℕ) → Ranks S.levels level (Some r) → count (roster_at S bs r) S.most ≡ count (λ v. at_level level (rank_at bs v)) (size_at bs)
    level-roster r is =
        roster-size facts r (omega (arith, is.0)) ∙ sym (count-ext _ _ (size_at bs) (λ v l. is.1 (rank_at bs v)))

-- The answers of the audit and the queries: turned back with the number k, or answered.
module _ (S : Shape) (bs : List ℕ) where
  pub audit-back : length bs ≢ rack_length S → record { number = 1; yes = false } ≡ audit S bs
  unfolding audit
  audit-back d = sym (rw (sized-short S bs d, audit) refl)

  pub audit-is : length bs ≡ rack_length S → record { number = 0; yes = sound S bs } ≡ audit S bs
  unfolding audit
  audit-is e = sym (rw (sized-long S bs e, audit) refl)

  module _ (v : ℕ) where
    pub level-back : {k : ℕ} → one_number S bs v ≡ k → k ≢ 0 → record { number = k; level = pos 0 } ≡ level_query S bs v
    unfolding level_query
    level-back e d =
        (λ i. record { number = sym e i; level = pos 0 }) ∙ sym (rw (eqb_no (one_number S bs v) 0 (λ z. d (sym e ∙ z)), level_query) refl)

    pub level-is : one_number S bs v ≡ 0 → record { number = 0; level = pred_ℤ (pos (rank_at bs v)) } ≡ level_query S bs v
    unfolding level_query
    level-is e = sym (rw (e, level_query) refl)

    pub mate-back : {k : ℕ} → one_number S bs v ≡ k → k ≢ 0 → record { number = k; value = 0 } ≡ mate_query S bs v
    unfolding mate_query
    mate-back e d =
        (λ i. record { number = sym e i; value = 0 }) ∙ sym (rw (eqb_no (one_number S bs v) 0 (λ z. d (sym e ∙ z)), mate_query) refl)

    pub mate-is : one_number S bs v ≡ 0 → record { number = 0; value = mate_at S bs v } ≡ mate_query S bs v
    unfolding mate_query
    mate-is e = sym (rw (e, mate_query) refl)

    pub linked-back : (w : ℕ) {k : ℕ} → two_number S bs v w ≡ k → k ≢ 0 → record { number = k; value = 0 } ≡ linked_query S bs v w
    unfolding linked_query
    linked-back w e d =
        (λ i. record { number = sym e i; value = 0 }) ∙ sym (rw (eqb_no (two_number S bs v w) 0 (λ z. d (sym e ∙ z)), linked_query) refl)

    pub linked-is : (w : ℕ) → two_number S bs v w ≡ 0 → record { number = 0; value = bit (edge (read S bs) v w) } ≡ linked_query S bs v w
    unfolding linked_query
    linked-is w e = sym (rw (e, linked_query) refl)

  module _ (level : ℤ) where
    pub roster-back : {k : ℕ} → rack_number S bs ≡ k → k ≢ 0 → record { number = k; value = 0 } ≡ roster_query S bs level
    unfolding roster_query
    roster-back e d =
        (λ i. record { number = sym e i; value = 0 }) ∙ sym (rw (eqb_no (rack_number S bs) 0 (λ z. d (sym e ∙ z)), roster_query) refl)

    pub roster-is : {m : ℕ} → rack_number S bs ≡ 0 → m ≡ count (λ v. at_level level (rank_at bs v)) (size_at bs)
        → record { number = 0; value = m } ≡ roster_query S bs level
    unfolding roster_query
    roster-is e f = (λ i. record { number = 0; value = f i }) ∙ sym (rw (e, roster_query) refl)

-- a number of boards that a rack has not room for, and one that it has
pub few-bad : (S : Shape) (n : ℕ) → n ≡ 0 → size_good S n ≡ false
unfolding size_good
few-bad S n e = rw (e, size_good) refl

pub many-bad : (S : Shape) (n : ℕ) → S.most < n → size_good S n ≡ false
unfolding size_good
many-bad S n l = rw (leb_yes 1 n (omega arith), leb_no n S.most l, size_good) refl

pub few-good : (S : Shape) (n : ℕ) → n ≢ 0 → n ≤ S.most → size_good S n ≡ true
unfolding size_good
few-good S n d l = rw (leb_yes 1 n (omega arith), leb_yes n S.most l, size_good) refl
