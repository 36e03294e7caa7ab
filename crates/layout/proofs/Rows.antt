-- A row as a part of the rack's bytes: the members of a vertex's row are the vertices to which it owns an edge, those of a roster the vertices of
-- its rank. Assumes nothing.
use mathlib.Core.Path.{◌≡◌, sym, ap, ap₂, ◌∙◌, subst}
use mathlib.Core.Bool.{Bool}
use mathlib.Core.List.{List}
use Prim.Native.Nat.{ℕ, ◌+◌, ◌-◌, ◌*◌, ◌/◌, ◌%◌, ◌<◌, ◌≤◌}
use native.Mathlib.Omega.{arith}
use lib.Dec.{T}
use lib.ListN.{length, get_or, take, drop, length-take, length-drop}
use Rattle.model.specs.Counting.{count}
use Rattle.model.specs.Shape.{Shape, GoodShape, rows_from}
use Rattle.model.specs.Bytes.{in_row, owns_at}
use Rattle.model.specs.Parts.{bit_of}
use Rattle.model.proofs.Prefix.{count_add, count-ext}
use Rattle.bitset.specs.Row.{member, size, Nth}
use Rattle.bitset.proofs.Laws.{member-part}
use Rattle.layout.specs.Setters.{Sized, NumberAt, place_in, row_place}
use Rattle.layout.specs.Rows.{degree_at, NthOwned}

-- a bit of row v of those that stand from byte `from` on, as a place of the whole buffer
pub row-place : (S : Shape) (bs : List ℕ) (from v w : ℕ) → member bs (place_in S from v w) ≡ in_row S bs from v w
unfolding member
row-place S bs from v w =
    let p : place_in S from v w / 8 ≡ from + (S.row * v + w / 8) = omega arith in
    let q : place_in S from v w % 8 ≡ w % 8 = omega arith in
    ap₂ (λ (x y : ℕ). bit_of (get_or bs x 0) y) p q

pub owns-place : (S : Shape) (bs : List ℕ) (v w : ℕ) → member bs (row_place S v w) ≡ owns_at S bs v w
unfolding owns_at
owns-place S bs v w = row-place S bs (rows_from S) v w

-- row v, where it begins, counted place by place
pub row_count : {S : Shape} (bs : List ℕ) {from v at : ℕ} → NumberAt S from S.row v at
    → count (λ w. member bs (8 * at + w)) S.most ≡ count (in_row S bs from v) S.most
row_count {S} bs {from} {v} place =
    count-ext _ (in_row S bs from v) S.most (λ w l. ap (λ (k : ℕ). member bs (8 * k + w)) place.at ∙ row-place S bs from v w)

-- a stretch of bytes as the code cuts it out, counted place by place
pub part-size : (bs : List ℕ) (a e : ℕ) → a ≤ e → e ≤ length bs → size (take (e - a) (drop a bs)) ≡ count (λ w. member bs (8 * a + w)) (8 * (e - a))
unfolding size
part-size bs a e h l =
    let part : List ℕ = take (e - a) (drop a bs) in
    let long : 8 * length part ≡ 8 * (e - a) = simp (length-take, length-drop) (omega arith) in
    ap (count (member part)) long ∙ count-ext (member part) _ (8 * (e - a)) (λ w b. member-part bs a (e - a) w (omega arith))

-- and two stretches, one after the other
pub halves : (bs : List ℕ) (a m e : ℕ) → a ≤ m → m ≤ e → e ≤ length bs
    → size (take (m - a) (drop a bs)) + size (take (e - m) (drop m bs)) ≡ count (λ w. member bs (8 * a + w)) (8 * (e - a))
halves bs a m e h k l =
    let p : ℕ → Bool = λ w. member bs (8 * a + w) in
    let whole : 8 * (e - a) ≡ 8 * (m - a) + 8 * (e - m) = omega arith in
    let second : count (λ w. member bs (8 * m + w)) (8 * (e - m)) ≡ count (λ j. p (8 * (m - a) + j)) (8 * (e - m)) =
    count-ext _ _ (8 * (e - m)) (λ j b. ap (member bs) (omega arith)) in
    ap₂ ◌+◌ (part-size bs a m h (omega arith)) (part-size bs m e k l ∙ second) ∙ sym (count_add p (8 * (m - a)) (8 * (e - m))) ∙ ap (count p) (sym whole)

-- the row that stands at `at`, as the code cuts it out
abbrev row_of : Shape → List ℕ → ℕ → List ℕ
row_of S bs at = take (at + S.row - at) (drop at bs)

module _ {S : Shape} (good : GoodShape S) (bs : List ℕ) {v at : ℕ} (sized : Sized S bs) (place : NumberAt S (rows_from S) S.row v at) where
  pub row-length : length (row_of S bs at) ≡ S.row
  row-length = simp (length-take, length-drop) (omega (arith, place.within))

  -- it has a place for each vertex
  row-places : 8 * length (row_of S bs at) ≡ S.most
  row-places = omega (arith, row-length, good.rows)

  pub row-owns : (w : ℕ) → w < S.most → member (row_of S bs at) w ≡ owns_at S bs v w
  row-owns w h =
      member-part bs at (at + S.row - at) w (omega (arith, good.rows)) ∙ ap (λ (k : ℕ). member bs (8 * k + w)) place.at ∙ owns-place S bs v w

  count-row : (m : ℕ) → m ≤ S.most → count (member (row_of S bs at)) m ≡ count (owns_at S bs v) m
  count-row m h = count-ext (member (row_of S bs at)) (owns_at S bs v) m (λ w k. row-owns w (omega arith))

  pub row-degree : size (row_of S bs at) ≡ degree_at S bs v
  unfolding size degree_at
  row-degree = ap (count (member (row_of S bs at))) row-places ∙ count-row S.most (omega arith)

  pub row-nth : (k r : ℕ) → Nth (row_of S bs at) k r → NthOwned S bs v k r
  row-nth k r n =
      let i : r < S.most = omega (arith, n.inside, row-places) in
      record { inside = i; is = subst T (row-owns r i) n.is; before = sym (count-row r (omega arith)) ∙ n.before }
