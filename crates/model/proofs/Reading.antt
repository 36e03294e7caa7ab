-- What bytes say of a rack, field by field, and that what is written of a valid state are bytes, from which it reads back. Assumes nothing.
use mathlib.Core.Path.{◌≡◌, refl, sym, ap, subst, ◌∙◌}
use mathlib.Core.Logic.{◌≢◌, inl, inr}
use mathlib.Core.List.{List}
use Prim.Native.Nat.{ℕ, suc, ◌≤◌, ◌<◌}
use native.Mathlib.Omega.{arith}
use lib.Dec.{T, ltb, leb→le}
use Rattle.model.specs.Shape.{Shape, GoodShape}
use Rattle.model.specs.State.{Rules, rules, GoodKind, State}
use Rattle.model.specs.Bytes.{no_mate, size_at, kind_at, rank_at, mate_at, owns_at, named, read, mate_entry, fields_of, write}
use Rattle.model.specs.Valid.{IsBytes, Valid}
use Rattle.model.proofs.Tests.{eq?, le?, bool-ext, eqb_yes, eqb_no, leb_yes, leb_no, and_left, and_right}
use Rattle.model.proofs.Fields.{size-write, kind-write, rank-write, mate-write, owns-write, image-bytes}
use Rattle.model.proofs.Limits.{edges_fit, mate_entry-free, mate_entry-mate, size_few, mate-past, mate-inside, phi-few, mate_entry-few}

-- The mate that an entry names.
pub named-free : (v m : ℕ) → m ≡ no_mate → named v m ≡ v
unfolding named
named-free v m e = rw (eqb_yes m no_mate e, named) refl

pub named-mate : (v m : ℕ) → m ≢ no_mate → named v m ≡ m
unfolding named
named-mate v m e = rw (eqb_no m no_mate e, named) refl

-- The fields of a reading: below n as they stand, from n on nothing.
module _ (S : Shape) (bs : List ℕ) where
  pub read-size : (read S bs).n ≡ size_at bs
  unfolding read
  read-size = refl

  pub read-kind : (read S bs).kind ≡ kind_at S bs
  unfolding read
  read-kind = refl

  pub read-rank : (v : ℕ) → v < size_at bs → (read S bs).rank v ≡ rank_at bs v
  unfolding read
  read-rank v l = rw (leb_yes (suc v) (size_at bs) l, read) refl

  pub read-rank-past : (v : ℕ) → size_at bs ≤ v → (read S bs).rank v ≡ 0
  unfolding read
  read-rank-past v l = rw (leb_no (suc v) (size_at bs) (omega arith), read) refl

  pub read-mate : (v : ℕ) → v < size_at bs → (read S bs).mate v ≡ named v (mate_at S bs v)
  unfolding read
  read-mate v l = rw (leb_yes (suc v) (size_at bs) l, read) refl

  pub read-mate-past : (v : ℕ) → size_at bs ≤ v → (read S bs).mate v ≡ v
  unfolding read
  read-mate-past v l = rw (leb_no (suc v) (size_at bs) (omega arith), read) refl

  pub read-owns : (v w : ℕ) → v < size_at bs → w < size_at bs → (read S bs).owns v w ≡ owns_at S bs v w
  unfolding read
  read-owns v w l k = rw (leb_yes (suc v) (size_at bs) l, leb_yes (suc w) (size_at bs) k, read) refl

  -- what a reading owns is below n, and stands in the bytes
  pub read_owned : (v w : ℕ) → T ((read S bs).owns v w) → (v < size_at bs) × (w < size_at bs) × T (owns_at S bs v w)
  unfolding read
  read_owned v w t =
      let r = and_right (ltb v (size_at bs)) _ t in (
        leb→le (suc v) (size_at bs) (and_left (ltb v (size_at bs)) _ t),
        leb→le (suc w) (size_at bs) (and_left (ltb w (size_at bs)) _ r),
        and_right (ltb w (size_at bs)) _ r,
      )

-- A state read back: where nothing stands from n on, and the mates and the ends of edges are vertices.
module _ (s : State) (good : GoodShape s.kind.shape) (few : s.n ≤ s.kind.shape.most)
    (inside : (v w : ℕ) → T (s.owns v w) → (v < s.n) × (w < s.n)) (past-rank : (v : ℕ) → s.n ≤ v → s.rank v ≡ 0)
    (past-mate : (v : ℕ) → s.n ≤ v → s.mate v ≡ v) (mates : (v : ℕ) → v < s.n → s.mate v < s.n) where
  abbrev S : Shape
  S = s.kind.shape

  back-rank : (v : ℕ) → (read S (write s)).rank v ≡ s.rank v
  back-rank v = elim (le? s.n v) [
    | inl l ↦ read-rank-past S (write s) v (omega (arith, size-write s good)) ∙ sym (past-rank v l)
    | inr l ↦ read-rank S (write s) v (omega (arith, size-write s good)) ∙ rank-write s good v (omega arith)
  ]

  back-mate : (v : ℕ) → (read S (write s)).mate v ≡ s.mate v
  back-mate v = elim (le? s.n v) [
    | inl l ↦ read-mate-past S (write s) v (omega (arith, size-write s good)) ∙ sym (past-mate v l)
    | inr l ↦
        read-mate S (write s) v (omega (arith, size-write s good)) ∙ ap (named v) (mate-write s good v (omega arith))
        ∙ elim (eq? (s.mate v) v) [
          | inl e ↦ named-free v (mate_entry s v) (mate_entry-free s v e) ∙ sym e
          | inr d ↦ ap (named v) (mate_entry-mate s v d) ∙ named-mate v (s.mate v) (λ e. omega (arith, mates v l, good.named))
        ]
  ]

  back-owns : (v w : ℕ) → (read S (write s)).owns v w ≡ s.owns v w
  back-owns v w =
      bool-ext ((read S (write s)).owns v w) (s.owns v w)
      (λ t. let r = read_owned S (write s) v w t in
      subst T (owns-write s good v w (omega (arith, size-write s good)) (omega (arith, size-write s good))) r.2)
      (λ t. let r = inside v w t in
      let e : (read S (write s)).owns v w ≡ s.owns v w =
      read-owns S (write s) v w (omega (arith, size-write s good)) (omega (arith, size-write s good))
      ∙ owns-write s good v w (omega arith) (omega arith) in
      subst T (sym e) t)

  pub read_back : read S (write s) ≡ s
  unfolding read
  read_back = λ i. record {
    kind = kind-write s good i;
    n = size-write s good i;
    rank = λ v. back-rank v i;
    mate = λ v. back-mate v i;
    owns = λ v w. back-owns v w i;
  }

-- so is a valid state
module _ (R : Rules) (s : State) (good : GoodShape s.kind.shape) (ok : Valid R s) where
  -- the mate of a vertex is never the marker
  pub not-marker : (v : ℕ) → s.mate v ≢ v → s.mate v ≢ no_mate
  not-marker v d e = omega (arith, mate-inside ok v d, size_few ok, good.named)

  pub read-write : read s.kind.shape (write s) ≡ s
  read-write =
      read_back s good (size_few ok) ok.inside ok.past (mate-past ok)
      (λ v l. elim (eq? (s.mate v) v) [ inl e ↦ omega arith | inr d ↦ mate-inside ok v d ])

-- a valid state is written as bytes
pub valid-bytes : {s : State} → GoodKind s.kind → Valid (rules s.kind) s → IsBytes (write s)
unfolding write fields_of
valid-bytes {s} kind ok =
    let good : GoodShape s.kind.shape = kind.shape in
    image-bytes (fields_of s) good (record {
      n = omega (arith, size_few ok, good.named);
      edges = edges_fit s good (size_few ok);
      growth = omega (arith, kind.range.most);
      top = omega (arith, kind.range.room, good.ranks);
      rank = λ v l. omega (arith, ok.ranks v, kind.range.room, good.ranks);
      mate = λ v l. mate_entry-few ok good v;
      phi = λ v j l k. omega (arith, phi-few ok v j, good.counts);
    })
