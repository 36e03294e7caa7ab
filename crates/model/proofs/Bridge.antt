-- Bytes and states: a list of as many bytes as a shape has is sound exactly if it is the writing of its own reading, and that state is valid.
-- For any shape that is good, and any settings.
-- Assumes nothing.
use mathlib.Core.Path.{◌≡◌, refl, sym, ap, subst, ◌∙◌}
use mathlib.Core.Logic.{◌≢◌, ◌⊎◌, inl, inr, ◌↔◌}
use mathlib.Core.Bool.{◌&&◌}
use mathlib.Core.List.{List}
use Prim.Native.Nat.{ℕ, suc, ◌^◌, ◌≤◌, ◌<◌}
use native.Mathlib.Omega.{arith}
use lib.Dec.{T, ltb, eqb, ltb→lt, lt→ltb}
use lib.ListN.{length}
use Rattle.model.specs.Shape.{Shape, GoodShape, low, rack_length}
use Rattle.model.specs.State.{Kind, rules, InRange, GoodKind, State, edge, phi, edges}
use Rattle.model.specs.Bytes.{no_mate, size_at, growth_at, top_at, kind_at, rules_at, rank_at, mate_at, phi_at, owns_at, roster_at, roster, named, read, mate_entry, phi_entry, fields_of, write}
use Rattle.model.specs.Sound.{sound}
use Rattle.model.specs.Valid.{IsBytes, Valid}
use Rattle.model.proofs.Tests.{eq?, le?, bool-ext, and_yes, and_left, or_cases}
use Rattle.model.proofs.Shapes.{low-good}
use Rattle.model.proofs.Fields.{size-write, edges-write, growth-write, top-write, kind-write, spare-write, rank-write, mate-write, entry-write, phi-write, owns-write, roster-write, Shows, image-is}
use Rattle.model.proofs.Facts.{Unused, Mated, Facts, sound-says}
use Rattle.model.proofs.Reading.{read-kind, named-free, named-mate, read-size, read-rank, read-rank-past, read-mate, read-mate-past, read-owns, read_owned, not-marker, read-write}
use Rattle.model.proofs.Limits.{edge-within, phi_none, mate_entry-free, mate_entry-mate, size_few, mate-past, mate-inside, phi-past, phi_entry-low, phi_entry-le}

-- From a valid state to sound bytes.
module _ {s : State} (kind : GoodKind s.kind) (ok : Valid (rules s.kind) s) where
  abbrev of : Shape
  of = s.kind.shape

  abbrev good : GoodShape of
  good = kind.shape

  -- a vertex below n has its place
  placed : (v : ℕ) → v < size_at (write s) → v < of.most
  placed v l = omega (arith, size-write s good, size_few ok)

  owned : (v w : ℕ) → v < of.most → w < of.most → T (owns_at of (write s) v w) → T (s.owns v w)
  owned v w l k t = subst T (owns-write s good v w l k) t

  write-unused : (v : ℕ) → v < of.most → size_at (write s) ≤ v → Unused of (write s) v
  write-unused v l k =
      let p : s.n ≤ v = omega (arith, size-write s good) in
      record {
        rank = rank-write s good v l ∙ ok.past v p;
        mate = mate-write s good v l ∙ mate_entry-free s v (mate-past ok v p);
        phi = λ j h. omega (arith, entry-write s good v j l h, phi_entry-le s v j, phi-past ok v j p);
        owns = λ w h t. let i = ok.inside v w (owned v w l h t) in omega arith;
      }

  write-mated : (v : ℕ) → v < size_at (write s) → mate_at of (write s) v ≢ no_mate → Mated of (write s) v (mate_at of (write s) v)
  write-mated v l d =
      let e : mate_at of (write s) v ≡ mate_entry s v = mate-write s good v (placed v l) in
      let far : s.mate v ≢ v = λ q. d (e ∙ mate_entry-free s v q) in
      let w : ℕ = s.mate v in
      let small : w < of.most = omega (arith, mate-inside ok v far, size_few ok) in
      let m : Mated of (write s) v w = record {
        back = mate-write s good w small ∙ mate_entry-mate s w (λ q. far (sym q ∙ ok.mates-back v)) ∙ ok.mates-back v;
        linked = subst (λ (x : State). T (edge x v w)) (sym (read-write (rules s.kind) s good ok)) (ok.mates-linked v far);
        level = rank-write s good w small ∙ ok.mates-level v ∙ sym (rank-write s good v (placed v l));
      } in
      subst (Mated of (write s) v) (sym (e ∙ mate_entry-mate s v far)) m

  -- an entry that is the marker is that of a free vertex
  marker-free : (v : ℕ) → mate_entry s v ≡ no_mate → s.mate v ≡ v
  marker-free v e = elim (eq? (s.mate v) v) [
    | inl q ↦ q
    | inr d ↦ absurd (not-marker (rules s.kind) s good ok v d (sym (mate_entry-mate s v d) ∙ e))
  ]

  write-facts : Facts of (write s)
  write-facts = record {
    spare = spare-write s good;
    settings = subst InRange (sym (kind-write s good)) kind.range;
    unused = write-unused;
    unnamed = λ v l w k p t. let i = ok.inside v w (owned v w l k t) in omega (arith, size-write s good);
    size = (omega (arith, size-write s good, ok.some), omega (arith, size-write s good, size_few ok));
    ranks = λ v l. omega (arith, rank-write s good v (placed v l), top-write s good, ok.ranks v);
    no_loop = λ v l t. ok.no_loop v (owned v v (placed v l) (placed v l) t);
    owned-once = λ v l w k t. ok.owned-once v w (owned v w (placed v l) (placed w k) t.0) (owned w v (placed w k) (placed v l) t.1);
    edges = edges-write s good (size_few ok) ∙ ap edges (sym (read-write (rules s.kind) s good ok));
    phi = λ v l j h. entry-write s good v j (placed v l) h ∙ ap (λ (x : State). phi_entry x v j) (sym (read-write (rules s.kind) s good ok));
    owner-high = λ v l w k t.
        omega (arith, rank-write s good v (placed v l), rank-write s good w (placed w k), ok.owner-high v w (owned v w (placed v l) (placed w k) t));
    mated = write-mated;
    free-low = λ v l. (
      λ e. rank-write s good v (placed v l) ∙ ok.free-low v (marker-free v (sym (mate-write s good v (placed v l)) ∙ e)),
      λ e. mate-write s good v (placed v l) ∙ mate_entry-free s v (ok.low_free v (sym (rank-write s good v (placed v l)) ∙ e)),
    );
    phi-low = λ v l j h.
        let k : j ≤ s.kind.top = omega (arith, top-write s good) in
        omega (arith, phi-write s good v j (placed v l) (omega (arith, kind.range.room)) k, ok.phi-low v j k, ap (λ (g : ℕ). g ^ j) (growth-write s good));
    rosters = λ v l r h.
        roster-write s good r v h (placed v l) ∙ and_yes (ltb v s.n) (eqb (s.rank v) r) (lt→ltb v s.n (omega (arith, size-write s good)))
        ∙ ap (λ (x : ℕ). eqb x r) (sym (rank-write s good v (placed v l)));
    clear = λ r h v l p t.
        let below : T (ltb v s.n) = and_left (ltb v s.n) (eqb (s.rank v) r) (subst T (roster-write s good r v h l) t) in
        omega (arith, ltb→lt v s.n below, size-write s good);
  }

-- what is written of a valid state is sound
pub write-sound : (s : State) → GoodKind s.kind → Valid (rules s.kind) s → T (sound s.kind.shape (write s))
write-sound s kind ok = (sound-says s.kind.shape (write s)).test (write-facts kind ok)

-- bytes that are the writing of their own reading are sound where it is valid
pub valid-sound : (S : Shape) (bs : List ℕ) → GoodKind (kind_at S bs) → bs ≡ write (read S bs) → Valid (rules_at bs) (read S bs) → T (sound S bs)
unfolding read
valid-sound S bs kind e ok = subst (λ (x : List ℕ). T (sound S x)) (sym e) (write-sound (read S bs) kind ok)

-- From sound bytes to a valid state.
-- v is free, at rank 0
record Single (S : Shape) (bs : List ℕ) (v : ℕ) : Type 0 where
  mate : (read S bs).mate v ≡ v
  rank : (read S bs).rank v ≡ 0
  entry : v < S.most → mate_at S bs v ≡ no_mate

-- v has a mate, that of its entry
record Paired (S : Shape) (bs : List ℕ) (v : ℕ) : Type 0 where
  here : v < size_at bs
  there : mate_at S bs v < size_at bs
  mate : (read S bs).mate v ≡ mate_at S bs v
  other : (read S bs).mate v ≢ v
  entry : mate_at S bs v ≢ no_mate
  right : Mated S bs v (mate_at S bs v)

module _ {S : Shape} {bs : List ℕ} (good : GoodShape S) (f : Facts S bs) where
  read-inside : (v w : ℕ) → T ((read S bs).owns v w) → (v < (read S bs).n) × (w < (read S bs).n)
  read-inside v w t = let r = read_owned S bs v w t in (omega (arith, read-size S bs), omega (arith, read-size S bs))

  read-loop : (v : ℕ) → T (edge (read S bs) v v) → ⊥
  unfolding edge
  read-loop v t =
      let no : T ((read S bs).owns v v) → ⊥ = λ o. let r = read_owned S bs v v o in f.no_loop v r.0 r.2 in
      elim (or_cases ((read S bs).owns v v) ((read S bs).owns v v) t) [ inl o ↦ no o | inr o ↦ no o ]

  single? : (v : ℕ) → Single S bs v ⊎ Paired S bs v
  single? v = elim (le? (size_at bs) v) [
    | inl p ↦ inl (record { mate = read-mate-past S bs v p; rank = read-rank-past S bs v p; entry = λ l. (f.unused v l p).mate })
    | inr l ↦ elim (eq? (mate_at S bs v) no_mate) [
      | inl e ↦ inl (record {
        mate = read-mate S bs v l ∙ named-free v (mate_at S bs v) e;
        rank = read-rank S bs v l ∙ (f.free-low v l).0 e;
        entry = λ k. e;
      })
      | inr d ↦
          let m : Mated S bs v (mate_at S bs v) = f.mated v l d in
          let e : (read S bs).mate v ≡ mate_at S bs v = read-mate S bs v l ∙ named-mate v (mate_at S bs v) d in
          inr (record {
            here = l;
            there = omega (arith, (edge-within (read S bs) read-inside v (mate_at S bs v) m.linked).1, read-size S bs);
            mate = e;
            other = λ q. read-loop v (subst (λ (x : ℕ). T (edge (read S bs) v x)) (sym e ∙ q) m.linked);
            entry = d;
            right = m;
          })
    ]
  ]

  valid-back : (v : ℕ) → (read S bs).mate ((read S bs).mate v) ≡ v
  valid-back v = elim (single? v) [
    | inl a ↦ ap (read S bs).mate a.mate ∙ a.mate
    | inr p ↦
        let w : ℕ = mate_at S bs v in
        ap (read S bs).mate p.mate ∙ read-mate S bs w p.there ∙ ap (named w) p.right.back ∙ named-mate w v (omega (arith, f.size, good.named))
  ]

  valid-level : (v : ℕ) → (read S bs).rank ((read S bs).mate v) ≡ (read S bs).rank v
  valid-level v = elim (single? v) [
    | inl a ↦ ap (read S bs).rank a.mate
    | inr p ↦ ap (read S bs).rank p.mate ∙ read-rank S bs (mate_at S bs v) p.there ∙ p.right.level ∙ sym (read-rank S bs v p.here)
  ]

  valid-linked : (v : ℕ) → (read S bs).mate v ≢ v → T (edge (read S bs) v ((read S bs).mate v))
  valid-linked v d = elim (single? v) [
    | inl a ↦ absurd (d a.mate)
    | inr p ↦ subst (λ (x : ℕ). T (edge (read S bs) v x)) (sym p.mate) p.right.linked
  ]

  valid-free : (v : ℕ) → (read S bs).mate v ≡ v → (read S bs).rank v ≡ 0
  valid-free v e = elim (single? v) [ inl a ↦ a.rank | inr p ↦ absurd (p.other e) ]

  valid-low : (v : ℕ) → (read S bs).rank v ≡ 0 → (read S bs).mate v ≡ v
  valid-low v e = elim (single? v) [
    | inl a ↦ a.mate
    | inr p ↦ absurd (p.entry ((f.free-low v p.here).1 (sym (read-rank S bs v p.here) ∙ e)))
  ]

  valid-ranks : (v : ℕ) → (read S bs).rank v ≤ suc (top_at bs)
  valid-ranks v = elim (le? (size_at bs) v) [
    | inl p ↦ omega (arith, read-rank-past S bs v p)
    | inr l ↦ omega (arith, read-rank S bs v l, f.ranks v l)
  ]

  low-is : {j : ℕ} → j ≤ top_at bs → j ≤ (read S bs).kind.top
  unfolding read
  low-is h = h

  -- past n nothing is counted, and each threshold is above 0, since vertex 0 is below it
  valid-phi : (v j : ℕ) → j ≤ top_at bs → phi (read S bs) v j < growth_at bs ^ j
  valid-phi v j h = elim (le? (size_at bs) v) [
    | inl p ↦ omega (arith, phi_none (read S bs) read-inside v j (omega (arith, read-size S bs)), f.phi-low 0 f.size.0 j (omega arith))
    | inr l ↦
        omega (arith, f.phi v l j (omega (arith, f.settings.room)), phi_entry-low (read S bs) v j (low-is h), f.phi-low v l j (omega arith))
  ]

  read-valid : Valid (rules_at bs) (read S bs)
  read-valid = record {
    some = omega (arith, f.size, read-size S bs);
    few = omega (arith, f.size, read-size S bs, ap (λ (x : Shape). x.most) (ap (λ (K : Kind). K.shape) (read-kind S bs)));
    inside = read-inside;
    past = λ v p. read-rank-past S bs v (omega (arith, read-size S bs));
    ranks = valid-ranks;
    no_loop = λ v t. let r = read_owned S bs v v t in f.no_loop v r.0 r.2;
    owned-once = λ v w t u. let r = read_owned S bs v w t in f.owned-once v r.0 w r.1 (r.2, (read_owned S bs w v u).2);
    owner-high = λ v w t.
        let r = read_owned S bs v w t in
        omega (arith, read-rank S bs v r.0, read-rank S bs w r.1, f.owner-high v r.0 w r.1 r.2);
    mates-back = valid-back;
    mates-linked = valid-linked;
    mates-level = valid-level;
    free-low = valid-free;
    low_free = valid-low;
    phi-low = valid-phi;
  }

  same_rank : (v : ℕ) → v < S.most → rank_at bs v ≡ (read S bs).rank v
  same_rank v l = elim (le? (size_at bs) v) [
    | inl p ↦ (f.unused v l p).rank ∙ sym (read-rank-past S bs v p)
    | inr k ↦ sym (read-rank S bs v k)
  ]

  same-mate : (v : ℕ) → v < S.most → mate_at S bs v ≡ mate_entry (read S bs) v
  same-mate v l = elim (single? v) [
    | inl a ↦ a.entry l ∙ sym (mate_entry-free (read S bs) v a.mate)
    | inr p ↦ sym (mate_entry-mate (read S bs) v p.other ∙ p.mate)
  ]

  same-phi : (v j : ℕ) → v < S.most → j < S.levels → phi_at S bs v j ≡ phi_entry (read S bs) v j
  same-phi v j l h = elim (le? (size_at bs) v) [
    | inl p ↦ omega (
      arith,
      (f.unused v l p).phi j h,
      phi_entry-le (read S bs) v j,
      phi_none (read S bs) read-inside v j (omega (arith, read-size S bs)),
    )
    | inr k ↦ f.phi v k j h
  ]

  same-owns : (v w : ℕ) → v < S.most → w < S.most → owns_at S bs v w ≡ (read S bs).owns v w
  same-owns v w l k = elim (le? (size_at bs) v) [
    | inl p ↦ bool-ext (owns_at S bs v w) ((read S bs).owns v w) (λ t. absurd ((f.unused v l p).owns w k t)) (λ t. (read_owned S bs v w t).2)
    | inr b ↦ elim (le? (size_at bs) w) [
      | inl p ↦ bool-ext (owns_at S bs v w) ((read S bs).owns v w) (λ t. absurd (f.unnamed v l w k p t)) (λ t. (read_owned S bs v w t).2)
      | inr c ↦ sym (read-owns S bs v w b c)
    ]
  ]

  same-roster : (r v : ℕ) → r < suc S.levels → v < S.most → roster_at S bs r v ≡ (ltb v (read S bs).n && eqb ((read S bs).rank v) r)
  same-roster r v h l = elim (le? (size_at bs) v) [
    | inl p ↦
        bool-ext (roster_at S bs r v) (ltb v (read S bs).n && eqb ((read S bs).rank v) r) (λ t. absurd (f.clear r h v l p t))
        (λ t. absurd (omega (arith, ltb→lt v (read S bs).n (and_left (ltb v (read S bs).n) _ t), read-size S bs)))
    | inr k ↦
        f.rosters v k r h ∙ ap (λ (x : ℕ). eqb x r) (sym (read-rank S bs v k))
        ∙ sym (and_yes (ltb v (read S bs).n) (eqb ((read S bs).rank v) r) (lt→ltb v (read S bs).n (omega (arith, read-size S bs))))
  ]

  shown : Shows (fields_of (read S bs)) bs
  unfolding fields_of read roster
  shown = record {
    size = sym (read-size S bs);
    edges = f.edges;
    growth = refl;
    top = refl;
    spare = f.spare;
    rank = same_rank;
    mate = same-mate;
    phi = same-phi;
    owns = same-owns;
    roster = same-roster;
  }

-- sound bytes are the writing of their own reading, which is valid
pub sound-valid : (S : Shape) → GoodShape S → (bs : List ℕ) → IsBytes bs → length bs ≡ rack_length S → T (sound S bs)
    → (bs ≡ write (read S bs)) × (GoodKind (kind_at S bs) × Valid (rules_at bs) (read S bs))
unfolding read fields_of write
sound-valid S good bs hb e t =
    let f : Facts S bs = (sound-says S bs).fact t in
    (image-is (fields_of (read S bs)) good bs hb (shown good f) e, (record { shape = good; range = f.settings }, read-valid good f))

-- A list of as many bytes as the shape has is sound exactly if it is the writing of its own reading, its settings are in their ranges, and the state
-- that it reads as is valid by them.
pub bridge : (S : Shape) → GoodShape S → (bs : List ℕ) → IsBytes bs → length bs ≡ rack_length S
    → T (sound S bs) ↔ ((bs ≡ write (read S bs)) × (GoodKind (kind_at S bs) × Valid (rules_at bs) (read S bs)))
bridge S good bs hb e = (sound-valid S good bs hb e, λ h. valid-sound S bs h.1.0 h.0 h.1.1)

-- The 10,152 bytes of the papers' rack.
pub bridge-low : (bs : List ℕ) → IsBytes bs → length bs ≡ 10152
    → T (sound low bs) ↔ ((bs ≡ write (read low bs)) × (GoodKind (kind_at low bs) × Valid (rules_at bs) (read low bs)))
bridge-low = bridge low low-good
