-- The lines of the pairs, vertex by vertex, and what the bytes of a sound rack say of each. Assumes nothing.
use mathlib.Core.Path.{◌≡◌, refl, sym, ap, ◌∙◌, subst}
use mathlib.Core.Logic.{◌≢◌, inl, inr}
use mathlib.Core.Bool.{Bool, true, false}
use mathlib.Core.List.{List, [], ◌++◌, append-nil}
use Prim.Native.Nat.{ℕ, suc, ◌+◌, ◌*◌, ◌-◌, ◌≤◌, ◌<◌}
use native.Mathlib.Omega.{arith}
use native.Mathlib.Numerals.{add-one}
use lib.Dec.{T, ltb, T_not}
use lib.ListN.{length}
use Rattle.model.specs.Counting.{listed_onto, listed}
use Rattle.model.specs.Shape.{low}
use Rattle.model.specs.State.{State}
use Rattle.model.specs.Bytes.{rank_at, mate_at, read}
use Rattle.model.specs.Text.{texts}
use Rattle.model.specs.Record.{pair_line, pair_lines}
use Rattle.model.proofs.Tests.{eq?, bool?, T_true, T_false, true-T, leb_yes, leb_no}
use Rattle.model.proofs.Limits.{mate_entry-free, mate_entry-mate}
use Rattle.model.proofs.Lists.{listed-yes, listed-no}
use Rattle.moves.specs.Proper.{Held}
use Rattle.moves.proofs.Held.{held-few, held-rank, held-mate, held_small}
use Rattle.text.specs.Writing.{Put}
use Rattle.text.specs.Rooms.{pair_room, end_room, ending_room}
use Rattle.text.proofs.Texts.{texts-snoc}
use Rattle.text.proofs.Over.{part, back, put_as, put-none, put_then, put-kept}
use Rattle.record.specs.Line.{pair_text}
use Rattle.record.proofs.Laws.{pair_line_lem}
use Rattle.trace.proofs.Bound.{pair-most}
use Rattle.trace.proofs.RecordFits.{valid-small}
use Rattle.changes.specs.Sounded.{Sounded}
use Rattle.changes.proofs.Wholes.{sounded-held}
use Rattle.run.specs.Recording.{pair_part}
use Rattle.run.proofs.Turns.{sounded-valid}

-- a text that stands there by a test
pub shown : (b : Bool) (x : List ℕ) → T b → elim b [ true ↦ x | false ↦ [] ] ≡ x
shown true x h = refl
shown false x h = absurd h

pub left_out : (b : Bool) (x : List ℕ) → (T b → ⊥) → ◌≡◌ {A = List ℕ} (elim b [ true ↦ x | false ↦ [] ]) []
left_out true x h = absurd (h tt)
left_out false x h = refl

-- v is the lower vertex of a pair, or not
part-yes : (s : State) (v : ℕ) → ltb v (s.mate v) ≡ true → pair_part s v ≡ pair_line s v
unfolding pair_part
part-yes s v e = shown (ltb v (s.mate v)) (pair_line s v) (true-T e)

part_no : (s : State) (v : ℕ) → ltb v (s.mate v) ≡ false → pair_part s v ≡ []
unfolding pair_part
part_no s v e = left_out (ltb v (s.mate v)) (pair_line s v) (λ t. subst T e t)

-- the lines of the pairs whose lower vertex is below v
abbrev pairs_to : State → ℕ → List ℕ
pairs_to s v = texts (pair_line s) (listed (λ x. ltb x (s.mate x)) v)

pairs-zero : (s : State) → [] ≡ pairs_to s 0
unfolding texts listed listed_onto
pairs-zero s = refl

pairs-suc : (s : State) (v : ℕ) → pairs_to s (suc v) ≡ pairs_to s v ++ pair_part s v
pairs-suc s v =
    let p : ℕ → Bool = λ x. ltb x (s.mate x) in
    elim (bool? (p v)) [
      | inl t ↦ let e : p v ≡ true = T_true {b = p v} t in
          ap (texts (pair_line s)) (listed-yes p v e)
          ∙ texts-snoc (pair_line s) (listed p v) v
          ∙ ap (λ (l : List ℕ). pairs_to s v ++ l) (sym (part-yes s v e))
      | inr t ↦ let e : p v ≡ false = T_false {b = p v} (T_not (p v) t) in
          ap (texts (pair_line s)) (listed-no p v e)
          ∙ sym (append-nil (pairs_to s v))
          ∙ ap (λ (l : List ℕ). pairs_to s v ++ l) (sym (part_no s v e))
    ]

module _ {bs : List ℕ} (ok : Sounded low bs) {v : ℕ} (l : v < (read low bs).n) where
  abbrev s : State
  s = read low bs

  held : Held low bs
  held = sounded-held bs ok

  small : v < low.most
  small = held_small held v l

  pub part_free : mate_at low bs v ≡ 65535 → pair_part (read low bs) v ≡ []
  part_free e = elim (eq? (s.mate v) v) [
    | inl f ↦ part_no s v (leb_no (suc v) (s.mate v) (omega arith))
    | inr f ↦ absurd (omega (arith, held-mate held v small, mate_entry-mate s v f, held.proper.mates v l, held-few held))
  ]

  pub part-upper : mate_at low bs v ≤ v → pair_part (read low bs) v ≡ []
  part-upper h = elim (eq? (s.mate v) v) [
    | inl f ↦ part_no s v (leb_no (suc v) (s.mate v) (omega arith))
    | inr f ↦ part_no s v (leb_no (suc v) (s.mate v) (omega (arith, held-mate held v small, mate_entry-mate s v f)))
  ]

  -- the entry of a lower vertex is its mate
  module _ (d : mate_at low bs v ≢ 65535) (h : v < mate_at low bs v) where
    mated : s.mate v ≢ v
    mated f = d (held-mate held v small ∙ mate_entry-free s v f)

    entry : mate_at low bs v ≡ s.mate v
    entry = held-mate held v small ∙ mate_entry-mate s v mated

    pub part-rank : 1 ≤ rank_at bs v
    part-rank = elim (eq? (s.rank v) 0) [ inl z ↦ absurd (mated (ok.valid.low_free v z)) | inr z ↦ omega (arith, held-rank held v small) ]

    pub part-line : pair_part (read low bs) v ≡ pair_text v (mate_at low bs v) (rank_at bs v - 1)
    part-line =
        part-yes s v (leb_yes (suc v) (s.mate v) (omega (arith, entry)))
        ∙ pair_line_lem s v
        ∙ (λ i. pair_text v (sym entry i) (sym (held-rank held v small) i - 1))

    -- it was printed, by the figures that were read
    pub put-part : {x y z : ℕ} {old new : List ℕ} {r : ℕ} → x ≡ v → y ≡ mate_at low bs v → z ≡ rank_at bs v - 1 → Put (pair_text x y z) old new r
        → Put (pair_part (read low bs) v) old new r
    put-part p q h w = put_as _ _ ((λ i. pair_text (p i) (q i) (h i)) ∙ sym part-line) w

  part-most : length (pair_part (read low bs) v) ≤ pair_room
  part-most =
      let p : ℕ → Bool = λ x. ltb x (s.mate x) in
      elim (bool? (p v)) [
        | inl t ↦ omega (arith, ap length (part-yes s v (T_true {b = p v} t)), pair-most s v (valid-small s (sounded-valid ok)) l)
        | inr t ↦ omega (arith, ap length (part_no s v (T_false {b = p v} (T_not (p v) t))))
      ]

-- The loop over the vertices: the lines of the pairs whose lower vertex is below v are written.
pub record Listed (bs out₀ out : List ℕ) (at v : ℕ) : Type 0 where
  pub inside : v ≤ (read low bs).n
  pub few : at ≤ pair_room * v
  pub wrote : Put (pairs_to (read low bs) v) out₀ out at

pub listed_start : (bs out : List ℕ) → Listed bs out out 0 0
listed_start bs out = record {
  inside = omega arith;
  few = omega arith;
  wrote = put_as _ _ (pairs-zero (read low bs)) (put-none out);
}

module _ {bs out₀ : List ℕ} (ok : Sounded low bs) (room : ending_room ≤ length out₀) {out : List ℕ} {at v : ℕ} (g : Listed bs out₀ out at v) where
  listed-within : at + end_room ≤ length out₀
  listed-within = omega (arith, g.inside, g.few, held-few (sounded-held bs ok), room)

  pub listed_kept : length out ≡ length out₀
  listed_kept = put-kept g.wrote (omega (arith, listed-within))

  -- there is room for a line of v
  pub listed-room : v < (read low bs).n → at + pair_room ≤ length out
  listed-room l = omega (arith, l, g.few, held-few (sounded-held bs ok), room, listed_kept)

  pub listed-turn : {last : List ℕ} {m : ℕ} → v < (read low bs).n → Put (pair_part (read low bs) v) (part at out) last m
      → Listed bs out₀ (back at out last) (at + m) (v + 1)
  listed-turn l p =
      let s = read low bs in
      let more = sym (pairs-suc s v) ∙ ap (pairs_to s) (sym (add-one v)) in
      record {
        inside = omega (arith, l);
        few = omega (arith, g.few, p.count, part-most ok l);
        wrote = put_as _ _ more (put_then g.wrote p (omega (arith, g.wrote.count, listed-within)));
      }

  -- every vertex was looked at
  pub listed-end : (read low bs).n ≤ v → Put (pair_lines (read low bs)) out₀ out at
  unfolding pair_lines
  listed-end h =
      let e : v ≡ (read low bs).n = omega (arith, g.inside, h) in
      put_as _ _ (ap (pairs_to (read low bs)) e) g.wrote
