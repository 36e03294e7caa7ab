-- What a setter makes of an image: the image of the fields with one value, or the places of one word, changed. And images by their fields.
-- Assumes nothing.
use mathlib.Core.Path.{◌≡◌, refl, sym, ap, ap₂, ◌∙◌}
use mathlib.Core.Logic.{inl, inr}
use mathlib.Core.Bool.{Bool, true, false, ◌&&◌}
use mathlib.Core.List.{List}
use Prim.Native.Nat.{ℕ, suc, ◌+◌, ◌-◌, ◌*◌, ◌/◌, ◌%◌, ◌≤◌, ◌<◌}
use native.Mathlib.Omega.{arith}
use lib.Dec.{ltb, eqb, lt→ltb}
use lib.ListN.{set}
use Rattle.model.specs.Counting.{upd}
use Rattle.model.specs.Shape.{Shape, GoodShape, ranks_from, mates_from, phis_from, rows_from, rosters_from}
use Rattle.model.specs.State.{Kind}
use Rattle.model.specs.Parts.{num_at, bit_of, row_byte, by_rows, bytes_of}
use Rattle.model.specs.Bytes.{half, Fields, roster, parts, image, up_to_top}
use Rattle.model.proofs.Tests.{eq?, eqb_yes, eqb_no, and_yes}
use Rattle.model.proofs.Lists.{upd_same, upd_other}
use Rattle.model.proofs.Limits.{up_to-low, up_to-same}
use Rattle.model.proofs.Parts.{rows_at, rows_inside, rows_ext, bytes-number, Same, bytes-ext}
use Rattle.model.proofs.Fields.{rank-image}
use Rattle.bitset.specs.Row.{inserted, removed}
use Rattle.layout.specs.Setters.{set_num, set_edges, set_rank, set_mate, set_phi, place_in, own, disown, set_word, put}
use Rattle.layout.proofs.Pieces.{put-ext, set-part, row_byte-ext}
use Rattle.layout.proofs.Tables.{entered, entry-same, entry_other}
use Rattle.layout.proofs.Bits.{rows_other, with_row_word, Table, insert-place, remove-place, store_word}

-- ---- images by their fields

-- fields that are the same wherever an image shows them
pub record SameFields (f g : Fields) : Type 0 where
  pub kind : f.kind ≡ g.kind
  pub n : f.n ≡ g.n
  pub edges : f.edges ≡ g.edges
  pub rank : (v : ℕ) → v < f.kind.shape.most → f.rank v ≡ g.rank v
  pub mate : (v : ℕ) → v < f.kind.shape.most → f.mate v ≡ g.mate v
  pub phi : (v j : ℕ) → v < f.kind.shape.most → j < f.kind.shape.levels → f.phi v j ≡ g.phi v j
  pub owns : (v w : ℕ) → v < f.kind.shape.most → w < f.kind.shape.most → f.owns v w ≡ g.owns v w

-- one part more that is the same (`Same`)
same_next : {m w : ℕ} {f g : ℕ → ℕ} {Rest : Type 0} → ((i : ℕ) → i < m → f i ≡ g i) → Rest
    → (m ≡ m) × (w ≡ w) × ((i : ℕ) → i < m → f i ≡ g i) × Rest
same_next h rest = (refl, refl, h, rest)

pub image-ext : (f g : Fields) → GoodShape f.kind.shape → SameFields f g → image f ≡ image g
unfolding image Same roster
image-ext f g good a =
    let S : Shape = f.kind.shape in
    let of : Kind → Fields = λ K. record { kind = K; n = g.n; edges = g.edges; rank = g.rank; mate = g.mate; phi = g.phi; owns = g.owns } in
    bytes-ext (parts f) (parts (of f.kind))
    (same_next (λ i l. a.n)
    (same_next (λ i l. ap (λ (x : ℕ). x % half) a.edges)
    (same_next (λ i l. refl)
    (same_next (λ i l. refl)
    (same_next (λ i l. refl)
    (same_next (λ i l. ap (λ (x : ℕ). x / half) a.edges)
    (same_next a.rank
    (same_next a.mate
    (same_next (λ i l. rows_ext _ _ S.most S.levels i l (λ v j b c e. up_to-same f.kind.top f.phi g.phi v j (a.phi v j b c)))
    (same_next (λ i l. rows_ext _ _ S.most S.row i l (λ v k b c e.
    row_byte-ext (f.owns v) (g.owns v) k (λ j d. a.owns v (8 * k + j) b (omega (arith, good.rows)))))
    (same_next (λ i l. rows_ext _ _ (suc S.levels) S.row i l (λ r k b c e.
    row_byte-ext (roster f r) (roster g r) k (λ j d.
    ap₂ (λ (n x : ℕ). ltb (8 * k + j) n && eqb x r) a.n (a.rank (8 * k + j) (omega (arith, good.rows))))))
    tt)))))))))))
    ∙ ap (λ (K : Kind). image (of K)) a.kind

-- ---- fields with one value changed

unfoldable pub with_edges : Fields → ℕ → Fields
with_edges f x = record { kind = f.kind; n = f.n; edges = x; rank = f.rank; mate = f.mate; phi = f.phi; owns = f.owns }

unfoldable pub with_rank : Fields → ℕ → ℕ → Fields
with_rank f v x =
    record { kind = f.kind; n = f.n; edges = f.edges; rank = upd f.rank v x; mate = f.mate; phi = f.phi; owns = f.owns }

unfoldable pub with_mate : Fields → ℕ → ℕ → Fields
with_mate f v x =
    record { kind = f.kind; n = f.n; edges = f.edges; rank = f.rank; mate = upd f.mate v x; phi = f.phi; owns = f.owns }

unfoldable pub with_phi : Fields → ℕ → ℕ → ℕ → Fields
with_phi f v j x =
    record { kind = f.kind; n = f.n; edges = f.edges; rank = f.rank; mate = f.mate; phi = entered f.phi v j x; owns = f.owns }

unfoldable pub with_owns : Fields → ℕ → ℕ → Bool → Fields
with_owns f v w b =
    record { kind = f.kind; n = f.n; edges = f.edges; rank = f.rank; mate = f.mate; phi = f.phi; owns = entered f.owns v w b }

unfoldable pub with_word : Fields → ℕ → ℕ → (ℕ → Bool) → Fields
with_word f v k p = record {
  kind = f.kind;
  n = f.n;
  edges = f.edges;
  rank = f.rank;
  mate = f.mate;
  phi = f.phi;
  owns = with_row_word f.owns v k p;
}

-- ---- each setter on an image: the number that it sets, in which of `parts`, from 0, and where it stands

module _ (f : Fields) (good : GoodShape f.kind.shape) where
  abbrev S : Shape
  S = f.kind.shape

  -- the lower half of the number of edges, and what is left of it
  pub set_edges-image : (x : ℕ) → set_edges S (image f) x ≡ image (with_edges f x)
  unfolding set_edges image with_edges roster
  set_edges-image x =
      let lower : ℕ → ℕ = λ i. x % half in
      ap (λ (l : List ℕ). set_num (2 - S.spare) l (6 + S.spare) (x / half))
      (set-part 1 (parts f) lower 0 2 (x % half) (omega arith) (omega arith) refl (λ u l d. absurd (omega arith)))
      ∙ set-part 5 (put 1 lower (parts f)) (λ i. x / half) 0 (6 + S.spare) (x / half) (omega arith) (omega arith) refl (λ u l d. absurd (omega arith))

  pub set_mate-image : (v x : ℕ) → v < S.most → set_mate S (image f) v x ≡ image (with_mate f v x)
  unfolding set_mate image with_mate roster
  set_mate-image v x l =
      set-part 7 (parts f) (upd f.mate v x) v (mates_from S + 2 * v) x l (omega (arith, good.spare)) (sym (upd_same f.mate v x v refl))
      (λ u b d. sym (upd_other f.mate v x u d))

  pub set_phi-image : (v j x : ℕ) → v < S.most → j < S.levels → j ≤ f.kind.top → set_phi S (image f) v j x ≡ image (with_phi f v j x)
  unfolding set_phi image with_phi roster
  set_phi-image v j x l h k =
      let t : ℕ = f.kind.top in
      let new : ℕ → ℕ → ℕ = entered f.phi v j x in
      let i : ℕ = S.levels * v + j in
      set-part 8 (parts f) (by_rows S.levels (up_to_top t new)) i (phis_from S + S.width * i) x (rows_inside S.most S.levels v j l h)
      (omega (arith, good.spare)) (sym (rows_at (up_to_top t new) S.levels v j h ∙ up_to-low t new v j k ∙ entry-same f.phi v j x))
      (rows_other (up_to_top t f.phi) (up_to_top t new) S.most S.levels v j
      (λ p q d. up_to-same t f.phi new p q (sym (entry_other f.phi v j x p q d))))

  -- the rows of the vertices, and the rosters
  rows-table : Table S (rows_from S) S.most (λ g. bytes_of (put 9 g (parts f)))
  unfolding set_num num_at
  rows-table = record {
    holds = λ g i l. bytes-number 9 (put 9 g (parts f)) i (rows_from S + i) l (omega arith) (omega (arith, good.spare));
    sets = λ old new i x l e other. set-part 9 (put 9 old (parts f)) new i (rows_from S + i) x l (omega (arith, good.spare)) e other;
    ext = put-ext 9 (parts f);
  }

  pub rosters-table : Table S (rosters_from S) (suc S.levels) (λ g. bytes_of (put 10 g (parts f)))
  unfolding set_num num_at
  rosters-table = record {
    holds = λ g i l. bytes-number 10 (put 10 g (parts f)) i (rosters_from S + i) l (omega arith) (omega (arith, good.spare));
    sets = λ old new i x l e other. set-part 10 (put 10 old (parts f)) new i (rosters_from S + i) x l (omega (arith, good.spare)) e other;
    ext = put-ext 10 (parts f);
  }

  pub own-image : (v w : ℕ) → v < S.most → w < S.most → own S (image f) v w ≡ image (with_owns f v w true)
  unfolding image with_owns roster
  own-image = insert-place good rows-table f.owns

  pub disown-image : (v w : ℕ) → v < S.most → w < S.most → disown S (image f) v w ≡ image (with_owns f v w false)
  unfolding image with_owns roster
  disown-image = remove-place good rows-table f.owns

  pub set_word-image : (v k x : ℕ) (p : ℕ → Bool) → v < S.most → 64 * k < S.most
      → ((j : ℕ) → j < 64 → bit_of x j ≡ p (64 * k + j)) → set_word S (image f) v k x ≡ image (with_word f v k p)
  unfolding image with_word roster
  set_word-image = store_word good rows-table f.owns

  -- v's two bits of the rosters, moved: it is then in that of x alone
  moved : ℕ → ℕ → ℕ → ℕ → Bool
  moved v x = entered (entered (roster f) (f.rank v) v false) x v true

  moved-roster : (v x r w : ℕ) → v < f.n → moved v x r w ≡ roster (with_rank f v x) r w
  unfolding moved roster with_rank
  moved-roster v x r w l =
      let less : ℕ → ℕ → Bool = entered (roster f) (f.rank v) v false in
      elim (eq? w v) [
        | inl e ↦
            let there : (b : Bool) → (ltb w f.n && b) ≡ b = λ b. and_yes (ltb w f.n) b (lt→ltb w f.n (omega arith)) in
            let new : upd f.rank v x w ≡ x = upd_same f.rank v x w e in
            elim (eq? r x) [
              | inl d ↦ ap₂ (moved v x) d e ∙ entry-same less x v true ∙ sym (there _ ∙ eqb_yes (upd f.rank v x w) r (new ∙ sym d))
              | inr d ↦
                  let out : less r w ≡ false = elim (eq? r (f.rank v)) [
                    | inl q ↦ ap₂ less q e ∙ entry-same (roster f) (f.rank v) v false
                    | inr q ↦
                        entry_other (roster f) (f.rank v) v false r w (λ z. absurd (q z)) ∙ there _
                        ∙ eqb_no (f.rank w) r (λ z. q (sym z ∙ ap f.rank e))
                  ] in
                  entry_other less x v true r w (λ z. absurd (d z)) ∙ out ∙ sym (there _ ∙ eqb_no (upd f.rank v x w) r (λ z. d (sym z ∙ new)))
            ]
        | inr d ↦
            entry_other less x v true r w (λ _. d) ∙ entry_other (roster f) (f.rank v) v false r w (λ _. d)
            ∙ ap (λ (y : ℕ). ltb w f.n && eqb y r) (sym (upd_other f.rank v x w d))
      ]

  pub set_rank-image : (v x : ℕ) → v < f.n → v < S.most → f.rank v ≤ S.levels → x ≤ S.levels → set_rank S (image f) v x ≡ image (with_rank f v x)
  unfolding set_rank set_num image with_rank moved
  set_rank-image v x l h old new =
      let less : ℕ → ℕ → Bool = entered (roster f) (f.rank v) v false in
      let numbers_of : (ℕ → ℕ → Bool) → ℕ → ℕ = λ p. by_rows S.row (λ r. row_byte (p r)) in
      let now : Fields = with_rank f v x in
      ap (λ (r : ℕ). set (inserted (removed (image f) (place_in S (rosters_from S) r v)) (place_in S (rosters_from S) x v)) (ranks_from + v) x)
      (rank-image f good v h)
      ∙ ap (λ (l : List ℕ). set (inserted l (place_in S (rosters_from S) x v)) (ranks_from + v) x)
      (remove-place good rosters-table (roster f) (f.rank v) v (omega arith) h)
      ∙ ap (λ (l : List ℕ). set l (ranks_from + v) x) (insert-place good rosters-table less x v (omega arith) h)
      ∙ set-part 6 (put 10 (numbers_of (moved v x)) (parts f)) (upd f.rank v x) v (ranks_from + v) x h (omega (arith, good.spare))
      (sym (upd_same f.rank v x v refl)) (λ u b d. sym (upd_other f.rank v x u d))
      ∙ put-ext 10 (parts now) (numbers_of (moved v x)) (numbers_of (roster now)) (λ u b. rows_ext _ _ (suc S.levels) S.row u b (λ r k c d e.
      row_byte-ext (moved v x r) (roster now r) k (λ j g. moved-roster v x r (8 * k + j) l)))
