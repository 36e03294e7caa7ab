-- The bytes on the way from a state to one with other owners: first the owners, then the counts of one end and of the other, and last the
-- number of edges. Assumes nothing.
use mathlib.Core.Path.{◌≡◌, refl, sym, ap, ◌∙◌, subst}
use mathlib.Core.Logic.{◌≢◌, inl, inr}
use mathlib.Core.Bool.{Bool, true, false}
use mathlib.Core.List.{List}
use Prim.Native.Nat.{ℕ, ◌≤◌, ◌<◌}
use lib.Dec.{eqb}
use Rattle.model.specs.Shape.{Shape, GoodShape}
use Rattle.model.specs.State.{Kind, State, phi, edges}
use Rattle.model.specs.Parts.{by_rows}
use Rattle.model.specs.Bytes.{no_mate, edges_at, top_at, phi_at, Fields, roster, parts, up_to_top, image, mate_entry, fields_of, write}
use Rattle.model.proofs.Tests.{le?}
use Rattle.model.proofs.Parts.{rows_ext}
use Rattle.model.proofs.Fields.{image-length, edges-image, top-image, phi-image}
use Rattle.model.proofs.Limits.{edges_fit, up_to-low, up_to-above}
use Rattle.layout.specs.Setters.{Sized, set_edges, own, disown}
use Rattle.layout.proofs.Images.{image-ext, with_edges, with_owns, set_edges-image, own-image, disown-image}
use Rattle.layout.proofs.Pieces.{put-ext}
use Rattle.layout.proofs.Tables.{entry-is}
use Rattle.moves.specs.Proper.{Proper}
use Rattle.moves.specs.Counts.{with_counts}
use Rattle.moves.proofs.Owning.{owners_of}
use Rattle.edges.proofs.Shifted.{both, both-held, half}

-- the owners of fields, place by place
owners-ext : (s : State) (F : Fields) (g : ℕ → ℕ → Bool) → F ≡ owners_of s F.owns → ((v w : ℕ) → F.owns v w ≡ g v w) → image F ≡ image (owners_of s g)
owners-ext s F g e f = ap image (e ∙ ap (owners_of s) (λ i v w. f v w i))

-- the stages from s to t
unfoldable pub turned : State → State → Fields
turned s t = owners_of s t.owns

unfoldable pub halfway : ℕ → State → State → Fields
halfway a s t = with_counts (turned s t) (half a s t)

unfoldable pub counted : State → State → Fields
counted s t = with_counts (turned s t) (both s t)

-- the first of them is as long as a rack
pub turned-sized : {K : Kind} (s t : State) → Proper K s → Sized K.shape (image (turned s t))
unfolding turned owners_of
turned-sized s t p = subst (λ (L : Kind). Sized L.shape (image (turned s t))) p.kind (image-length (turned s t) p.good)

-- vertices with the same mate have the same entry for it
entry-same : (s t : State) (v : ℕ) → t.mate v ≡ s.mate v → mate_entry s v ≡ mate_entry t v
unfolding mate_entry
entry-same s t v e = ap (λ (m : ℕ). elim (eqb m v) [ true ↦ no_mate | false ↦ m ]) (sym e)

-- the counts above the top are written as 0, whatever they are
upto-ext : (F : Fields) (c d : ℕ → ℕ → ℕ) → ((v x : ℕ) → x ≤ F.kind.top → c v x ≡ d v x) → image (with_counts F c) ≡ image (with_counts F d)
unfolding with_counts image roster
upto-ext F c d e =
    let S : Shape = F.kind.shape in
    let top : ℕ = F.kind.top in
    put-ext 8 (parts F) (by_rows S.levels (up_to_top top c)) (by_rows S.levels (up_to_top top d))
    (λ i l. rows_ext _ _ S.most S.levels i l (λ v x b k h. written v x))
  where
    written : (v x : ℕ) → up_to_top F.kind.top c v x ≡ up_to_top F.kind.top d v x
    written v x = elim (le? x F.kind.top) [
      | inl l ↦ up_to-low F.kind.top c v x l ∙ e v x l ∙ sym (up_to-low F.kind.top d v x l)
      | inr l ↦ up_to-above F.kind.top c v x l ∙ sym (up_to-above F.kind.top d v x l)
    ]

module _ (s t : State) (good : GoodShape s.kind.shape) where
  abbrev of : Shape
  of = s.kind.shape

  -- the owner's bit set, and both ends' bits cleared
  module _ (o e : ℕ) (x : o < of.most) (y : e < of.most) where
    pub own-turned : ((v w : ℕ) → (v ≡ o → w ≢ e) → t.owns v w ≡ s.owns v w) → t.owns o e ≡ true → own of (write s) o e ≡ image (turned s t)
    unfolding write fields_of turned with_owns owners_of
    own-turned off on =
        own-image (fields_of s) good o e x y
        ∙ owners-ext s (with_owns (fields_of s) o e true) t.owns refl (λ v w. sym (entry-is s.owns o e true t.owns v w on (off v w)))

    pub disown-turned : ((v w : ℕ) → (v ≡ o → w ≢ e) → (v ≡ e → w ≢ o) → t.owns v w ≡ s.owns v w) → t.owns o e ≡ false
        → t.owns e o ≡ false → disown of (disown of (write s) o e) e o ≡ image (turned s t)
    unfolding write fields_of turned with_owns owners_of
    disown-turned off on back =
        let once : Fields = with_owns (fields_of s) o e false in
        ap (λ (bs : List ℕ). disown of bs e o) (disown-image (fields_of s) good o e x y) ∙ disown-image once good e o y x
        ∙ owners-ext s (with_owns once e o false) t.owns refl
        (λ v w. sym (entry-is once.owns e o false t.owns v w back (λ d. entry-is s.owns o e false t.owns v w on (λ c. off v w c d))))

  -- what the stages hold
  pub turned-top : top_at (image (turned s t)) ≡ s.kind.top
  unfolding turned owners_of
  turned-top = top-image (turned s t) good

  pub turned-phi : (v x : ℕ) → v < of.most → x < of.levels → x ≤ s.kind.top → phi_at of (image (turned s t)) v x ≡ phi s v x
  unfolding turned owners_of
  turned-phi = phi-image (turned s t) good

  pub halfway-phi : (a v x : ℕ) → v < of.most → x < of.levels → x ≤ s.kind.top → phi_at of (image (halfway a s t)) v x ≡ half a s t v x
  unfolding halfway with_counts turned owners_of
  halfway-phi a = phi-image (halfway a s t) good

  pub counted-edges : s.n ≤ of.most → edges_at of (image (counted s t)) ≡ edges s
  unfolding counted with_counts turned owners_of
  counted-edges few = edges-image (counted s t) good (edges_fit s good few)

  -- with the number of edges the bytes are those of t, where t differs in its owners alone
  pub edges-written : t.kind ≡ s.kind → t.n ≡ s.n → ((v : ℕ) → t.rank v ≡ s.rank v) → ((v : ℕ) → t.mate v ≡ s.mate v)
      → set_edges of (image (counted s t)) (edges t) ≡ write t
  unfolding counted with_counts turned owners_of fields_of write with_edges
  edges-written k e f g =
      set_edges-image (counted s t) good (edges t)
      ∙ upto-ext (with_edges (turned s t) (edges t)) (both s t) (phi t) (both-held s t)
      ∙ image-ext (with_counts (with_edges (turned s t) (edges t)) (phi t)) (fields_of t) good (record {
        kind = sym k;
        n = sym e;
        edges = refl;
        rank = λ v l. sym (f v);
        mate = λ v l. entry-same s t v (g v);
        phi = λ v x l k. refl;
        owns = λ v w l k. refl;
      })
