-- Parting and pairing on the bytes: the entries of two mates set, and all else as it was. Assumes nothing.
use mathlib.Core.Path.{◌≡◌, refl, sym, ap, ◌∙◌}
use mathlib.Core.Logic.{◌≢◌, inl, inr}
use mathlib.Core.Bool.{true, false}
use Prim.Native.Nat.{ℕ, ◌<◌}
use native.Mathlib.Omega.{arith}
use lib.Dec.{eqb}
use Rattle.model.specs.Counting.{upd}
use Rattle.model.specs.State.{Kind, State, edge, near, below, phi, edges}
use Rattle.model.specs.Bytes.{no_mate, mate_entry, fields_of, write}
use Rattle.model.specs.Moves.{part, marry}
use Rattle.model.proofs.Tests.{eq?}
use Rattle.model.proofs.Lists.{upd_same, upd_other}
use Rattle.model.proofs.Limits.{mate_entry-free, mate_entry-mate}
use Rattle.layout.specs.Setters.{set_mate}
use Rattle.layout.proofs.Images.{with_mate, image-ext, set_mate-image}
use Rattle.moves.specs.Proper.{Proper}

-- the same mate, the same entry
entry-same : (s t : State) (x : ℕ) → s.mate x ≡ t.mate x → mate_entry s x ≡ mate_entry t x
unfolding mate_entry
entry-same s t x e = ap (λ (m : ℕ). elim (eqb m x) as (λ y. ℕ) [ true ↦ no_mate | false ↦ m ]) e

module _ {K : Kind} (s : State) (p : Proper K s) (v : ℕ) (l : v < s.n) where
  -- the entry tells whether v has a mate, and which
  pub entry_free : mate_entry s v ≡ no_mate → s.mate v ≡ v
  entry_free e = elim (eq? (s.mate v) v) [
    | inl q ↦ q
    | inr d ↦ absurd (omega (arith, mate_entry-mate s v d, p.mates v l, p.few, p.good.named))
  ]

  pub entry-mate : mate_entry s v ≢ no_mate → s.mate v ≢ v
  entry-mate d e = d (mate_entry-free s v e)

  pub part_free : s.mate v ≡ v → write s ≡ write (part v s)
  unfolding write fields_of part edges phi below near edge
  part_free e = image-ext (fields_of s) (fields_of (part v s)) p.good (record {
    kind = refl;
    n = refl;
    edges = refl;
    rank = λ x k. refl;
    mate = λ x k. entry-same s (part v s) x (elim (eq? x v) [
      | inl q ↦ ap s.mate q ∙ e ∙ sym (upd_same (upd s.mate (s.mate v) (s.mate v)) v v x q)
      | inr d ↦ sym (upd_other (upd s.mate (s.mate v) (s.mate v)) v v x d
          ∙ upd_other s.mate (s.mate v) (s.mate v) x (λ q. d (q ∙ e)))
    ]);
    phi = λ x j k h. refl;
    owns = λ x y k h. refl;
  })

  pub part-image : set_mate s.kind.shape (set_mate s.kind.shape (write s) (s.mate v) no_mate) v no_mate ≡ write (part v s)
  unfolding write fields_of part edges phi below near edge with_mate
  part-image =
      let m : ℕ = s.mate v in
      let once : ℕ → ℕ = upd s.mate m m in
      ap (λ (b : _). set_mate s.kind.shape b v no_mate) (set_mate-image (fields_of s) p.good m no_mate (omega (arith, p.mates v l, p.few)))
      ∙ set_mate-image (with_mate (fields_of s) m no_mate) p.good v no_mate (omega (arith, p.few))
      ∙ image-ext (with_mate (with_mate (fields_of s) m no_mate) v no_mate) (fields_of (part v s)) p.good (record {
        kind = refl;
        n = refl;
        edges = refl;
        rank = λ x k. refl;
        mate = λ x k. elim (eq? x v) [
          | inl q ↦ upd_same (upd (mate_entry s) m no_mate) v no_mate x q ∙ sym (mate_entry-free (part v s) x (upd_same once v v x q ∙ sym q))
          | inr d ↦ upd_other (upd (mate_entry s) m no_mate) v no_mate x d ∙ elim (eq? x m) [
            | inl q ↦ upd_same (mate_entry s) m no_mate x q
                ∙ sym (mate_entry-free (part v s) x (upd_other once v v x d ∙ upd_same s.mate m m x q ∙ sym q))
            | inr f ↦ upd_other (mate_entry s) m no_mate x f
                ∙ entry-same s (part v s) x (sym (upd_other once v v x d ∙ upd_other s.mate m m x f))
          ]
        ];
        phi = λ x j k h. refl;
        owns = λ x y k h. refl;
      })

module _ {K : Kind} (s : State) (p : Proper K s) (u y : ℕ) (l : u < s.n) (k : y < s.n) (d : u ≢ y) where
  pub marry-image : set_mate s.kind.shape (set_mate s.kind.shape (write s) u y) y u ≡ write (marry u y s)
  unfolding write fields_of marry edges phi below near edge with_mate
  marry-image =
      let once : ℕ → ℕ = upd s.mate u y in
      ap (λ (b : _). set_mate s.kind.shape b y u) (set_mate-image (fields_of s) p.good u y (omega (arith, p.few)))
      ∙ set_mate-image (with_mate (fields_of s) u y) p.good y u (omega (arith, p.few))
      ∙ image-ext (with_mate (with_mate (fields_of s) u y) y u) (fields_of (marry u y s)) p.good (record {
        kind = refl;
        n = refl;
        edges = refl;
        rank = λ x h. refl;
        mate = λ x h. elim (eq? x y) [
          | inl q ↦
              let e : upd once y u x ≡ u = upd_same once y u x q in
              upd_same (upd (mate_entry s) u y) y u x q ∙ sym (mate_entry-mate (marry u y s) x (λ r. d (sym e ∙ r ∙ q)) ∙ e)
          | inr f ↦ upd_other (upd (mate_entry s) u y) y u x f ∙ elim (eq? x u) [
            | inl q ↦
                let e : upd once y u x ≡ y = upd_other once y u x f ∙ upd_same s.mate u y x q in
                upd_same (mate_entry s) u y x q ∙ sym (mate_entry-mate (marry u y s) x (λ r. f (sym (sym e ∙ r))) ∙ e)
            | inr g ↦ upd_other (mate_entry s) u y x g
                ∙ entry-same s (marry u y s) x (sym (upd_other once y u x f ∙ upd_other s.mate u y x g))
          ]
        ];
        phi = λ x j a b. refl;
        owns = λ x z a b. refl;
      })
