-- An add and a drop as wholes: from a sound rack to where their moves begin, and from there to the definition's run. Assumes nothing.
use mathlib.Core.Path.{◌≡◌, refl, sym, ap, ◌∙◌, subst}
use mathlib.Core.Logic.{◌≢◌, inl, inr}
use mathlib.Core.Bool.{true, false, not}
use mathlib.Core.List.{List}
use Prim.Native.Nat.{ℕ, suc, ◌≤◌, ◌<◌}
use native.Mathlib.Omega.{arith}
use lib.Dec.{T, eqb}
use Rattle.std.specs.Prelude.{Option, None, Some}
use Rattle.std.specs.Option.{option_eq}
use lib.ListN.{length}
use Rattle.model.specs.Shape.{Shape}
use Rattle.model.specs.State.{Rules, State, edge, edges, pending}
use Rattle.model.specs.Bytes.{rules_at, kind_at, top_at, rank_at, mate_at, read, write, mate_entry}
use Rattle.model.specs.Moves.{Found, Run, none, found, promote, settle}
use Rattle.model.specs.Change.{start, start_parted, reown, add_edge, riser, add, drop}
use Rattle.model.proofs.Shapes.{thr-one, thr-pos}
use Rattle.model.proofs.Tests.{eq?, le?, T_true, eqb_yes, eqb_no}
use Rattle.theory.specs.Waiting.{marks, Paired}
use Rattle.theory.specs.Quick.{Suffices}
use Rattle.theory.proofs.Making.{add-quick, drop-quick}
use Rattle.layout.specs.Setters.{MateIs}
use Rattle.moves.specs.Proper.{Proper, Ordered, Held}
use Rattle.moves.proofs.Held.{proper-pos, rules-as, held_of, held_small, held-rank, held-mate, reads_as, valid-proper, valid-ordered}
use Rattle.edges.proofs.Changed.{drop_edge, add-size, add-proper, add-joined, drop-proper}
use Rattle.edges.proofs.Undone.{undone}
use Rattle.settling.specs.declared.tally.Tally.{Tally}
use Rattle.changes.specs.Sounded.{Sounded, Begun, Liftable, Ended}
use Rattle.changes.specs.Working.{Joins, rise_run, part_run, Tried, Enough}
use Rattle.changes.proofs.Begun.{still, add-still, add-ordered, drop-ordered, Riser, riser-of, valid-paired, add-paired, entry-names, entry-not}
use Rattle.changes.proofs.Chains.{Fresh}

sounded-proper : {S : Shape} (bs : List ℕ) → Sounded S bs → Proper (kind_at S bs) (read S bs)
unfolding read
sounded-proper {S} bs s = valid-proper (read S bs) refl s.kind s.valid

pub sounded-held : {S : Shape} (bs : List ℕ) → Sounded S bs → Held S bs
sounded-held bs s = record { written = s.written; proper = sounded-proper bs s }

-- ---- add: the bytes bs with the edge a-b, which was not there in bs₀
pub record Added (S : Shape) (bs₀ : List ℕ) (a b : ℕ) (bs : List ℕ) : Type 0 where
  pub from : Sounded S bs₀
  pub ends : (a < (read S bs₀).n) × (b < (read S bs₀).n) × (a ≢ b) × (edge (read S bs₀) a b ≡ false)
  pub rack : bs ≡ write (add_edge a b (read S bs₀))

module _ {S : Shape} {bs₀ : List ℕ} {a b : ℕ} {bs : List ℕ} (x : Added S bs₀ a b bs) where
  added-proper : Proper (kind_at S bs₀) (add_edge a b (read S bs₀))
  added-proper =
      add-proper a b (read S bs₀) x.ends.2 (x.ends.0, x.ends.1) (λ h. subst T x.ends.3 h)
      (sounded-proper bs₀ x.from)

  added-read : read S bs ≡ add_edge a b (read S bs₀)
  added-read = reads_as bs (add_edge a b (read S bs₀)) x.rack added-proper

  pub added-begun : Begun S bs
  added-begun = record {
    held = held_of bs (add_edge a b (read S bs₀)) x.rack added-proper;
    ordered = subst Ordered (sym added-read) (add-ordered (read S bs₀) a b (valid-ordered (read S bs₀) x.from.valid));
    paired = subst (λ (s : State). Paired s.n (marks s)) (sym added-read) (add-paired a b (read S bs₀) (valid-paired (read S bs₀) x.from.valid));
    still = λ v i t. add-still (read S bs₀) x.from.valid a b v i (subst (λ (s : State). T (pending s i v)) added-read t);
  }

  pub added-inside : (a < (read S bs).n) × (b < (read S bs).n)
  added-inside =
      let k : (read S bs).n ≡ (read S bs₀).n = ap (λ (s : State). s.n) added-read ∙ add-size a b (read S bs₀) in
      (omega (arith, x.ends.0), omega (arith, x.ends.1))

  -- taken out again, it leaves the rack as it was
  added-undone : {bs' : List ℕ} → bs' ≡ write (drop_edge a b (read S bs)) → bs' ≡ bs₀
  added-undone e =
      e ∙ ap (λ (s : State). write (drop_edge a b s)) added-read
      ∙ ap write (undone a b (read S bs₀) (λ h. subst T x.ends.3 h)) ∙ sym x.from.written

  added-there : edge (read S bs) a b ≡ true
  added-there =
      let j = add-joined a b (read S bs₀) x.ends.2 (x.ends.0, x.ends.1) (λ h. subst T x.ends.3 h) in
      ap (λ (s : State). edge s a b) added-read ∙ T_true j.there

  pub added-drops : {bs' : List ℕ} → bs' ≡ bs
      → Held S bs' × ((a < (read S bs').n) × (b < (read S bs').n) × (a ≢ b) × (edge (read S bs') a b ≡ true))
  added-drops e =
      subst (λ (l : List ℕ). Held S l × ((a < (read S l).n) × (b < (read S l).n) × (a ≢ b) × (edge (read S l) a b ≡ true))) (sym e)
      (added-begun.held, (added-inside.0, added-inside.1, x.ends.2, added-there))

  -- the settings stay, and so the search is that of the definition
  added-rules : rules_at bs ≡ rules_at bs₀
  added-rules = rules-as bs (add_edge a b (read S bs₀)) x.rack added-proper

  pos : (j : ℕ) → 1 ≤ (rules_at bs₀).thr j
  pos = thr-pos x.from.kind

  abbrev search : Rules → State → Found
  search R s = riser R a b (suc R.top) s

  searched : {y : Found} → search (rules_at bs) (read S bs) ≡ y → search (rules_at bs₀) (add_edge a b (read S bs₀)) ≡ y
  searched {y} f =
      subst (λ (s : State). search (rules_at bs₀) s ≡ y) added-read (subst (λ (R : Rules). search R (read S bs) ≡ y) added-rules f)

  -- no level is reached: finished
  pub added_none : (words : List ℕ) → riser (rules_at bs) a b (suc (top_at bs)) (read S bs) ≡ none → {t : Tally} → Fresh t
      → Tried (add (rules_at bs₀) words a b (read S bs₀)) words bs₀ bs t
  unfolding add start
  added_none words f z =
      rw (searched f, add)
      (record { draws = z.0; falls = z.1; made = λ h. x.rack; kept = λ h. absurd (omega (arith, z.0)) })

  -- the riser is promoted, and the settling follows
  module _ {i u : ℕ} (f : riser (rules_at bs) a b (suc (top_at bs)) (read S bs) ≡ found i u) where
    pub added-riser : Liftable (top_at bs) (read S bs) i u
    added-riser =
        let pos : (j : ℕ) → 1 ≤ (rules_at bs).thr j = proper-pos added-begun.held.proper in
        let r : Riser (top_at bs) a b i u (read S bs) = riser-of (rules_at bs) pos a b (suc (top_at bs)) (read S bs) i u (omega arith) f in
        record {
          inside = elim r.end [ inl z ↦ omega (arith, added-inside.0) | inr z ↦ omega (arith, added-inside.1) ];
          low = r.low;
          level = r.level;
          some = r.some;
        }

    added_is : (words : List ℕ) → add (rules_at bs₀) words a b (read S bs₀) ≡ rise_run (rules_at bs) words i u (read S bs)
    unfolding add
    added_is words =
        rw (searched f, add) (sym (λ k. settle (added-rules k) words (promote words i u (start (added-read k)))))

    -- words that are sure to suffice
    pub added-enough : (words : List ℕ) → Enough true (read S bs) i 1 words → (rise_run (rules_at bs) words i u (read S bs)).draws ≤ length words
    added-enough words q =
        let n : (read S bs).n ≡ (read S bs₀).n = ap (λ (s : State). s.n) added-read ∙ add-size a b (read S bs₀) in
        let few = add-quick (rules_at bs₀) pos (read S bs₀) x.from.valid words a b x.ends.0 x.ends.1 x.ends.2
        (λ h. subst T x.ends.3 h) (thr-one (kind_at S bs₀)) (searched f)
        (subst (λ (m : ℕ). Suffices m (edges (add_edge a b (read S bs₀))) i 1 words) n
        (subst (λ (s : State). Suffices (read S bs).n (edges s) i 1 words) added-read q)) in
        omega (arith, few, ap (λ (r : Run). r.draws) (added_is words))

    -- it is made, or the edge is taken out again
    module _ (words : List ℕ) {bs' : List ℕ} {t : Tally} (r : Tried (rise_run (rules_at bs) words i u (read S bs)) words bs bs' t) where
      pub added-made : t.draws ≤ length words → Tried (add (rules_at bs₀) words a b (read S bs₀)) words bs₀ bs' t
      added-made h = rw (added_is words) (record { draws = r.draws; falls = r.falls; made = r.made; kept = λ l. absurd (omega arith) })

      pub added-back : length words < t.draws → {back : List ℕ} → back ≡ write (drop_edge a b (read S bs'))
          → Tried (add (rules_at bs₀) words a b (read S bs₀)) words bs₀ back t
      added-back h e = rw (added_is words) (record {
        draws = r.draws;
        falls = r.falls;
        made = λ l. absurd (omega arith);
        kept = λ l. added-undone (e ∙ ap (λ (l : List ℕ). write (drop_edge a b (read S l))) (r.kept h));
      })

-- ---- drop: the bytes bs without the edge a-b, which was there in bs₀
pub record Dropped (S : Shape) (bs₀ : List ℕ) (a b : ℕ) (bs : List ℕ) : Type 0 where
  pub from : Sounded S bs₀
  pub ends : (a < (read S bs₀).n) × (b < (read S bs₀).n) × (a ≢ b) × (edge (read S bs₀) a b ≡ true)
  pub rack : bs ≡ write (drop_edge a b (read S bs₀))

module _ {S : Shape} {bs₀ : List ℕ} {a b : ℕ} {bs : List ℕ} (x : Dropped S bs₀ a b bs) where
  dropped-proper : Proper (kind_at S bs₀) (drop_edge a b (read S bs₀))
  dropped-proper = drop-proper a b (read S bs₀) (sounded-proper bs₀ x.from)

  dropped-read : read S bs ≡ drop_edge a b (read S bs₀)
  dropped-read = reads_as bs (drop_edge a b (read S bs₀)) x.rack dropped-proper

  pub dropped-begun : Begun S bs
  unfolding reown
  dropped-begun = record {
    held = held_of bs (drop_edge a b (read S bs₀)) x.rack dropped-proper;
    ordered = subst Ordered (sym dropped-read) (drop-ordered (read S bs₀) a b (valid-ordered (read S bs₀) x.from.valid));
    paired = subst (λ (s : State). Paired s.n (marks s)) (sym dropped-read) (valid-paired (read S bs₀) x.from.valid);
    still = λ v i t. still (drop_edge a b (read S bs₀)) x.from.valid.free-low v i
        (subst (λ (s : State). T (pending s i v)) dropped-read t);
  }

  pub dropped-inside : (a < (read S bs).n) × (b < (read S bs).n)
  unfolding reown
  dropped-inside =
      let k : (read S bs).n ≡ (read S bs₀).n = ap (λ (s : State). s.n) dropped-read in
      (omega (arith, x.ends.0), omega (arith, x.ends.1))

  -- the edge of a pair: parted, and the settling follows
  pub dropped-mates : (read S bs₀).mate a ≡ b → (read S bs).mate a ≡ b
  unfolding reown
  dropped-mates m = ap (λ (s : State). s.mate a) dropped-read ∙ m

  dropped-rules : rules_at bs ≡ rules_at bs₀
  dropped-rules = rules-as bs (drop_edge a b (read S bs₀)) x.rack dropped-proper

  pub dropped-pair : (words : List ℕ) {bs' : List ℕ} {t : Tally} → Ended (settle (rules_at bs) words (start_parted a b (read S bs))) bs' t
      → Ended (part_run (rules_at bs₀) words a b (read S bs₀)) bs' t
  dropped-pair words {bs'} {t} r =
      subst (λ (s : State). Ended (settle (rules_at bs₀) words (start_parted a b s)) bs' t) dropped-read
      (subst (λ (R : Rules). Ended (settle R words (start_parted a b (read S bs))) bs' t) dropped-rules r)

  -- a loose edge: no level changes
  pub dropped-loose : (words : List ℕ) → (read S bs₀).mate a ≢ b → {t : Tally} → Fresh t → Tried (drop (rules_at bs₀) words a b (read S bs₀)) words bs₀ bs t
  unfolding drop start
  dropped-loose words d z =
      rw (eqb_no ((read S bs₀).mate a) b d, drop)
      (record { draws = z.0; falls = z.1; made = λ h. x.rack; kept = λ h. absurd (omega (arith, z.0)) })

-- ---- a drop, before its edge is taken out: whether it joins mates
module _ {S : Shape} {bs : List ℕ} (ok : Sounded S bs) {a b : ℕ} (ends : (a < (read S bs).n) × (b < (read S bs).n) × (a ≢ b) × (edge (read S bs) a b ≡ true))
  where
    -- the entry of a's mate, once it is read
    module _ {k : ℕ} (m : k ≡ mate_at S bs a) where
      held : Held S bs
      held = sounded-held bs ok

      entry : k ≡ mate_entry (read S bs) a
      entry = m ∙ held-mate held a (held_small held a ends.0)

      joins : k ≡ b → Joins (read S bs) a b
      joins e = record {
        ends = ends;
        mates = entry-names (read S bs) a b ends.2 (omega (arith, held_small held b ends.1, ok.kind.shape.named)) (sym entry ∙ e);
      }

      loose : k ≢ b → (read S bs).mate a ≢ b
      loose d = entry-not (read S bs) a b ends.2 (λ e. d (entry ∙ e))

    -- the mate that is read is b, which is what it is held to, or it is not
    joining : (m : Option ℕ) → MateIs (mate_at S bs a) m → not (option_eq eqb m (Some b)) ≡ false → Joins (read S bs) a b
    joining None i e = (cc)
    joining (Some x) i e = elim (eq? x b) [ inl f ↦ joins i.0 f | inr d ↦ let f = ap not (eqb_no x b d) in cc ]

    parting : (m : Option ℕ) → MateIs (mate_at S bs a) m → not (option_eq eqb m (Some b)) ≡ true → (read S bs).mate a ≢ b
    parting None i e =
        let h = sounded-held bs ok in loose refl (λ z. omega (arith, held_small h b ends.1, ok.kind.shape.named))
    parting (Some x) i e = loose i.0 (λ z. let f = ap not (eqb_yes x b z) in cc)

    pub mate-joins : (m x : Option ℕ) → x ≡ Some b → MateIs (mate_at S bs a) m → not (option_eq eqb m x) ≡ false → Joins (read S bs) a b
    mate-joins m x f i e = joining m i (subst (λ (y : Option ℕ). not (option_eq eqb m y) ≡ false) f e)

    pub mate-loose : (m x : Option ℕ) → x ≡ Some b → MateIs (mate_at S bs a) m → not (option_eq eqb m x) ≡ true → (read S bs).mate a ≢ b
    mate-loose m x f i e = parting m i (subst (λ (y : Option ℕ). not (option_eq eqb m y) ≡ true) f e)

    -- its level, once its rank is read
    pub pair-rank : {k : ℕ} → k ≡ rank_at bs a → Joins (read S bs) a b → ((read S bs).rank a ≡ k) × (1 ≤ k)
    pair-rank e j =
        let r : rank_at bs a ≡ (read S bs).rank a = let h = sounded-held bs ok in held-rank h a (held_small h a ends.0) in (
          sym (e ∙ r),
          elim (le? 1 ((read S bs).rank a)) [
            | inl l ↦ omega (arith, e ∙ r)
            | inr l ↦ absurd (ends.2 (sym (ok.valid.low_free a (omega arith)) ∙ j.mates))
          ],
        )

    module _ (words : List ℕ) (j : Joins (read S bs) a b) where
      pair_is : drop (rules_at bs) words a b (read S bs) ≡ part_run (rules_at bs) words a b (read S bs)
      unfolding drop
      pair_is = rw (eqb_yes ((read S bs).mate a) b j.mates, drop) refl

      -- words that are sure to suffice
      pub pair-enough : {i : ℕ} → (read S bs).rank a ≡ suc i → Enough true (read S bs) i 2 words
          → (part_run (rules_at bs) words a b (read S bs)).draws ≤ length words
      pair-enough l q =
          let few = drop-quick (rules_at bs) (thr-pos ok.kind) (read S bs) ok.valid words a b ends.0 ends.1 ends.2 (thr-one (kind_at S bs)) j.mates l q in
          omega (arith, few, ap (λ (r : Run). r.draws) pair_is)

      pub pair-tried : {bs' : List ℕ} {t : Tally} → Tried (part_run (rules_at bs) words a b (read S bs)) words bs bs' t
          → Tried (drop (rules_at bs) words a b (read S bs)) words bs bs' t
      pair-tried r = rw pair_is r
