-- A change as a whole: which of its ends is which, and what it answers. Assumes nothing.
use mathlib.Core.Path.{◌≡◌, refl, sym, ap, ap₂, ◌∙◌, subst}
use mathlib.Core.Logic.{◌≢◌, inl, inr}
use mathlib.Core.Bool.{Bool, true, false}
use mathlib.Core.List.{List}
use Prim.Native.Nat.{ℕ, zero, suc, ◌≤◌, ◌<◌}
use native.Mathlib.Omega.{arith}
use lib.Dec.{ltb}
use lib.ListN.{length}
use Rattle.model.specs.Shape.{Shape}
use Rattle.model.specs.State.{GoodKind, Rules, rules, Kind, State, edge, pairs}
use Rattle.model.specs.Bytes.{rules_at, kind_at, read, write}
use Rattle.model.specs.Valid.{Valid}
use Rattle.model.specs.Change.{Change, Changed, lower, upper, add, drop, early, number, refused, done, accepted, runs_out, change}
use Rattle.model.proofs.Tests.{eq?, le?, bool-ext, T_true, T_false, eqb_yes, eqb_no, leb_yes, leb_no}
use Rattle.model.proofs.Reading.{read-kind, read-write}
use Rattle.theory.proofs.Numbers.{Fitting, early-zero, number-early, number-told}
use Rattle.theory.proofs.ChangeStep.{Step}
use Rattle.theory.proofs.OnBytes.{Rack, step, next-rack}
use Rattle.moves.proofs.Edges.{edge-turn}
use Rattle.settling.specs.declared.tally.Tally.{Tally}
use Rattle.std.specs.Prelude.{Ok}
use Rattle.calls.specs.declared.Figures.{Figures}
use Rattle.calls.specs.Terms.{told}
use Rattle.changes.specs.Sounded.{Sounded, Acceptable, accepted_run}
use Rattle.changes.specs.Working.{Tried}

-- the two numbers in order are the same two
pub ordered-ends : (P : ℕ → ℕ → Type 0) (a b : ℕ) → P a b → P b a → P (lower a b) (upper a b)
unfolding lower upper
ordered-ends P a b up down = elim (le? a b) [
  | inl l ↦ rw (leb_yes a b l, lower, upper) up
  | inr l ↦ rw (leb_no a b l, lower, upper) down
]

-- the other way round it is the same change
turned : {s : State} {code a b : ℕ} → Acceptable s code a b → Acceptable s code b a
turned {s} {code} {a} {b} q =
    let e : edge s b a ≡ edge s a b = bool-ext (edge s b a) (edge s a b) (edge-turn s b a) (edge-turn s a b) in
    record {
      inside = (q.inside.1, q.inside.0);
      apart = λ z. q.apart (sym z);
      adds = λ f. e ∙ q.adds f;
      drops = λ f. e ∙ q.drops f;
    }

-- an accepted change with its ends in order
module _ (s : State) (c : Change) {low high : ℕ} (l : low ≡ lower c.a c.b) (h : high ≡ upper c.a c.b) where
  pub in_order : Acceptable s c.code c.a c.b → Acceptable s c.code low high
  in_order q = rw (l, h) (ordered-ends (Acceptable s c.code) c.a c.b q (turned q))

  -- its moves, by its code
  pub adds_run : (R : Rules) {bs bs' : List ℕ} {t : Tally} → c.code ≡ 1 → Tried (add R c.words low high s) c.words bs bs' t
      → Tried (accepted_run R s c) c.words bs bs' t
  unfolding accepted_run
  adds_run R e x = rw (eqb_yes c.code 1 e, accepted_run, sym l, sym h) x

  pub drops-run : (R : Rules) {bs bs' : List ℕ} {t : Tally} → c.code ≢ 1 → Tried (drop R c.words low high s) c.words bs bs' t
      → Tried (accepted_run R s c) c.words bs bs' t
  unfolding accepted_run
  drops-run R e x = rw (eqb_no c.code 1 e, accepted_run, sym l, sym h) x

module _ (s : State) (c : Change) where
  -- what the accepted change answers
  accepted-done : (R : Rules) → accepted R s c ≡ done (accepted_run R s c)
  unfolding accepted accepted_run
  accepted-done R = elim (eq? c.code 1) [
    | inl e ↦ rw (eqb_yes c.code 1 e, accepted, accepted_run) refl
    | inr e ↦ rw (eqb_no c.code 1 e, accepted, accepted_run) refl
  ]

  -- none of 7 to 11 fits
  pub acceptable : early s.n (edge s) c ≡ 0 → Acceptable s c.code c.a c.b
  acceptable z =
      let f : Fitting s.n (edge s) c = early-zero s.n (edge s) c z in
      record {
        inside = (f.a_in, f.b-in);
        apart = f.apart;
        adds = λ e. T_false {b = edge s c.a c.b} (f.absent e);
        drops = λ e. T_true {b = edge s c.a c.b} (f.present (elim f.codes [ inl k ↦ absurd (e k) | inr k ↦ k ]));
      }

-- bytes that write a valid state read as it, and are sound
module _ {S : Shape} (bs : List ℕ) (s : State) (of : s.kind.shape ≡ S) (e : bs ≡ write s) (ok : Rack s) where
  pub rack-reads : read S bs ≡ s
  rack-reads = ap₂ read (sym of) e ∙ read-write (rules s.kind) s ok.kind.shape ok.valid

  rack-kind : kind_at S bs ≡ s.kind
  rack-kind = sym (read-kind S bs) ∙ ap (λ (t : State). t.kind) rack-reads

  pub sounded-of : Sounded S bs
  sounded-of = record {
    kind = subst GoodKind (sym rack-kind) ok.kind;
    written = e ∙ ap write (sym rack-reads);
    valid = subst (λ (K : Kind). Valid (rules K) (read S bs)) (sym rack-kind) (subst (Valid (rules s.kind)) (sym rack-reads) ok.valid);
  }

-- the state that sound bytes read as
pub sounded-rack : {S : Shape} {bs : List ℕ} → Sounded S bs → Rack (read S bs)
unfolding read
sounded-rack ok = record { kind = ok.kind; valid = ok.valid }

-- what the change answers, and what it leaves
module _ {S : Shape} {bs : List ℕ} (ok : Sounded S bs) (c : Change) where
  whole : Step (rules_at bs) (read S bs) c (change (rules_at bs) (read S bs) c)
  unfolding read
  whole = step (read S bs) (sounded-rack ok) c

  -- its number
  abbrev pub the_number : ℕ
  the_number = number (read S bs).n (edge (read S bs)) (runs_out (rules_at bs) (read S bs) c) c

  -- refused by k: that number and zeros, and the rack as it was
  module _ {k : ℕ} (some : k ≢ 0) (is : the_number ≡ k) where
    kept : ((change (rules_at bs) (read S bs) c).state ≡ read S bs) × ((change (rules_at bs) (read S bs) c).answer ≡ refused k)
    kept =
        let n : (change (rules_at bs) (read S bs) c).answer.number ≡ k = whole.number ∙ is in
        let r = whole.refused-keeps (λ z. some (sym n ∙ z)) in
        (r.0, r.1 ∙ ap refused n)

    pub refused-answer : refused k ≡ (change (rules_at bs) (read S bs) c).answer
    refused-answer = sym kept.1

    pub refused-leaves : bs ≡ write (change (rules_at bs) (read S bs) c).state
    refused-leaves = ok.written ∙ ap write (sym kept.0)

  -- .. by one of 7 to 11, which come first
  pub fits-early : (k : ℕ) → early (read S bs).n (edge (read S bs)) c ≡ k → k ≢ 0 → the_number ≡ k
  fits-early zero e d = absurd (d refl)
  fits-early (suc k) e d = number-early (read S bs).n (edge (read S bs)) (runs_out (rules_at bs) (read S bs) c) c k e

  -- none of 7 to 11 fits, and the words suffice or not, by the tally that the moves come to
  module _ (z : early (read S bs).n (edge (read S bs)) c ≡ 0) {bs' : List ℕ} {t : Tally} (x : Tried (accepted_run (rules_at bs) (read S bs) c) c.words bs bs' t) where
    out-is : runs_out (rules_at bs) (read S bs) c ≡ ltb (length c.words) t.draws
    unfolding runs_out done
    out-is = ap (ltb (length c.words)) (ap (λ (d : Changed). d.answer.draws) (accepted-done (read S bs) c (rules_at bs)) ∙ sym x.draws)

    told_is : (out : Bool) → ltb (length c.words) t.draws ≡ out → the_number ≡ elim out [ true ↦ 12 | false ↦ 0 ]
    told_is out e =
        number-told (read S bs).n (edge (read S bs)) (runs_out (rules_at bs) (read S bs) c) c z
        ∙ ap (λ (y : Bool). elim y as (λ o. ℕ) [ true ↦ 12 | false ↦ 0 ]) (out-is ∙ e)

    -- it runs out of words
    pub fits_out : length c.words < t.draws → the_number ≡ 12
    fits_out h = told_is true (leb_yes (suc (length c.words)) t.draws h)

    -- it does not: what is answered and left is the run's
    module _ (enough : t.draws ≤ length c.words) where
      run_is : change (rules_at bs) (read S bs) c ≡ done (accepted_run (rules_at bs) (read S bs) c)
      run_is =
          let n = told_is false (leb_no (suc (length c.words)) t.draws (omega arith)) in
          whole.accepted-is (whole.number ∙ n) ∙ accepted-done (read S bs) c (rules_at bs)

      -- the state that the run leaves
      run-rack : Rack (accepted_run (rules_at bs) (read S bs) c).state
      unfolding done read
      run-rack = subst (λ (d : Changed). Rack d.state) run_is (next-rack (read S bs) (sounded-rack ok) c)

      run-shape : (accepted_run (rules_at bs) (read S bs) c).state.kind.shape ≡ S
      unfolding done read
      run-shape = ap (λ (d : Changed). d.state.kind.shape) (sym run_is) ∙ ap (λ (K : Kind). K.shape) whole.kind

      pub accepted-sounded : Sounded S bs'
      accepted-sounded = sounded-of bs' _ run-shape (x.made enough) run-rack

      pub accepted-answer : (f : Figures) → f.draws ≡ t.draws → f.falls ≡ t.falls → f.pairs ≡ pairs (read S bs')
          → told (Ok f) ≡ (change (rules_at bs) (read S bs) c).answer
      unfolding done
      accepted-answer f d l p =
          let k = p ∙ ap pairs (rack-reads bs' _ run-shape (x.made enough) run-rack) in
          (λ i. record { number = 0; draws = (d ∙ x.draws) i; falls = (l ∙ x.falls) i; pairs = k i })
          ∙ ap (λ (y : Changed). y.answer) (sym run_is)

      pub accepted-leaves : bs' ≡ write (change (rules_at bs) (read S bs) c).state
      unfolding done
      accepted-leaves = x.made enough ∙ ap (λ (d : Changed). write d.state) (sym run_is)
