-- From states to bytes: a call on the bytes of a valid state leaves the bytes of the state that the change leaves, refused or not; and
-- what a valid state's bytes say of its mates. Assumes nothing.
use mathlib.Core.Path.{◌≡◌, refl, sym, ap, ◌∙◌, subst}
use mathlib.Core.Logic.{◌≢◌, inl, inr}
use mathlib.Core.Bool.{◌&&◌}
use Prim.Native.Nat.{ℕ, ◌≤◌, ◌<◌}
use native.Mathlib.Omega.{arith}
use lib.Dec.{T, eqb, ltb, ltb→lt}
use lib.ListN.{length}
use Rattle.model.specs.State.{Kind, Rules, rules, GoodKind, State, edge, pairs}
use Rattle.model.specs.Shape.{Shape, GoodShape, rack_length}
use Rattle.model.specs.Bytes.{no_mate, mate_at, write}
use Rattle.model.specs.Sound.{sound}
use Rattle.model.specs.Valid.{Valid}
use Rattle.model.specs.Change.{Change, Changed, change}
use Rattle.model.specs.Calls.{sized, rack_number, written, change_bytes}
use Rattle.model.proofs.Tests.{eq?, bool?, T_true, T_false, true-T, eqb_yes, eqb_no}
use Rattle.model.proofs.Shapes.{thr-one, thr-pos}
use Rattle.model.proofs.Counting.{sum-eq}
use Rattle.model.proofs.Prefix.{count-ext}
use Rattle.model.proofs.Fields.{write-length, rules-write, mate-write}
use Rattle.model.proofs.Limits.{size_few, mate_entry-free, mate_entry-mate}
use Rattle.model.proofs.Reading.{read-write}
use Rattle.model.proofs.Bridge.{write-sound}
use Rattle.theory.specs.Demand.{pairs_of}
use Rattle.theory.proofs.ChangeStep.{Step, change-step, ledger}
use Rattle.theory.proofs.Matching.{pairs-are-edges}

-- a rack of a good kind, valid by its own rules
pub record Rack (s : State) : Type 0 where
  pub kind : GoodKind s.kind
  pub valid : Valid (rules s.kind) s

-- a state of that kind
pub rack-of : {K : Kind} → GoodKind K → (s : State) → K ≡ s.kind → Valid (rules K) s → Rack s
rack-of good s e ok = record { kind = subst GoodKind e good; valid = subst (λ (K : Kind). Valid (rules K) s) e ok }

module _ (s : State) (ok : Rack s) where
  abbrev of : Shape
  of = s.kind.shape

  abbrev R : Rules
  R = rules s.kind

  abbrev good : GoodShape of
  good = ok.kind.shape

  pub step : (c : Change) → Step R s c (change R s c)
  step c = change-step R (thr-one s.kind) (thr-pos ok.kind) s ok.valid c

  -- the state after a change is one again
  pub next-rack : (c : Change) → Rack (change R s c).state
  next-rack c = rack-of ok.kind (change R s c).state (sym (step c).kind) (step c).valid

  -- the bytes of a valid state are as many as a rack has, and sound
  pub write-sized : T (sized of (write s))
  unfolding sized
  write-sized = true-T (eqb_yes (length (write s)) (rack_length of) (write-length s good))

  pub write-good : T (sound of (write s))
  write-good = write-sound s ok.kind ok.valid

  pub write-number : rack_number of (write s) ≡ 0
  unfolding rack_number
  write-number = rw (T_true {b = sized of (write s)} write-sized, T_true {b = sound of (write s)} write-good, rack_number) refl

  -- a call on the bytes of a valid state
  pub call-leaves : (c : Change)
      → change_bytes of (write s) c
      ≡ (let d = change R s c in record { answer = d.answer; rack = write d.state; news = d.news })
  unfolding change_bytes written
  call-leaves c =
      let d : Changed = change R s c in
      rw (write-number, rules-write s good, read-write R s good ok.valid, change_bytes) (elim (eq? d.answer.number 0) [
        | inl e ↦ rw (eqb_yes d.answer.number 0 e, written) refl
        | inr e ↦ rw (eqb_no d.answer.number 0 e, written)
            (ap (λ (x : State). record { answer = d.answer; rack = write x; news = d.news }) (sym ((step c).refused-keeps e).0))
      ])

  -- the entries for mates of a valid state name each other exactly where its mates do
  entry-names : (v w : ℕ) → v < s.n → w < s.n → v ≢ w → eqb (mate_at of (write s) v) w ≡ eqb (s.mate v) w
  entry-names v w a b d =
      let few : s.n ≤ of.most = size_few ok.valid in
      elim (eq? (s.mate v) v) [
        | inl e ↦
            ap (λ (x : ℕ). eqb x w) (mate-write s good v (omega arith) ∙ mate_entry-free s v e)
            ∙ eqb_no no_mate w (omega (arith, good.named)) ∙ sym (eqb_no (s.mate v) w (λ f. d (sym e ∙ f)))
        | inr e ↦ ap (λ (x : ℕ). eqb x w) (mate-write s good v (omega arith) ∙ mate_entry-mate s v e)
      ]

  same-named : (v w : ℕ) → v < s.n → w < s.n
      → (ltb v w && (edge s v w && (eqb (s.mate v) w && eqb (s.mate w) v)))
      ≡ (ltb v w && (edge s v w && (eqb (mate_at of (write s) v) w && eqb (mate_at of (write s) w) v)))
  same-named v w a b = elim (bool? (ltb v w)) [
    | inl t ↦
        let l : v < w = ltb→lt v w t in
        rw (entry-names v w a b (omega arith), entry-names w v b a (omega arith)) refl
    | inr t ↦ rw (T_false {b = ltb v w} (lib.Dec.T_not (ltb v w) t)) refl
  ]

  -- the pairs of a valid state are the edges whose ends' entries name each other
  pub pairs_of_lem : pairs s ≡ pairs_of of (ledger s) (write s)
  unfolding pairs_of
  pairs_of_lem =
      pairs-are-edges R s ok.valid
      ∙ sum-eq _ _ s.n (λ v a. count-ext _ _ s.n (λ w b. same-named v w a b))
