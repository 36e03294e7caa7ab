-- Demand 3: one theorem over every list of changes, refused ones among them, the empty list too, from any sound rack. The statement is
-- `Demand` (specs/Demand.antt). Assumes nothing.
use mathlib.Core.Path.{◌≡◌, sym, ap, ◌∙◌, subst}
use mathlib.Core.List.{List, [], ◌∷◌}
use Prim.Native.Nat.{ℕ, suc, ◌*◌}
use native.Mathlib.Omega.{arith}
use lib.Dec.{T, eqb→eq}
use lib.ListN.{length}
use Rattle.model.specs.State.{Kind, Rules, rules, State}
use Rattle.model.specs.Shape.{Shape, GoodShape, low, rack_length}
use Rattle.model.specs.Bytes.{growth_at, top_at, rules_at, read, write}
use Rattle.model.specs.Sound.{sound}
use Rattle.model.specs.Valid.{IsBytes}
use Rattle.model.specs.Change.{Change, Changed, change, accepted, refused}
use Rattle.model.specs.Calls.{sized, ChangedBytes, change_bytes}
use Rattle.model.specs.Ledger.{Ledger, tell, ledger_of, ledger_number, entered, entered_all}
use Rattle.model.proofs.Shapes.{low-good}
use Rattle.model.proofs.Fields.{growth-write, top-write, rules-write}
use Rattle.model.proofs.Reading.{read-write}
use Rattle.model.proofs.Bridge.{sound-valid}
use Rattle.theory.specs.Demand.{last_rack, told_of, told_all, pairs_of, Call, Calls, Facts, Demand}
use Rattle.theory.proofs.ChangeStep.{Step, ledger}
use Rattle.theory.proofs.OnBytes.{Rack, step, next-rack, call-leaves, pairs_of_lem}
use Rattle.theory.proofs.LastRack.{last-facts}

-- what the call leaves, as a record
leaves : State → Change → ChangedBytes
leaves s c = let d = change (rules s.kind) s c in record { answer = d.answer; rack = write d.state; news = d.news }

module _ (s : State) (ok : Rack s) (c : Change) where
  abbrev of : Shape
  of = s.kind.shape

  abbrev R : Rules
  R = rules s.kind

  abbrev good : GoodShape of
  good = ok.kind.shape

  t : Step R s c (change R s c)
  t = step s ok c

  -- what the ledger is told, from the bytes
  pub told_is : tell R s c ≡ told_of of (write s) c
  told_is = sym (λ i. tell (rules-write s good i) (read-write R s good ok.valid i) c)

  -- the ledger after the change is that of the rack after it
  pub next-ledger : entered (ledger s) (told_of of (write s) c) ≡ ledger (change R s c).state
  next-ledger = ap (entered (ledger s)) (sym told_is) ∙ (λ i. record { n = (t.ledger-size ∙ sym t.size) i; there = sym t.edges i })

  -- what is said of the rack after it, by its own shape and ledger, holds by the shape before it and the ledger as kept
  pub kept_on : (P : Shape → Ledger → Type 0) → P (change R s c).state.kind.shape (ledger (change R s c).state)
      → P of (entered (ledger s) (told_of of (write s) c))
  kept_on P h = subst (P of) (sym next-ledger) (subst (λ (K : Kind). P K.shape (ledger (change R s c).state)) t.kind h)

  -- its number is the ledger's
  number_is : (change R s c).answer.number ≡ ledger_number (ledger s) (told_of of (write s) c)
  unfolding ledger_number
  number_is = t.number ∙ ap (ledger_number (ledger s)) told_is

  -- the moves from the bytes are those from the state
  moves-are : (ledger_number (ledger s) (told_of of (write s) c) ≡ 0) → change R s c ≡ accepted (rules_at (write s)) (read of (write s)) c
  moves-are e = t.accepted-is (number_is ∙ e) ∙ sym (λ i. accepted (rules-write s good i) (read-write R s good ok.valid i) c)

  -- the settings stay
  same-settings : (growth_at (write (change R s c).state) ≡ growth_at (write s)) × (top_at (write (change R s c).state) ≡ top_at (write s))
  same-settings =
      let after : GoodShape (change R s c).state.kind.shape = (next-rack s ok c).kind.shape in (
        growth-write (change R s c).state after ∙ ap (λ (K : Kind). K.growth) t.kind ∙ sym (growth-write s good),
        top-write (change R s c).state after ∙ ap (λ (K : Kind). K.top) t.kind ∙ sym (top-write s good),
      )

  one-call : Call of (ledger s) (write s) c (leaves s c)
  unfolding leaves
  one-call = record {
    number = number_is;
    refused-keeps = λ d.
        let k = t.refused-keeps (λ e. d (sym number_is ∙ e)) in
        (k.1 ∙ ap refused number_is, ap write k.0);
    settings = same-settings;
    accepted-moves = λ e. ap (λ (x : Changed). write x.state) (moves-are e);
    accepted-draws = λ e. ap (λ (x : Changed). x.answer.draws) (moves-are e);
    accepted-pairs = λ e.
        let d : Changed = change R s c in
        kept_on (λ S l. d.answer.pairs ≡ pairs_of S l (write d.state)) (t.pairs-held (number_is ∙ e) ∙ pairs_of_lem d.state (next-rack s ok c));
    once = t.once;
    news-half = t.news-half;
    news-drawn = t.news-drawn;
    draws-lent = t.draws-lent;
    falls-few = omega (arith, t.falls-few, ap (λ (x : ℕ). s.n * suc x) (top-write s good));
  }

-- from the bytes of a valid state, with its own ledger
pub from-valid : (s : State) → Rack s → (cs : List Change) → Demand s.kind.shape (ledger s) (write s) cs
unfolding Calls entered_all told_all last_rack leaves
from-valid s ok [] = record { calls = tt; last = last-facts s ok }
from-valid s ok (c ∷ cs) =
    let S : Shape = s.kind.shape in
    let d : Changed = change (rules s.kind) s c in
    let l : Ledger = entered (ledger s) (told_of S (write s) c) in
    let rest : Demand S l (write d.state) cs =
    kept_on s ok c (λ S l. Demand S l (write d.state) cs) (from-valid d.state (next-rack s ok c) cs) in
    let now : Call S (ledger s) (write s) c (change_bytes S (write s) c) =
    subst (Call S (ledger s) (write s) c) (sym (call-leaves s ok c)) (one-call s ok c) in
    let e : write d.state ≡ (change_bytes S (write s) c).rack = ap (λ (x : ChangedBytes). x.rack) (sym (call-leaves s ok c)) in
    record {
      calls = (now, subst (λ (x : List ℕ). Calls S l x cs) e rest.calls);
      last = subst (λ (x : List ℕ). Facts S (entered_all l (told_all S x cs)) (last_rack S x cs)) e rest.last;
    }

-- From any sound rack, fresh or not, of any good shape and any settings: bs is any list of as many bytes that is sound, and cs any list of changes,
-- each with any code, any two boards and any word list. The ledger starts from bs and sees the changes alone, and is told of each whether the change
-- as defined runs out of words. W-207: "Every fact about the pairing is to be shown for all settings in a single argument": they are those of bs.
pub demand-three : (S : Shape) → GoodShape S → (bs : List ℕ) → IsBytes bs → T (sized S bs) → T (sound S bs) → (cs : List Change)
    → Demand S (ledger_of S bs) bs cs
unfolding sized ledger_of read
demand-three S good bs by sz so cs =
    let v = sound-valid S good bs by (eqb→eq (length bs) (rack_length S) sz) so in
    subst (λ (x : List ℕ). Demand S (ledger (read S bs)) x cs) (sym v.0) (from-valid (read S bs) (record { kind = v.1.0; valid = v.1.1 }) cs)

-- The rack of document 01.
pub demand-low : (bs : List ℕ) → IsBytes bs → T (sized low bs) → T (sound low bs) → (cs : List Change) → Demand low (ledger_of low bs) bs cs
demand-low = demand-three low low-good
