-- Words beyond those that a change uses are ignored, and those that it uses suffice. So what is read past the last word has no say: a change that
-- comes to it uses more words than are lent, whatever stands there, and is not made. Assumes nothing.
use mathlib.Core.Path.{◌≡◌, refl, sym, ap, subst, ◌∙◌}
use mathlib.Core.Logic.{◌≢◌, ◌⊎◌, inl, inr}
use mathlib.Core.Bool.{Bool, true, false}
use mathlib.Core.List.{List, [], ◌++◌}
use Prim.Native.Nat.{ℕ, zero, suc, ◌≤◌, ◌<◌}
use native.Mathlib.Omega.{arith}
use lib.Dec.{T, le→leb, ltb→lt}
use lib.ListN.{length, take, drop, length-append, take-append-drop}
use lib.Seq.{length-take-le}
use Rattle.model.specs.State.{Rules, State, edge}
use Rattle.model.specs.Moves.{Run}
use Rattle.model.specs.Change.{Change, Changed, lower, upper, early, done, accepted, runs_out, refused, change}
use Rattle.model.proofs.Tests.{eq?, true-T, eqb_yes, eqb_no, leb_no}
use Rattle.theory.proofs.Numbers.{number-early, number-told}
use Rattle.theory.proofs.ChangeStep.{enough}
use Rattle.theory.proofs.Beyond.{Agree, add-agree, drop-agree}

-- the change with the words e put after its own
abbrev pub lent : Change → List ℕ → Change
lent c e = record { code = c.code; a = c.a; b = c.b; words = c.words ++ e }

-- what comes of the change, with its words and with more: the same, or both use more than its words
pub Both : (R : Rules) (s : State) (c : Change) (e : List ℕ) → Type 0
Both R s c e =
    ((accepted R s (lent c e) ≡ accepted R s c) × ((accepted R s c).answer.draws ≤ length c.words))
    ⊎ ((length c.words < (accepted R s c).answer.draws) × (length c.words < (accepted R s (lent c e)).answer.draws))

both : (words e : List ℕ) (r r' : Run) → Agree words e r r'
    → ((done r' ≡ done r) × ((done r).answer.draws ≤ length words)) ⊎ ((length words < (done r).answer.draws) × (length words < (done r').answer.draws))
unfolding Agree done
both words e r r' (inl a) = inl (ap done a.0, a.1)
both words e r r' (inr a) = inr a

pub beyond : (R : Rules) (s : State) (c : Change) (e : List ℕ) → Both R s c e
unfolding Both accepted
beyond R s c e = elim (eq? c.code 1) [
  | inl p ↦ rw (eqb_yes c.code 1 p, accepted) (both c.words e _ _ (add-agree c.words e R (lower c.a c.b) (upper c.a c.b) s))
  | inr p ↦ rw (eqb_no c.code 1 p, accepted) (both c.words e _ _ (drop-agree c.words e R (lower c.a c.b) (upper c.a c.b) s))
]

-- With more words, a change that does not run out is the same.
pub enough-alike : (R : Rules) (s : State) (c : Change) (e : List ℕ) → runs_out R s c ≡ false → accepted R s (lent c e) ≡ accepted R s c
unfolding runs_out Both
enough-alike R s c e h = elim (beyond R s c e) [
  | inl a ↦ a.0
  | inr a ↦ absurd (subst T h (le→leb (suc (length c.words)) (accepted R s c).answer.draws a.0))
]

-- .. and does not run out
enough-still : (R : Rules) (s : State) (c : Change) (e : List ℕ) → runs_out R s c ≡ false → runs_out R s (lent c e) ≡ false
unfolding runs_out
enough-still R s c e h =
    let same = ap (λ (x : Changed). x.answer.draws) (enough-alike R s c e h) in
    let l = length-append c.words e in
    leb_no (suc (length (c.words ++ e))) (accepted R s (lent c e)).answer.draws (omega (arith, same, enough R s c h, l))

-- A change that runs out uses more words than it was lent, whatever is lent beyond them.
pub out-still : (R : Rules) (s : State) (c : Change) (e : List ℕ) → runs_out R s c ≡ true
    → length c.words < (accepted R s (lent c e)).answer.draws
unfolding runs_out Both
out-still R s c e h = elim (beyond R s c e) [
  | inl a ↦ absurd (let k : length c.words < (accepted R s c).answer.draws = ltb→lt _ _ (true-T h) in omega (arith, a.1))
  | inr a ↦ a.1
]

-- A change, by what fits it.
module _ (R : Rules) (s : State) (c : Change) where
  refused-by : (k : ℕ) → early s.n (edge s) c ≡ suc k → change R s c ≡ record { answer = refused (suc k); state = s; news = [] }
  unfolding change
  refused-by k z = rw (number-early s.n (edge s) (runs_out R s c) c k z, change) refl

  is_made : early s.n (edge s) c ≡ 0 → runs_out R s c ≡ false → change R s c ≡ accepted R s c
  unfolding change
  is_made z h = rw (number-told s.n (edge s) (runs_out R s c) c z, h, change) refl

  is-out : early s.n (edge s) c ≡ 0 → runs_out R s c ≡ true → (change R s c).answer.number ≡ 12
  unfolding change refused
  is-out z h = rw (number-told s.n (edge s) (runs_out R s c) c z, h, change) refl

-- "Words beyond them are ignored.", of whole changes: whatever words e are lent besides, a change that did not run out answers the same and leaves
-- the same rack.
pub beyond-ignored : (R : Rules) (s : State) (c : Change) (e : List ℕ) → (change R s c).answer.number ≢ 12 → change R s (lent c e) ≡ change R s c
unfolding early
beyond-ignored R s c e d = go (early s.n (edge s) c) refl (runs_out R s c) refl
  where
    go : (x : ℕ) → early s.n (edge s) c ≡ x → (out : Bool) → runs_out R s c ≡ out → change R s (lent c e) ≡ change R s c
    go (suc k) z out h = refused-by R s (lent c e) k z ∙ sym (refused-by R s c k z)
    go zero z true h = absurd (d (is-out R s c z h))
    go zero z false h = is_made R s (lent c e) z (enough-still R s c e h) ∙ enough-alike R s c e h ∙ sym (is_made R s c z h)

-- the change with the first k of its words alone
abbrev pub first : Change → ℕ → Change
first c k = record { code = c.code; a = c.a; b = c.b; words = take k c.words }

-- "Draws equals the words used.": with as many of its words as its draws figure says, and no more, a change that did not run out is the same.
pub used-suffice : (R : Rules) (s : State) (c : Change) → runs_out R s c ≡ false
    → accepted R s (first c (accepted R s c).answer.draws) ≡ accepted R s c
unfolding Both
used-suffice R s c h =
    let k : ℕ = (accepted R s c).answer.draws in
    let whole : lent (first c k) (drop k c.words) ≡ c =
    λ i. record { code = c.code; a = c.a; b = c.b; words = take-append-drop k c.words i } in
    let same : accepted R s (lent (first c k) (drop k c.words)) ≡ accepted R s c = ap (accepted R s) whole in
    elim (beyond R s (first c k) (drop k c.words)) [
      | inl a ↦ sym a.0 ∙ same
      | inr a ↦ absurd (omega (arith, a.1, ap (λ (x : Changed). x.answer.draws) same, length-take-le k c.words (enough R s c h)))
    ]
