-- The numbers of a change, case by case. Assumes nothing.
use mathlib.Core.Path.{◌≡◌, refl, sym, ap, ap₂, ◌∙◌, subst}
use mathlib.Core.Logic.{◌≢◌, inl, inr}
use mathlib.Core.Bool.{Bool, true, false, not, ◌||◌, ◌&&◌}
use mathlib.Core.List.{List}
use Prim.Native.Nat.{ℕ, zero, suc, ◌≤◌, ◌<◌}
use native.Mathlib.Omega.{arith}
use lib.Dec.{eqb, ltb}
use Rattle.model.specs.Shape.{Shape}
use Rattle.model.specs.State.{edge}
use Rattle.model.specs.Bytes.{owns_at, read}
use Rattle.model.specs.Change.{Change, lower, upper, early}
use Rattle.model.proofs.Tests.{eq?, le?, eqb_yes, eqb_no, leb_yes, leb_no}
use Rattle.moves.specs.Proper.{Held}
use Rattle.moves.proofs.Held.{held_small, held-owns}
use Rattle.std.specs.Prelude.{min, max}
use Rattle.std.proofs.Math.Nat.{min-eq_left, min-eq_right, max-eq_left, max-eq_right}
use Rattle.calls.specs.Terms.{code_of, number_of}
use Rattle.calls.specs.declared.Kind.{Kind}
use Rattle.calls.specs.declared.Kind.TheVariants.{Add, Drop}
use Rattle.calls.specs.declared.Refusal.{Refusal}
use Rattle.calls.specs.declared.Refusal.TheVariants.{RackLength, TextLength, SpaceLength, Line, Boards, Unsound, Code}
use Rattle.calls.specs.declared.Refusal.TheVariants.{NoBoard, SameBoard, Linked, NotLinked, Words, Setting}
use Rattle.changes.specs.Sounded.{ends_number, link_number}

-- the numbers of the boards
module _ (n a b : ℕ) where
  pub ends-a : n ≤ a → ends_number n a b ≡ 8
  unfolding ends_number
  ends-a l = rw (leb_no (suc a) n (omega arith), ends_number) refl

  pub ends-b : a < n → n ≤ b → ends_number n a b ≡ 8
  unfolding ends_number
  ends-b k l = rw (leb_yes (suc a) n k, leb_no (suc b) n (omega arith), ends_number) refl

  pub ends_same : a < n → b < n → a ≡ b → ends_number n a b ≡ 9
  unfolding ends_number
  ends_same k l e = rw (leb_yes (suc a) n k, leb_yes (suc b) n l, eqb_yes a b e, ends_number) refl

  pub ends-good : a < n → b < n → a ≢ b → ends_number n a b ≡ 0
  unfolding ends_number
  ends-good k l d = rw (leb_yes (suc a) n k, leb_yes (suc b) n l, eqb_no a b d, ends_number) refl

  -- none fits: two different vertices
  pub ends-are : ends_number n a b ≡ 0 → (a < n) × (b < n) × (a ≢ b)
  ends-are z = elim (le? n a) [
    | inl l ↦ absurd (omega (arith, ends-a l))
    | inr l ↦ elim (le? n b) [
      | inl k ↦ absurd (omega (arith, ends-b l k))
      | inr k ↦ elim (eq? a b) [ inl e ↦ absurd (omega (arith, ends_same l k e)) | inr d ↦ (l, k, d) ]
    ]
  ]

-- the number of the boards that are named, if it is not 0, and otherwise that of their edge
then_link : Kind → Bool → ℕ → ℕ
then_link kind linked zero = link_number kind linked
then_link kind linked (suc k) = suc k

by_kind : (kind : Kind) (inside same linked : Bool)
    → ◌≡◌ {A = ℕ}
    (elim (eqb (code_of kind) 1 || eqb (code_of kind) 2) [
      | false ↦ 7
      | true ↦ elim inside [
        | false ↦ 8
        | true ↦ elim same [
          | true ↦ 9
          | false ↦ elim (eqb (code_of kind) 1 && linked) [
            | true ↦ 10
            | false ↦ elim (eqb (code_of kind) 2 && not linked) [ true ↦ 11 | false ↦ 0 ]
          ]
        ]
      ]
    ])
    (then_link kind linked (elim inside as (λ x. ℕ) [ false ↦ 8 | true ↦ elim same [ true ↦ 9 | false ↦ 0 ] ]))
unfolding then_link
by_kind Add false same linked = refl
by_kind Add true true linked = refl
by_kind Add true false true = refl
by_kind Add true false false = refl
by_kind Drop false same linked = refl
by_kind Drop true true linked = refl
by_kind Drop true false true = refl
by_kind Drop true false false = refl

-- The first of 7 to 11 that fits a change, from part to part.
module _ (n : ℕ) (there : ℕ → ℕ → Bool) (c : Change) where
  pub early-code : ((kind : Kind) → c.code ≡ code_of kind → ⊥) → early n there c ≡ 7
  unfolding early
  early-code d = rw (eqb_no c.code 1 (d Add), eqb_no c.code 2 (d Drop), early) refl

  module _ (kind : Kind) (is : c.code ≡ code_of kind) where
    -- the boards that are named, and then their edge
    named : early n there c ≡ then_link kind (there c.a c.b) (ends_number n c.a c.b)
    unfolding early ends_number
    named =
        subst (λ (x : ℕ). early n there (record c { code = x }) ≡ then_link kind (there c.a c.b) (ends_number n c.a c.b)) (sym is)
        (by_kind kind (ltb c.a n && ltb c.b n) (eqb c.a c.b) (there c.a c.b))

    pub early-ends : (k : ℕ) → k ≡ ends_number n c.a c.b → k ≢ 0 → early n there c ≡ k
    unfolding then_link
    early-ends zero e d = absurd (d refl)
    early-ends (suc k) e d = named ∙ ap (then_link kind (there c.a c.b)) (sym e)

    pub early-link : 0 ≡ ends_number n c.a c.b → early n there c ≡ link_number kind (there c.a c.b)
    unfolding then_link
    early-link e = named ∙ ap (then_link kind (there c.a c.b)) (sym e)

-- each refusal has a number
pub some-number : (why : Refusal) → number_of why ≢ 0
some-number RackLength z = omega arith
some-number TextLength z = omega arith
some-number SpaceLength z = omega arith
some-number (Line k) z = omega arith
some-number Boards z = omega arith
some-number Unsound z = omega arith
some-number Code z = omega arith
some-number NoBoard z = omega arith
some-number SameBoard z = omega arith
some-number Linked z = omega arith
some-number NotLinked z = omega arith
some-number Words z = omega arith
some-number Setting z = omega arith

-- the library's lower and higher number are the definition's
pub min-lower : (a b : ℕ) → min a b ≡ lower a b
unfolding lower
min-lower a b = elim (le? a b) [
  | inl l ↦ rw (leb_yes a b l, lower) (min-eq_left l)
  | inr l ↦ rw (leb_no a b l, lower) (min-eq_right (omega arith))
]

pub max-upper : (a b : ℕ) → max a b ≡ upper a b
unfolding upper
max-upper a b = elim (le? a b) [
  | inl l ↦ rw (leb_yes a b l, upper) (max-eq_right l)
  | inr l ↦ rw (leb_no a b l, upper) (max-eq_left (omega arith))
]

-- whether the edge is there, as the bytes have it
pub edge-held : {S : Shape} {bs : List ℕ} → Held S bs → (a b : ℕ) → (a < (read S bs).n) × (b < (read S bs).n) × (a ≢ b)
    → owns_at S bs a b || owns_at S bs b a ≡ edge (read S bs) a b
unfolding edge
edge-held {S} h a b e =
    let la : a < S.most = held_small h a e.0 in
    let lb : b < S.most = held_small h b e.1 in
    ap₂ ◌||◌ (held-owns h a b la lb) (held-owns h b a lb la)
