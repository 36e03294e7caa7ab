-- Texts that are read piece by piece. A piece is a relation `P t x u`: the text t starts with x's text, and u is what follows.
--     Between p q      a number between two fixed texts.        Printed print Good     a good value's text.        Then P Q     one piece after another
--     No P t           t starts with no such piece.        Sole P     t starts with at most one: its value and what follows are given
--     not-.., after    which piece, or part of one, doesn't stand there, after those that do
--     Form             the pieces that a printed value is made of.        absent, found, form-sole     no such value, one, and at most one
--     first_absent, second_absent    no such value, since the first of two pieces doesn't stand there, or the second after it
-- Assumes nothing.
use Prim.Native.Nat.{ℕ, ◌≤◌}
use mathlib.Core.Path.{◌≡◌, sym, ap, ◌∙◌, subst}
use mathlib.Core.List.{List, ◌++◌, append_cancel_left}
use lib.ListN.{length, drop}
use Rattle.text.specs.Number.{NumberThen}
use Rattle.text.specs.Reading.{Found}
use Rattle.text.proofs.Decimals.{same_number, same_rest}

abbrev Piece : Type 0 → Type 1
Piece A = List ℕ → A → List ℕ → Type 0

pub record Between (p q t : List ℕ) (n : ℕ) (u : List ℕ) : Type 0 where
  pub rest : List ℕ
  pub before : t ≡ p ++ rest
  pub number : NumberThen rest n (q ++ u)

pub record Printed {A : Type 0} (print : A → List ℕ) (Good : A → Type 0) (t : List ℕ) (x : A) (u : List ℕ) : Type 0 where
  pub good : Good x
  pub stands : t ≡ print x ++ u

pub record Then {A B : Type 0} (P : Piece A) (Q : Piece B) (t : List ℕ) (x : A × B) (v : List ℕ) : Type 0 where
  pub rest : List ℕ
  pub first : P t x.0 rest
  pub second : Q rest x.1 v

abbrev No : {A : Type 0} → Piece A → List ℕ → Type 0
No {A} P t = (x : A) (u : List ℕ) → P t x u → ⊥

pub record Sole {A : Type 0} (P : Piece A) : Type 0 where
  pub same : {t : List ℕ} {x y : A} {u v : List ℕ} → P t x u → P t y v → (x ≡ y) × (u ≡ v)

-- A number between fixed texts.

module _ {p q t : List ℕ} where
  pub between : {r v u : List ℕ} {n : ℕ} → t ≡ p ++ r → NumberThen r n v → v ≡ q ++ u → Between p q t n u
  between e h f = record { rest = _; before = e; number = subst (NumberThen _ _) f h }

  -- its number, where any reading of p ended
  number_at : {r u : List ℕ} {n : ℕ} → t ≡ p ++ r → Between p q t n u → NumberThen r n (q ++ u)
  number_at {r} e k = subst (λ (w : List ℕ). NumberThen w _ _) (append_cancel_left p k.rest r (sym k.before ∙ e)) k.number

  pub not-before : ((r : List ℕ) → t ≡ p ++ r → ⊥) → No (Between p q) t
  not-before h n u k = h k.rest k.before

  pub not-number : {r : List ℕ} → t ≡ p ++ r → ((n : ℕ) (v : List ℕ) → NumberThen r n v → ⊥) → No (Between p q) t
  not-number e h n u k = h n (q ++ u) (number_at e k)

  pub not_behind : {r v : List ℕ} {n : ℕ} → t ≡ p ++ r → NumberThen r n v → ((u : List ℕ) → v ≡ q ++ u → ⊥) → No (Between p q) t
  not_behind e h f m u k = f u (same_rest h (number_at e k))

pub between-sole : {p q : List ℕ} → Sole (Between p q)
between-sole {p} {q} = record {
  same = λ {t} {x} {y} {u} {v} h k.
      let l = number_at h.before k in (same_number h.number l, append_cancel_left q u v (same_rest h.number l));
}

-- A value that was found, or not found.

module _ {A : Type 0} {print : A → List ℕ} {Good : A → Type 0} where
  pub printed : {s : List ℕ} {at next : ℕ} {x : A} → Found print Good s at x next → Printed print Good (drop at s) x (drop next s)
  printed f = record { good = f.good; stands = f.stands }

  pub not-printed : {t : List ℕ} → ((x : A) (u : List ℕ) → Good x → t ≡ print x ++ u → ⊥) → No (Printed print Good) t
  not-printed h x u k = h x u k.good k.stands

-- One piece after another.

module _ {A B : Type 0} {P : Piece A} {Q : Piece B} where
  -- the second one, where any reading of the first one ended
  second_at : {t u v : List ℕ} {x : A} {z : A × B} → Sole P → P t x u → Then P Q t z v → Q u z.1 v
  second_at {v = v} {z = z} s p k = subst (λ (u : List ℕ). Q u z.1 v) (s.same k.first p).1 k.second

  pub not_first : {t : List ℕ} → No P t → No (Then P Q) t
  not_first h x u k = h x.0 k.rest k.first

  pub after : {t u : List ℕ} {x : A} → Sole P → P t x u → No Q u → No (Then P Q) t
  after s p h z v k = h z.1 v (second_at s p k)

  pub then-sole : Sole P → Sole Q → Sole (Then P Q)
  then-sole s r = record {
    same = λ h k.
        let q = r.same h.second (second_at s h.first k) in
        ((λ i. ((s.same h.first k.first).0 i, q.0 i)), q.1);
  }

-- A value that is printed as pieces, which have these values.

pub record Form {A B : Type 0} (print : A → List ℕ) (Good : A → Type 0) (P : Piece B) (values : A → B) : Type 0 where
  pub split : (x : A) {t u : List ℕ} → Good x → t ≡ print x ++ u → P t (values x) u
  pub joined : (x : A) {t u : List ℕ} → P t (values x) u → Good x × (t ≡ print x ++ u)

module _ {A B : Type 0} {print : A → List ℕ} {Good : A → Type 0} {P : Piece B} {values : A → B} (f : Form print Good P values) where
  pub absent : {t : List ℕ} → No P t → (x : A) (u : List ℕ) → Good x → t ≡ print x ++ u → ⊥
  absent h x u g e = h (values x) u (f.split x g e)

  pub found : {s : List ℕ} {at next : ℕ} {x : A} → next ≤ length s → P (drop at s) (values x) (drop next s) → Found print Good s at x next
  found {x = x} within k = record { within = within; good = (f.joined x k).0; stands = (f.joined x k).1 }

  pub form-sole : (value : B → A) → ((x : A) → value (values x) ≡ x) → Sole P → Sole (Printed print Good)
  form-sole value back s = record {
    same = λ {t} {x} {y} h k.
        let r = s.same (f.split x h.good h.stands) (f.split y k.good k.stands) in
        (sym (back x) ∙ ap value r.0 ∙ back y, r.1);
  }

-- A value of two pieces is absent where the first of them doesn't stand, or the second after it.

module _ {A B C : Type 0} {print : A → List ℕ} {Good : A → Type 0} {P : Piece B} {Q : Piece C} {values : A → B × C}
    (f : Form print Good (Then P Q) values) where
  pub first_absent : {t : List ℕ} → No P t → (x : A) (u : List ℕ) → Good x → t ≡ print x ++ u → ⊥
  first_absent h = absent f (not_first h)

  pub second_absent : {t u : List ℕ} {y : B} → Sole P → P t y u → No Q u → (x : A) (v : List ℕ) → Good x → t ≡ print x ++ v → ⊥
  second_absent s p h = absent f (after s p h)
