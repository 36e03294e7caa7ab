-- A table with one entry changed, place by place. Assumes nothing.
use mathlib.Core.Path.{◌≡◌, refl, sym, ap, ◌∙◌}
use mathlib.Core.Logic.{◌≢◌, inl, inr}
use Prim.Native.Nat.{ℕ}
use Rattle.model.specs.Counting.{upd}
use Rattle.model.proofs.Tests.{eq?}
use Rattle.model.proofs.Lists.{upd_same, upd_other}

module _ {A : Type 0} (f : ℕ → ℕ → A) (v w : ℕ) (y : A) where
  -- the table with y at v and w
  abbrev pub entered : ℕ → ℕ → A
  entered = upd f v (upd (f v) w y)

  pub entry-same : entered v w ≡ y
  entry-same = ap (λ (r : ℕ → A). r w) (upd_same f v (upd (f v) w y) v refl) ∙ upd_same (f v) w y w refl

  pub entry_other : (p q : ℕ) → (p ≡ v → q ≢ w) → entered p q ≡ f p q
  entry_other p q d =
      let row : ℕ → A = upd (f v) w y in
      elim (eq? p v) [
        | inl e ↦ ap (λ (r : ℕ → A). r q) (upd_same f v row p e) ∙ upd_other (f v) w y q (d e) ∙ ap (λ (x : ℕ). f x q) (sym e)
        | inr e ↦ ap (λ (r : ℕ → A). r q) (upd_other f v row p e)
      ]

  -- a table that has y there and is f elsewhere
  pub entry-is : (g : ℕ → ℕ → A) (p q : ℕ) → g v w ≡ y → ((p ≡ v → q ≢ w) → g p q ≡ f p q) → g p q ≡ entered p q
  entry-is g p q on off =
      let other : (p ≡ v → q ≢ w) → g p q ≡ entered p q = λ d. off d ∙ sym (entry_other p q d) in
      elim (eq? p v) [
        | inl a ↦ elim (eq? q w) [ inl b ↦ cc entry-same | inr b ↦ other (λ _. b) ]
        | inr a ↦ other (λ e. absurd (a e))
      ]
