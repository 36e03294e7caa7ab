-- A list without one of its members: the place found for it is closed up. Assumes nothing.
use Rattle.std.proofs.Common.{◌≡◌, refl, sym, ap, ap₂, ◌∙◌, ℕ, zero, suc, ◌+◌, ◌-◌, ◌<◌, ◌≤◌, Bool, false, None, Some, arith}
use Rattle.std.proofs.Common.{List, [], ◌∷◌, ◌++◌, length, get_or, take, drop, length-drop, length-take-le}
use native.Mathlib.Numerals.{add-one}
use mathlib.Core.Logic.{◌≢◌}
use Rattle.std.specs.List.{position, position_or_len, copy_within, remove}
use Rattle.std.proofs.lemmas.List.{take-take, drop-take}
use Rattle.std.proofs.lemmas.List.Edits.{take-paste}
use Rattle.std.proofs.lemmas.List.Sums.{fails_before_first}
use Rattle.std.proofs.lemmas.Grind.{common_steps}
use lib.Dec.{eqb, eqb→eq}
use Rattle.std.proofs.lemmas.List.Quantifiers.{position-Some}
use Rattle.model.specs.Lists.{Distinct}
use Rattle.model.proofs.Tests.{true-T}
use Rattle.model.specs.Moves.{without}
use Rattle.model.proofs.Lists.{All-at, get_d-mem, without-yes, without-no, without-absent}

-- those behind a place among the first n move up
pub closed_up : (l : List ℕ) (n at : ℕ) → at < n → n ≤ length l → take (n - 1) (copy_within l (at + 1) n at) ≡ remove (take n l) at
closed_up l n at b h =
    let behind : ℕ = n - suc at in
    let whole : suc at + behind ≡ n = omega arith in
    let fewer : n - 1 ≡ at + behind = omega arith in
    rw add-one (ap (λ (m : ℕ). take m (copy_within l (suc at) n at)) fewer
    ∙ take-paste l at (drop (suc at) l) behind (omega arith) (omega (arith, length-drop (suc at) l))
    ∙ ap₂ ◌++◌ (sym (take-take at n l (omega arith))) (sym (drop-take (suc at) behind l) ∙ ap (λ (m : ℕ). drop (suc at) (take m l)) whole))

-- the place of one that stands once
pub removed-without : (l : List ℕ) (at : ℕ) → Distinct l → at < length l → remove l at ≡ without (get_or l at 0) l
removed-without [] at d h = absurd (omega arith)
removed-without (x ∷ l) zero d h =
    sym (without-yes x x l refl ∙ without-absent x l (λ m. All-at (λ y. x ≢ y) l d.0 x m refl))
removed-without (x ∷ l) (suc at) d h =
    ap (λ (m : List ℕ). x ∷ m) (removed-without l at d.1 (omega arith))
    ∙ sym (without-no (get_or l at 0) x l (All-at (λ y. x ≢ y) l d.0 (get_or l at 0) (get_d-mem l at (omega arith))))

-- who is found in the queue q leaves it, and those behind move up
pub found-without : (v at n : ℕ) (l : List ℕ) {q : List ℕ} → take n l ≡ q → n ≤ length l → Distinct q → position (λ w. eqb w v) q ≡ Some at
    → take (n - 1) (copy_within l (at + 1) n at) ≡ without v q
found-without v at n l {q} is h d e =
    let found = position-Some (λ w. eqb w v) q at 0 e in
    let there : get_or q at 0 ≡ v = eqb→eq _ _ (true-T found.1) in
    closed_up l n at (omega (arith, found.0, ap length is, length-take-le n l h)) h ∙ ap (λ (m : List ℕ). remove m at) is ∙ removed-without q at d found.0
    ∙ ap (λ (w : ℕ). without w q) there

-- one that stands nowhere
without-nowhere : (v : ℕ) (l : List ℕ) → ((k : ℕ) → k < length l → eqb (get_or l k 0) v ≡ false) → without v l ≡ l
unfolding without
without-nowhere v [] h = refl
without-nowhere v (w ∷ l) h = rw (h 0 (omega arith), without) (ap (λ (m : List ℕ). w ∷ m) (without-nowhere v l (λ k b. h (suc k) (omega arith))))

position-none : (p : ℕ → Bool) (l : List ℕ) → position p l ≡ None → length l ≤ position_or_len p l
position-none p l e = grind (arith, common_steps)

pub none-without : (v : ℕ) (l : List ℕ) → position (λ w. eqb w v) l ≡ None → l ≡ without v l
none-without v l e = sym (without-nowhere v l (λ k b. fails_before_first (λ w. eqb w v) l k 0 (omega (arith, position-none (λ w. eqb w v) l e))))
