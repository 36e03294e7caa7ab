-- A test of the places of a word, as one of the places of the row that it holds, and words of a row as the row. Assumes nothing.
use mathlib.Core.Path.{◌≡◌, sym, subst}
use mathlib.Core.Bool.{Bool, true, false}
use Prim.Native.Nat.{ℕ, ◌+◌, ◌*◌, ◌/◌, ◌%◌, ◌<◌}
use native.Mathlib.Omega.{arith}
use lib.Dec.{T}
use Rattle.model.specs.Parts.{bit_of}
use Rattle.model.proofs.Facts.{Says}
use Rattle.bitset.specs.Words.{Rest}
use Rattle.layout.proofs.Said.{says-yes, says-no}
use Rattle.audit.specs.Bits.{AllPass}

-- The word has the places of o, and the test's answer says Q of each: its answer for the word says Q of all.
pub word-says : {o : ℕ → Bool} {x : ℕ} {r : Bool} {A : ℕ → Bool → Type 0} {Q : ℕ → Type 0} → Rest o 0 x → AllPass (bit_of x) A r
    → ((j : ℕ) (b : Bool) → A j b → Says b (Q j)) → Says r ((j : ℕ) → j < 64 → T (o j) → Q j)
word-says {r = true} rest all test =
    says-yes (λ j h t. (test j true (all.pass tt j h (subst T (sym (rest.same j (omega arith) h)) t))).fact tt)
word-says {r = false} rest all test =
    let a = all.fail tt in
    says-no (λ g. (test a.0 false a.3).test (g a.0 a.1 (subst T (rest.same a.0 (omega arith) a.1) a.2)))

-- what holds of the places of the words below n holds below 64 n
pub in-words : (Q : ℕ → Type 0) (n : ℕ) → ((k : ℕ) → k < n → (j : ℕ) → j < 64 → Q (64 * k + j)) → (w : ℕ) → w < 64 * n → Q w
in-words Q n g w h =
    let e : 64 * (w / 64) + w % 64 ≡ w = omega arith in
    subst Q e (g (w / 64) (omega arith) (w % 64) (omega arith))
