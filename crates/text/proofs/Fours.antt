-- Four bytes of a fixed text that are compared as one number. Assumes nothing.
use Rattle.std.proofs.Common.{◌≡◌, ℕ, ◌+◌, ◌<◌, ◌≤◌, List, ◌++◌, length, get_or, take, drop, sym, ap, ◌∙◌, inl, inr, arith, length-take, length-drop, get_or-drop}
use Rattle.std.specs.Int.{w32, from_le_bytes, to_le_bytes}
use Rattle.std.proofs.lemmas.List.{get_or-take, get_or_past}
use Rattle.std.proofs.lemmas.Nat.{le_bytes_4}
use Rattle.model.proofs.Tests.{le?}
use Rattle.text.specs.Literal.{Starts, FourAt}
use Rattle.text.proofs.Standing.{literal-more, literal-part}

-- the numbers of s are bytes
abbrev pub AreBytes : List ℕ → Type 0
AreBytes s = (i : ℕ) → get_or s i 0 < 256

bytes_part : (s : List ℕ) (k j : ℕ) → AreBytes s → get_or (take 4 (drop k s)) j 0 < 256
bytes_part s k j h = elim (le? 4 j) [
  | inl p ↦ omega (arith, get_or_past (take 4 (drop k s)) j 0 (omega (arith, length-take 4 (drop k s))))
  | inr p ↦ omega (arith, get_or-take 4 (drop k s) j 0 (omega arith), get_or-drop k s j 0, h (k + j))
]

-- four bytes are told by their number
four_bytes : (s : List ℕ) (k x : ℕ) → AreBytes s → k + 4 ≤ length s → FourAt s k x → to_le_bytes w32 x ≡ take 4 (drop k s)
four_bytes s k x h room f = le_bytes_4 (take 4 (drop k s)) x (omega (arith, length-take 4 (drop k s), length-drop k s)) (λ j. bytes_part s k j h) f

-- equal numbers are of equal bytes
pub four-turn : (s : List ℕ) (at : ℕ) (p : List ℕ) (k x y : ℕ) → AreBytes s → AreBytes p → Starts s at p k → k + 4 ≤ length p
    → at + length p ≤ length s → FourAt s (at + k) x → FourAt p k y → x ≡ y → Starts s at p (k + 4)
four-turn s at p k x y small few e h l f g q =
    literal-more s at p k 4 e (sym (four_bytes s (at + k) x small (omega (arith, h, l)) f) ∙ ap (to_le_bytes w32) q ∙ four_bytes p k y few h g)

-- p does not stand where four of its bytes differ
pub four-differs : (s : List ℕ) (at : ℕ) (p : List ℕ) (k x y : ℕ) (rest : List ℕ)
    → FourAt s (at + k) x → FourAt p k y → (x ≡ y → ⊥) → k + 4 ≤ length p → drop at s ≡ p ++ rest → ⊥
four-differs s at p k x y rest f g d h e = d (f ∙ ap (from_le_bytes w32) (literal-part s at p k 4 rest h e) ∙ sym g)
