-- The tables of the settings: the power rule of the thresholds and the rule of the levels, each one test over the whole table, which antt computes.
-- Assumes nothing.
use mathlib.Core.Path.{◌≡◌, ap, ◌∙◌}
use mathlib.Core.Bool.{Bool, ◌&&◌}
use mathlib.Core.List.{List, [], ◌∷◌}
use Prim.Native.Nat.{ℕ, ◌+◌, ◌-◌, ◌^◌, ◌≤◌, ◌<◌}
use native.Mathlib.Omega.{arith}
use lib.Dec.{T, leb, eqb, eqb→eq}
use lib.ListN.{length, get_or}
use Rattle.model.specs.Counting.{bit, every}
use Rattle.model.specs.State.{least_growth, most_growth}
use Rattle.model.proofs.Tests.{and_left, and_right}
use Rattle.model.proofs.Counting.{every-all}

-- a table of rows of four numbers has m rows, and its entry for k and j is f k j
abbrev Holds : List (List ℕ) → ℕ → (ℕ → ℕ → ℕ) → Bool
Holds table m f = every (λ k. eqb (length (get_or table k [])) 4 && every (λ j. eqb (get_or (get_or table k []) j 0) (f k j)) 4) m

module _ (table : List (List ℕ)) (m : ℕ) (f : ℕ → ℕ → ℕ) (h : T (Holds table m f)) (k : ℕ) (l : k < m) where
  row : T (eqb (length (get_or table k [])) 4 && every (λ j. eqb (get_or (get_or table k []) j 0) (f k j)) 4)
  row = every-all (λ k. eqb (length (get_or table k [])) 4 && every (λ j. eqb (get_or (get_or table k []) j 0) (f k j)) 4) m h k l

  long : length (get_or table k []) ≡ 4
  long = eqb→eq (length (get_or table k [])) 4 (and_left (eqb (length (get_or table k [])) 4) _ row)

  entry : (j : ℕ) → j < 4 → get_or (get_or table k []) j 0 ≡ f k j
  entry j i =
      eqb→eq (get_or (get_or table k []) j 0) (f k j)
      (every-all (λ j. eqb (get_or (get_or table k []) j 0) (f k j)) 4 (and_right (eqb (length (get_or table k [])) 4) _ row) j i)

abbrev pub thresholds : List (List ℕ)
thresholds =
    (1 ∷ 2 ∷ 4 ∷ 8 ∷ []) ∷ (1 ∷ 3 ∷ 9 ∷ 27 ∷ []) ∷ (1 ∷ 4 ∷ 16 ∷ 64 ∷ []) ∷ (1 ∷ 5 ∷ 25 ∷ 125 ∷ []) ∷ (1 ∷ 6 ∷ 36 ∷ 216 ∷ [])
    ∷ (1 ∷ 7 ∷ 49 ∷ 343 ∷ []) ∷ (1 ∷ 8 ∷ 64 ∷ 512 ∷ []) ∷ []

-- row k is that of growth k + 2, and its entry j that to the power j
powers : T (Holds thresholds 7 (λ k j. (k + least_growth) ^ j))
unfolding every
powers = tt

module _ (g : ℕ) (least : least_growth ≤ g) (most : g ≤ most_growth) where
  pub thresholds-long : length (get_or thresholds (g - least_growth) []) ≡ 4
  thresholds-long = long thresholds 7 (λ k j. (k + least_growth) ^ j) powers (g - least_growth) (omega arith)

  pub power : (j : ℕ) → j < 4 → get_or (get_or thresholds (g - least_growth) []) j 0 ≡ g ^ j
  power j l =
      let e : g - least_growth + least_growth ≡ g = omega arith in
      entry thresholds 7 (λ k j. (k + least_growth) ^ j) powers (g - least_growth) (omega arith) j l ∙ ap (λ (x : ℕ). x ^ j) e

abbrev pub standing : List (List ℕ)
standing = (1 ∷ 0 ∷ 0 ∷ 0 ∷ []) ∷ (1 ∷ 1 ∷ 0 ∷ 0 ∷ []) ∷ (1 ∷ 1 ∷ 1 ∷ 0 ∷ []) ∷ (1 ∷ 1 ∷ 1 ∷ 1 ∷ []) ∷ []

-- row t is that of the top level t, and its entry j tells whether level j is one of its levels
levels : T (Holds standing 4 (λ t j. bit (leb j t)))
unfolding every
levels = tt

module _ (t : ℕ) (low : t < 4) where
  pub standing-long : length (get_or standing t []) ≡ 4
  standing-long = long standing 4 (λ t j. bit (leb j t)) levels t low

  pub stands : (j : ℕ) → j < 4 → get_or (get_or standing t []) j 0 ≡ bit (leb j t)
  stands = entry standing 4 (λ t j. bit (leb j t)) levels t low
