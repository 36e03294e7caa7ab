-- A number that is set leaves what stands behind it as it is. Assumes nothing.
use mathlib.Core.Path.{◌≡◌, refl, ap₂, ◌∙◌}
use mathlib.Core.List.{List}
use Prim.Native.Nat.{ℕ, zero, suc, ◌+◌, ◌*◌, ◌/◌, ◌%◌, ◌≤◌, ◌<◌}
use native.Mathlib.Nat.{mul-suc, mul-le-mul_left}
use native.Mathlib.Omega.{arith}
use lib.ListN.{get_or, set}
use lib.Seq.{get_or-set_other}
use Rattle.model.specs.Shape.{Shape, phis_from}
use Rattle.model.specs.Parts.{num_at}
use Rattle.model.specs.Bytes.{phi_at}
use Rattle.layout.specs.Setters.{set_num, set_phi}

-- a number set leaves those that stand behind it
set_before : (w : ℕ) (bs : List ℕ) (k x m : ℕ) → k + w ≤ m → get_or (set_num w bs k x) m 0 ≡ get_or bs m 0
unfolding set_num
set_before zero bs k x m h = refl
set_before (suc zero) bs k x m h = get_or-set_other bs k m x 0 (omega arith)
set_before (suc (suc w)) bs k x m h =
    set_before (suc w) (set bs k (x % 256)) (k + 1) (x / 256) m (omega arith) ∙ get_or-set_other bs k m (x % 256) 0 (omega arith)

number_behind : (v w : ℕ) (bs : List ℕ) (k x m : ℕ) → k + w ≤ m → num_at v (set_num w bs k x) m ≡ num_at v bs m
unfolding num_at
number_behind zero w bs k x m h = refl
number_behind (suc zero) w bs k x m h = set_before w bs k x m h
number_behind (suc (suc v)) w bs k x m h =
    ap₂ (λ (a b : ℕ). a + 256 * b) (set_before w bs k x m h) (number_behind (suc v) w bs k x (m + 1) (omega arith))

-- a count set leaves those of its vertex above
pub count-above : (S : Shape) (bs : List ℕ) (w j y x : ℕ) → j < x → phi_at S (set_phi S bs w j y) w x ≡ phi_at S bs w x
unfolding phi_at set_phi
count-above S bs w j y x l =
    let i : ℕ = S.levels * w + j in
    let before : suc i ≤ S.levels * w + x = omega arith in
    number_behind S.width S.width bs (phis_from S + S.width * i) y (phis_from S + S.width * (S.levels * w + x))
    (omega (arith, mul-suc S.width i, mul-le-mul_left S.width before))
