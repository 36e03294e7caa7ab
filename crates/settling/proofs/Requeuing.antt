-- The queue after one joined or left it, in the words of the contracts. Assumes nothing.
use mathlib.Core.Path.{◌≡◌, sym, ap, ◌∙◌}
use mathlib.Core.Logic.{◌≢◌}
use mathlib.Core.List.{List, [], ◌∷◌, ◌++◌}
use Prim.Native.Nat.{ℕ, zero, suc, ◌≤◌}
use native.Mathlib.Omega.{arith}
use Rattle.model.specs.Lists.{Mem}
use Rattle.model.specs.Moves.{without}
use Rattle.theory.specs.Waiting.{Marks, join_queue, part_queue}
use Rattle.model.proofs.Lists.{without-absent}
use Rattle.theory.proofs.Arrivals.{joins-none, joins-some, queue-free, queue-mated}

-- one of rank 0 stays out, and one of a higher rank joins
pub join-low : (v i : ℕ) (l : List ℕ) → i ≡ 0 → l ≡ join_queue v i l
join-low v i l e = sym (ap (λ (x : ℕ). join_queue v x l) e ∙ joins-none v l)

pub join-high : (v r : ℕ) (l : List ℕ) → 1 ≤ r → l ++ (v ∷ []) ≡ join_queue v r l
join-high v zero l b = absurd (omega arith)
join-high v (suc r) l b = sym (joins-some v r l)

-- The parting of v.
module _ (s : Marks) (v : ℕ) (l : List ℕ) where
  pub part-mated : (m : ℕ) → s.mate v ≢ v → m ≡ s.mate v → 1 ≤ s.rank (s.mate v) → l ++ (m ∷ []) ≡ part_queue s v l
  part-mated m d e b =
      ap (λ (x : ℕ). l ++ (x ∷ [])) e ∙ join-high (s.mate v) (s.rank (s.mate v)) l b ∙ sym (queue-mated s v l d)

  pub part_free : s.mate v ≡ v → without v l ≡ part_queue s v l
  part_free e = sym (queue-free s v l e)

  pub part_low : s.mate v ≡ v → (Mem v l → ⊥) → l ≡ part_queue s v l
  part_low e out = sym (queue-free s v l e ∙ without-absent v l out)
