-- Bytes of a state with other owners, and the writing of the state that has them; the owners along a walk. Assumes nothing.
use mathlib.Core.Path.{◌≡◌, refl, sym}
use mathlib.Core.Bool.{Bool}
use Prim.Native.Nat.{ℕ, ◌≤◌}
use native.Mathlib.Omega.{arith}
use lib.Dec.{T}
use Rattle.model.specs.Shape.{GoodShape}
use Rattle.model.specs.State.{State, edge, phi, edges}
use Rattle.model.specs.Bytes.{Fields, image, mate_entry, fields_of, write}
use Rattle.model.specs.Moves.{owned_by}
use Rattle.model.specs.Change.{reown}
use Rattle.theory.proofs.Ownership.{out, back, rest, turned}
use Rattle.theory.proofs.HandLoops.{up_to, up_to-is}
use Rattle.layout.proofs.Images.{image-ext}
use Rattle.moves.proofs.Recount.{same-phi, same_edges}

-- what the bytes of s hold, with other owners
unfoldable pub owners_of : State → (ℕ → ℕ → Bool) → Fields
owners_of s o = record { kind = s.kind; n = s.n; edges = edges s; rank = s.rank; mate = mate_entry s; phi = phi s; owns = o }

-- with its own owners it is the writing of s
pub owners-same : (s : State) → write s ≡ image (owners_of s s.owns)
unfolding write fields_of owners_of
owners-same s = refl

-- and with others that leave the edges as they are, the writing of the state with those owners
pub owners-write : (s : State) → GoodShape s.kind.shape → (o : ℕ → ℕ → Bool) → ((v w : ℕ) → edge (reown s o) v w ≡ edge s v w)
    → image (owners_of s o) ≡ write (reown s o)
unfolding write fields_of owners_of reown mate_entry
owners-write s good o f = image-ext (owners_of s o) (fields_of (reown s o)) good (record {
  kind = refl;
  n = refl;
  edges = same_edges s (reown s o) refl (λ v w. sym (f v w));
  rank = λ v l. refl;
  mate = λ v l. refl;
  phi = λ v j l k. same-phi s (reown s o) refl (λ x y. sym (f x y)) (λ x. refl) v j;
  owns = λ v w l k. refl;
})

-- ---- owners along a walk: what is below k is done

-- from k on, u's row is as it was
pub row_from : (u : ℕ) (p : ℕ → Bool) (d : Bool) (owns : ℕ → ℕ → Bool) → (T (p u) → ⊥) → (k x : ℕ) → k ≤ x
    → owned_by u (up_to p k) d owns u x ≡ owns u x
row_from u p d owns pu k x l = elim (turned u (up_to p k) d owns u x) [
  | out e t q ↦ absurd (omega (arith, (up_to-is p k x t).1))
  | back e t q ↦ absurd (pu (up_to-is p k u t).0)
  | rest f g q ↦ q
]
