-- A vertex's turn in the scan on bytes: the tests of the code are the definition's, and what is left either way. Assumes nothing.
use mathlib.Core.Path.{◌≡◌, refl}
use mathlib.Core.List.{List}
use Prim.Native.Nat.{ℕ, ◌≤◌, ◌<◌, ◌^◌}
use native.Mathlib.Omega.{arith}
use lib.Dec.{T, leb, leb→le, le→leb}
use Rattle.model.specs.Shape.{Shape}
use Rattle.model.specs.State.{phi}
use Rattle.model.specs.Bytes.{rules_at, growth_at, top_at, rank_at, phi_at, read}
use Rattle.model.specs.Moves.{due, promote}
use Rattle.model.proofs.Tests.{and_intro, and_left, and_right}
use Rattle.moves.specs.Proper.{Held}
use Rattle.moves.proofs.Held.{held-rank, held-phi, held_small}
use Rattle.settling.specs.Settling.{running, HoldsWaiting, Left, visited}
use Rattle.settling.specs.declared.progress.Progress.{Progress}
use Rattle.settling.proofs.News.{visited-yes, visited-no}

-- the bytes hold a state, of which w is a vertex
pub record Visiting (S : Shape) (bs : List ℕ) (i w : ℕ) : Type 0 where
  pub held : Held S bs
  pub inside : w < (read S bs).n
  pub level : i ≤ top_at bs

module _ {S : Shape} {bs : List ℕ} {i w : ℕ} (a : Visiting S bs i w) where
  turn-rank : rank_at bs w ≡ (read S bs).rank w
  turn-rank = held-rank a.held w (held_small a.held w a.inside)

  turn-phi : phi_at S bs w i ≡ phi (read S bs) w i
  turn-phi = held-phi a.held w i (held_small a.held w a.inside) a.level

  pub turn-high : i < rank_at bs w → T (due (rules_at bs) i w (read S bs)) → ⊥
  unfolding due
  turn-high h t = omega (arith, leb→le ((read S bs).rank w) i (and_left (leb ((read S bs).rank w) i) _ t), turn-rank)

  pub turn-few : phi_at S bs w i < growth_at bs ^ i → T (due (rules_at bs) i w (read S bs)) → ⊥
  unfolding due
  turn-few h t = omega (arith, leb→le (growth_at bs ^ i) (phi (read S bs) w i) (and_right (leb ((read S bs).rank w) i) _ t), turn-phi)

  pub turn-due : rank_at bs w ≤ i → growth_at bs ^ i ≤ phi_at S bs w i → T (due (rules_at bs) i w (read S bs))
  unfolding due
  turn-due h k =
      and_intro (leb ((read S bs).rank w) i) (leb (growth_at bs ^ i) (phi (read S bs) w i))
      (le→leb ((read S bs).rank w) i (omega (arith, turn-rank))) (le→leb (growth_at bs ^ i) (phi (read S bs) w i) (omega (arith, turn-phi)))

  -- a vertex that is not due is passed over
  pub turn-passed : (words : List ℕ) (p : Progress) → HoldsWaiting p.queue (read S bs) → (T (due (rules_at bs) i w (read S bs)) → ⊥)
      → Left (visited (rules_at bs) words i w (running S bs p)) bs p
  turn-passed words p c n =
      rw (visited-no (rules_at bs) words i w (running S bs p) n)
      (record { rack = a.held.written; queues = refl; draws = refl; falls = refl; holds = c })

  pub turn-promoted : (words : List ℕ) {d : List ℕ} (p : Progress) {r : Progress} → T (due (rules_at bs) i w (read S bs))
      → Left (promote words i w (running S bs p)) d r → Left (visited (rules_at bs) words i w (running S bs p)) d r
  turn-promoted words p n c = rw (visited-yes (rules_at bs) words i w (running S bs p) n) c
