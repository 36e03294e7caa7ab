-- How crowded a rack is: the figures of the end line, by the edge ledger. Assumes nothing.
use mathlib.Core.Path.{◌≡◌, sym, ◌∙◌}
use mathlib.Core.Bool.{or_comm}
use mathlib.Core.List.{List}
use Prim.Native.Nat.{ℕ, ◌<◌}
use native.Mathlib.Omega.{arith}
use Rattle.model.specs.Shape.{Shape}
use Rattle.model.specs.State.{State, edge}
use Rattle.model.specs.Bytes.{read}
use Rattle.model.specs.Ledger.{Ledger, links}
use Rattle.model.proofs.Facts.{sound-says}
use Rattle.model.proofs.Mean.{mean-is, mean-only}
use Rattle.model.proofs.Sums.{ends-twice}
use Rattle.theory.specs.Demand.{Facts}
use Rattle.theory.specs.Crowding.{neighbours, Crowding}

turned : (s : State) (v w : ℕ) → edge s v w ≡ edge s w v
unfolding edge
turned s v w = or_comm (s.owns v w) (s.owns w v)

pub crowding : {S : Shape} (l : Ledger) (bs : List ℕ) → Facts S l bs → Crowding l
unfolding neighbours links
crowding {S} l bs F = record {
  is = mean-is (links l) l.n some;
  only = mean-only (links l) l.n;
  all = ends-twice l.there l.n (λ v h t. F.no_loop v t) turn;
}
  where
    some : 0 < l.n
    some = omega (arith, F.size, ((sound-says S bs).fact F.is-sound).size.0)

    turn : (v w : ℕ) → l.there v w ≡ l.there w v
    turn v w = sym (F.links v w) ∙ turned (read S bs) v w ∙ F.links w v
