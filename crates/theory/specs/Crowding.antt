-- How crowded a rack is, by the link book (the edge ledger): what the figures Q and R of the end line say. The theorem is `crowding`
-- (proofs/Crowding.antt), for the ledger of every rack of which demand 3's facts hold. Assumes nothing.
use Rattle.std.specs.Prelude.{◌≡◌, ℕ, ◌*◌}
use Rattle.model.specs.Counting.{sum, count}
use Rattle.model.specs.Ledger.{Ledger, links}
use Rattle.model.specs.Record.{Mean, IsMean, mean}

-- how many neighbours v has
unfoldable pub neighbours : Ledger → ℕ → ℕ
neighbours l v = count (l.there v) l.n

pub record Crowding (l : Ledger) : Type 0 where
  -- W-202: "twice the links equals Q times n plus R and R is below n", and of no other two numbers is that so
  pub is : IsMean (links l) l.n (mean (links l) l.n)
  pub only : (m : Mean) → IsMean (links l) l.n m → m ≡ mean (links l) l.n
  -- twice the links are the neighbours of all vertices together: Q for each vertex, and R left over
  pub all : sum (neighbours l) l.n ≡ 2 * links l
