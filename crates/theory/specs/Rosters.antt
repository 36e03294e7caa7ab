-- W-205: who is in the rosters of a rack, by its bytes and the link book (the edge ledger). The theorem is `rosters-after` (proofs/Rosters.antt),
-- for the last rack of every list of changes. Assumes nothing.
use Rattle.std.specs.Prelude.{◌≡◌, ◌↔◌, List, ℕ, suc, ◌≤◌, ◌<◌, T}
use Rattle.model.specs.Counting.{sum, count}
use Rattle.model.specs.Shape.{Shape}
use Rattle.model.specs.Bytes.{no_mate, rank_at, mate_at, roster_at}
use Rattle.model.specs.Ledger.{Ledger}

pub record Rosters (S : Shape) (l : Ledger) (bs : List ℕ) : Type 0 where
  -- the roster of each level is exactly the vertices at that level
  pub level : (r v : ℕ) → r ≤ S.levels → v < S.most → T (roster_at S bs r v) ↔ ((v < l.n) × (rank_at bs v ≡ r))
  -- the rosters together are all vertices: each is in that of its level, none is in two, and they are as many
  pub listed : (v : ℕ) → v < l.n → (rank_at bs v ≤ S.levels) × T (roster_at S bs (rank_at bs v) v)
  pub once : (q r v : ℕ) → q ≤ S.levels → r ≤ S.levels → v < S.most → T (roster_at S bs q v) → T (roster_at S bs r v) → q ≡ r
  pub together : sum (λ r. count (roster_at S bs r) S.most) (suc S.levels) ≡ l.n
  -- the roster of level -1 is the free ones
  pub free : (v : ℕ) → v < S.most → T (roster_at S bs 0 v) ↔ ((v < l.n) × (mate_at S bs v ≡ no_mate))
