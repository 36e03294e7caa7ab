-- `bitset::all_are` meets its contract. The loop's invariant: nothing differs from B exactly if the bytes passed in both halves are B. Assumes nothing.
use mathlib.Core.Path.{◌≡◌}
use Prim.Native.Nat.{◌+◌, ◌≤◌}
use lib.ListN.{length}
use Rattle.bitset.proofs.Gathered.{Gathered}
use Rattle.bitset.proofs.all_are.Given as goal

abbrev pub invariant-loop-i : goal.invariant-loop-i
invariant-loop-i g l = (l.past ≤ l.half) × (l.past + l.half ≡ length l.part) × Gathered l.part g.row.B l.past l.i l.other
