-- The record fits its space: a trace text of at most 16,384 bytes has a record of at most 65,536. A change's line has at least 20 bytes, and
-- the line that answers it at most 64 whatever 32-bit figures it has, which makes at most 52,428; 256 pairs' lines of 50 bytes, twice as
-- many as there can be, and the end line make at most 12,854 more. Assumes nothing.
use Prim.Native.Nat.{ℕ, ◌+◌, ◌*◌, ◌-◌, ◌≤◌, ◌<◌}
use mathlib.Core.Bool.{Bool}
use mathlib.Core.List.{List, [], ◌∷◌, ◌++◌}
use native.Mathlib.Omega.{arith}
use native.Mathlib.Nat.{mul-suc}
use lib.Dec.{T, ltb}
use lib.ListN.{length, length-append}
use Rattle.model.specs.Counting.{listed}
use Rattle.model.specs.Shape.{low}
use Rattle.model.specs.State.{Rules, rules, State, edges, pairs}
use Rattle.model.specs.Text.{bytes, largest}
use Rattle.model.specs.Change.{Change, change}
use Rattle.model.specs.Lists.{All}
use Rattle.model.specs.Trace.{LineChange, Trace, trace_text, rack_line, change_line}
use Rattle.model.specs.Record.{answer_line, pair_line, Mean, mean, end_text, end_line, pair_lines, changes_text, kind_of, rack_of, record_text}
use Rattle.model.specs.Run.{longest, space_length}
use Rattle.model.proofs.Counting.{count-bound}
use Rattle.model.proofs.Lists.{listed-length, listed-all}
use Rattle.model.proofs.Limits.{edges-bound}
use Rattle.model.proofs.Mean.{mean-most}
use Rattle.text.specs.Rooms.{answer_room, pair_room, end_room, ending_room}
use Rattle.text.proofs.Lengths.{three-most}
use Rattle.text.proofs.Answers.{Figures, answer-most}
use Rattle.text.proofs.Texts.{texts-least, texts-most}
use Rattle.trace.proofs.Whole.{change-least}

-- The space that a run needs.

-- line 1, the line of each change, and those after them
pub space-enough : (t : Trace) → length (trace_text t) ≤ longest
    → length (rack_line t.n t.settings) + answer_room * length t.changes + ending_room ≤ space_length
unfolding trace_text
space-enough t short = omega (arith, simp length-append at short, texts-least change_line 20 change-least t.changes)

-- The lines after the changes.

-- what is printed of a state fits 32 bits
pub record Small (s : State) : Type 0 where
  pub few : s.n ≤ low.most
  pub mates : (v : ℕ) → v < s.n → s.mate v ≤ largest
  pub ranks : (v : ℕ) → v < s.n → s.rank v ≤ largest

pub pair-most : (s : State) (v : ℕ) → Small s → v < s.n → length (pair_line s v) ≤ pair_room
unfolding pair_line
pair-most s v h b =
    let r : s.rank v - 1 ≤ largest = omega (arith, h.ranks v b) in
    omega (
      arith,
      three-most (bytes "(pair (") v (bytes " ") (s.mate v) (bytes ") (level ") (s.rank v - 1) (bytes "))\n") (omega (arith, h.few)) (h.mates v b) r,
    )

pub pairs-most : (s : State) → Small s → length (pair_lines s) ≤ pair_room * low.most
unfolding pair_lines
pairs-most s h =
    let p : ℕ → Bool = λ v. ltb v (s.mate v) in
    omega (
      arith,
      texts-most (pair_line s) (λ (v : ℕ). (v < s.n) × T (p v)) pair_room (λ v g. pair-most s v h g.0) (listed p s.n) (listed-all p s.n),
      listed-length p s.n,
      count-bound p s.n,
      h.few,
    )

pub end-most : (s : State) → Small s → length (end_line s) ≤ end_room
unfolding end_text pairs
end-most s h =
    let m : Mean = mean (edges s) s.n in
    let p : pairs s ≤ largest = omega (arith, h.few, count-bound (λ (v : ℕ). ltb v (s.mate v)) s.n) in
    let q = mean-most (edges s) s.n in
    let e = edges-bound s 255 h.few in
    omega (
      arith,
      three-most (bytes "(end (pairs ") (pairs s) (bytes ") (mean ") m.whole (bytes " ") m.rest (bytes "))\n")
          p (omega (arith, q.0, e)) (omega (arith, q.1, e)),
    )

pub ending-most : (s : State) → Small s → length (pair_lines s ++ end_line s) ≤ ending_room
ending-most s h = omega (arith, length-append (pair_lines s) (end_line s), pairs-most s h, end-most s h)

-- The whole.

-- a property of states that changes keep, and that keeps the figures of a trace's changes within 32 bits
pub record Bounded (R : Rules) (Good : State → Type 0) : Type 0 where
  pub keeps : (s : State) (c : Change) → Good s → Good (change R s c).state
  pub figures : (s : State) (c : Change) → Good s → LineChange c → Figures (change R s c).answer
  pub small : (s : State) → Good s → Small s

module _ (R : Rules) (Good : State → Type 0) (bounded : Bounded R Good) where
  pub changes-most : (s : State) (cs : List Change) → Good s → All LineChange cs → length (changes_text R s cs) ≤ answer_room * length cs + ending_room
  unfolding changes_text
  changes-most s [] g lines = omega (arith, ending-most s (bounded.small s g))
  changes-most s (c ∷ cs) g lines =
      let d = change R s c in
      omega (
        arith,
        length-append (answer_line d.answer) (changes_text R d.state cs),
        answer-most d.answer (bounded.figures s c g lines.0),
        changes-most d.state cs (bounded.keeps s c g) lines.1,
        mul-suc answer_room (length cs),
      )

-- for the rules of line 1, and the rack that it asks for
pub record-fits : (t : Trace) (Good : State → Type 0) → Bounded (rules (kind_of t)) Good → Good (rack_of t) → All LineChange t.changes
    → length (trace_text t) ≤ longest → length (record_text t) ≤ space_length
unfolding record_text
record-fits t Good bounded g lines short =
    let R : Rules = rules (kind_of t) in
    omega (
      arith,
      space-enough t short,
      length-append (rack_line t.n t.settings) (changes_text R (rack_of t) t.changes),
      changes-most R Good bounded (rack_of t) t.changes g lines,
    )
