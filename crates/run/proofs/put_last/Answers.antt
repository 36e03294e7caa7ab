-- `run::put_last` meets its contract. Q and R are those of the definition, since the rack holds its size and the number of its edges. Assumes nothing.
use mathlib.Core.Path.{◌≡◌, ap₂, ◌∙◌}
use mathlib.Core.List.{List}
use Prim.Native.Nat.{ℕ, ◌*◌, ◌/◌, ◌%◌}
use native.Mathlib.Omega.{arith}
use Rattle.model.specs.Shape.{low}
use Rattle.model.specs.State.{State, edges, pairs}
use Rattle.model.specs.Bytes.{read}
use Rattle.model.specs.Record.{mean, end_text, end_line}
use Rattle.record.specs.Line.{mean_of}
use Rattle.text.specs.Writing.{Put}
use Rattle.text.proofs.Over.{put_as}
use Rattle.moves.proofs.Held.{held-size, held-edges, held-few}
use Rattle.changes.proofs.Wholes.{sounded-held}
use Rattle.run.proofs.put_last.Goals.{After-edges, After-size-n}
use Rattle.run.proofs.put_last.Goals as goal

abbrev state : After-size-n → State
state c = read low c.args.rack.now

-- what was read of the rack
size_is : (c : After-size-n) → c.size-n.result ≡ (state c).n
size_is c = c.size-n.ensures ∙ held-size (sounded-held _ c.requires.sounded)

edges_are : (c : After-edges) → c.edges.result ≡ edges (state (goal.at.After-edges c).After-size-n)
edges_are c = c.edges.ensures ∙ held-edges (sounded-held _ c.requires.sounded)

-- quotients and remainders of equal numbers
divided : {x y a b : ℕ} → x ≡ a → y ≡ b → x / y ≡ a / b
divided h i = ap₂ (λ (x y : ℕ). x / y) h i

remains : {x y a b : ℕ} → x ≡ a → y ≡ b → x % y ≡ a % b
remains h i = ap₂ (λ (x y : ℕ). x % y) h i

-- an end line that was written of the state's figures
end-as : (s : State) {p q r k : ℕ} {old new : List ℕ} → Put (end_text p (mean_of q r)) old new k
    → p ≡ pairs s → q ≡ 2 * edges s / s.n → r ≡ 2 * edges s % s.n → Put (end_line s) old new k
unfolding mean
end-as s w a b c = put_as _ _ (λ i. end_text (a i) (mean_of (b i) (c i))) w

pub overflow_cast-n : goal.overflow_cast-n
overflow_cast-n c = omega (arith, size_is c, held-few (sounded-held _ c.requires.sounded))

-- a rack has a vertex
pub nonzero_div-twice : goal.nonzero_div-twice
nonzero_div-twice c = omega (arith, size_is (goal.at.nonzero_div-twice c).After-size-n, c.requires.sounded.valid.some)

pub nonzero_rem-twice : goal.nonzero_rem-twice
nonzero_rem-twice c = omega (arith, size_is (goal.at.nonzero_rem-twice c).After-size-n, c.requires.sounded.valid.some)

pub returns : goal.returns
returns c = let n = size_is (goal.at.returns c).After-size-n in
    end-as (state (goal.at.returns c).After-size-n) c.put_end.ensures c.pairs-pairs.ensures
    (divided (omega (arith, edges_are (goal.at.returns c).After-edges)) n)
    (remains (omega (arith, edges_are (goal.at.returns c).After-edges)) n)
