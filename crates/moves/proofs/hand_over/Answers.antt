-- `moves::hand_over` meets its contract. The loop's invariant: the words before word k are done. Assumes nothing.
use mathlib.Core.Path.{◌≡◌, ◌∙◌}
use Prim.Native.Nat.{◌*◌, ◌≤◌, ◌<◌}
use native.Mathlib.Omega.{arith}
use Rattle.model.specs.Shape.{low}
use Rattle.model.specs.State.{State}
use Rattle.model.specs.Bytes.{read}
use Rattle.moves.proofs.Held.{held-size}
use Rattle.moves.proofs.HandWords.{over-start, over-asks, over-next, over-bytes, over-numbers}
use Rattle.moves.proofs.hand_over.Goals.{At-loop-k, In-loop-k, Start}
use Rattle.moves.proofs.hand_over.Goals as goal

abbrev state : Start → State
state s = read low s.args.rack.now

-- the size that was read
size_is : (c : At-loop-k) → c.size-n.result ≡ (state (goal.at.At-loop-k c).Start).n
size_is c = c.size-n.ensures ∙ held-size c.requires.held.0

pub loop-k-init : goal.loop-k-init
loop-k-init c = over-start (state (goal.at.loop-k-init c).Start) c.requires.held.0.proper c.args.i c.args.v c.requires.held.0.written

-- in a turn the word has vertices
inside : (c : In-loop-k) → 64 * c.loop-k.k < (state (goal.at.In-loop-k c).Start).n
inside c = omega (arith, c.loop-k-test.true, size_is (goal.at.In-loop-k c).At-loop-k)

pub hand_word-split-requires : goal.hand_word-split-requires
hand_word-split-requires c = let a = c.args in
    let p = c.requires.held.0.proper in
    let v = c.requires.v_bound in
    let word = inside (goal.at.hand_word-split-requires c).In-loop-k in
    let t = over-asks (state (goal.at.hand_word-split-requires c).Start) p a.i a.v c.loop-k.invariant v.0 v.1 word in
    record { held = t.0; v_bound = t.1.0; handed_le_most = t.1.1 }

pub loop-k-preserved : goal.loop-k-preserved
loop-k-preserved c = let e = c.hand_word-split.ensures in
    over-next (state (goal.at.loop-k-preserved c).Start) c.requires.held.0.proper c.args.i c.args.v c.loop-k.invariant
    (inside (goal.at.loop-k-preserved c).In-loop-k) e.rack_after e.handed_value e.below_value

pub returns : goal.returns
returns c = let l = c.loop-k in
    let p = c.requires.held.0.proper in
    let all : (state (goal.at.returns c).Start).n ≤ 64 * l.k = omega (arith, c.loop-k-test.false, size_is (goal.at.returns c).At-loop-k) in
    let n = over-numbers (state (goal.at.returns c).Start) p c.args.i c.args.v l.invariant c.requires.held.1 c.requires.v_bound.1 all in
    record { rack_after = over-bytes (state (goal.at.returns c).Start) p c.args.i c.args.v l.invariant all; handed_value = n.0; below_value = n.1 }
