-- `moves::hand_word` meets its contract. The loop's invariant: the edges that go before some place of the word are handed on, and the others
-- that go are left. Assumes nothing.
use mathlib.Core.List.{List}
use mathlib.Core.Path.{◌≡◌, refl, sym, ap, ◌∙◌, subst}
use mathlib.Core.Bool.{◌&&◌}
use Prim.Native.Nat.{ℕ, suc, ◌+◌, ◌*◌, ◌≤◌, ◌<◌}
use native.Mathlib.Omega.{arith}
use lib.Dec.{ltb, eqb}
use lib.Bits.{bit_and, bit_xor}
use lib.Count.{ones, count_trailing_zeros}
use Rattle.model.specs.Counting.{count}
use Rattle.model.specs.Shape.{low}
use Rattle.model.specs.State.{State}
use Rattle.model.specs.Bytes.{roster_at, read, write}
use Rattle.bitset.specs.Words.{Rest}
use Rattle.bitset.proofs.Words.{rest-count}
use Rattle.bitset.proofs.Sets.{rest-ext}
use Rattle.layout.specs.declared.walk.Cursor.{Cursor}
use Rattle.layout.specs.Setters.{own}
use Rattle.moves.proofs.Held.{held-room, proper-ranks, held_small, held-owns, held-roster}
use Rattle.moves.proofs.HandWord.{Handing, goes, stays, word-goes, word-stays, handing-start, handing-turn, handing-next}
use Rattle.moves.proofs.HandWord.{handing-bytes, empty-numbers, empty-handed}
use Rattle.moves.proofs.hand_word.Goals.{After-word, After-word-row, Start}
use Rattle.moves.proofs.hand_word.Goals as goal

-- the state that the function's bytes hold
abbrev state : Start → State
state s = read low s.args.rack.now

v-small : (s : Start) → s.args.v < low.most
v-small s = held_small s.requires.held s.args.v s.requires.v_bound.0

-- the level has a roster
rank-small : (s : Start) → suc s.args.i ≤ low.levels
rank-small s = omega (arith, proper-ranks s.requires.held.proper s.args.v, held-room s.requires.held, s.requires.v_bound.1)

-- the word of the row, and of the roster of v's level, as the state has them
row-rest : (c : After-word-row) →
    Rest (λ j. (state (goal.at.After-word-row c).Start).owns c.args.v (64 * c.args.k + j)) 0 c.word-row.result
row-rest c =
    rest-ext c.word-row.ensures (λ j l. held-owns c.requires.held c.args.v (64 * c.args.k + j) (v-small (goal.at.After-word-row c).Start)
    (omega (arith, c.requires.v_bound.2)))

roster-rest : (c : After-word) →
    let w : ℕ → ℕ = λ j. 64 * c.args.k + j in
    Rest (λ j. ltb (w j) (state (goal.at.After-word c).Start).n && eqb ((state (goal.at.After-word c).Start).rank (w j))
    (suc c.args.i)) 0 c.word.result
roster-rest c =
    let word : ℕ → Type 0 = λ r. Rest (λ j. roster_at low c.args.rack.now r (64 * c.args.k + j)) 0 c.word.result in
    rest-ext (subst word {y = suc c.args.i} (omega arith) c.word.ensures)
    (λ j l. held-roster c.requires.held (suc c.args.i) (64 * c.args.k + j) (rank-small (goal.at.After-word c).Start)
    (omega (arith, c.requires.v_bound.2)))

-- what goes, and what stays
go-rest : (c : After-word) →
    Rest (goes (state (goal.at.After-word c).Start) c.args.i c.args.v c.args.k) 0 (bit_and c.word-row.result c.word.result)
go-rest c =
    word-goes c.requires.held.proper c.args.i c.args.v c.args.k (row-rest (goal.at.After-word c).After-word-row) (roster-rest c)

stay-rest : (c : After-word) →
    let row = c.word-row.result in
    Rest (stays (state (goal.at.After-word c).Start) c.args.i c.args.v c.args.k) 0 (bit_xor row (bit_and row c.word.result))
stay-rest c =
    word-stays c.requires.held.proper c.args.i c.args.v c.args.k (row-rest (goal.at.After-word c).After-word-row) (roster-rest c)

-- an empty word
pub returns-then-row-eq0 : goal.returns-then-row-eq0
unfolding read
returns-then-row-eq0 c = let a = c.args in
    let row = row-rest (goal.at.returns-then-row-eq0 c).After-word-row in
    let n = empty-numbers c.requires.held.proper a.i a.v a.k row c.if-row-eq0.true in
    let same = empty-handed c.requires.held.proper a.i a.v a.k row c.if-row-eq0.true in
    record { rack_after = c.requires.held.written ∙ ap write (sym same); handed_value = omega (arith, n.0); below_value = omega (arith, n.1) }

-- whoever goes takes its turn, and the rest of the word is left
abbrev over : (s : Start) → List ℕ → Cursor → Type 0
over s bs b = (b.word ≡ s.args.k) × Handing (state s) s.args.i s.args.v s.args.k bs b.rest

pub loop-w-init : goal.loop-w-init
loop-w-init c = subst (over (goal.at.loop-w-init c).Start c.args.rack.now) (sym (c.into_iter-w-iterator.ensures.into_iter_gives ∙ c.new-w-items.ensures))
    (refl, handing-start c.requires.held.proper c.args.i c.args.v c.args.k c.requires.held.written (go-rest (goal.at.loop-w-init c).After-word))

pub loop-w-preserved : goal.loop-w-preserved
unfolding read
loop-w-preserved c = let a = c.args in
    let l = c.loop-w in
    let turn = c.in-Some.ensures.steps in
    let w : c.in-Some.w ≡ 64 * a.k + count_trailing_zeros 64 l.w-iterator.rest = omega (arith, turn.1, l.invariant.0) in
    subst (over (goal.at.loop-w-preserved c).Start c.own.new.rack) (sym turn.2) (
      l.invariant.0,
      handing-next c.requires.held.proper a.i a.v a.k l.invariant.1 turn.0 (v-small (goal.at.loop-w-preserved c).Start)
          (omega (arith, handing-turn c.requires.held.proper a.i a.v a.k l.invariant.1 turn.0, c.requires.v_bound.2))
          (c.own.ensures ∙ ap (λ (w : ℕ). own low l.rack w a.v) w),
    )

-- the numbers of the word's two parts
go-count : (c : After-word) →
    ones (bit_and c.word-row.result c.word.result) ≡ count (goes (state (goal.at.After-word c).Start) c.args.i c.args.v c.args.k) 64
go-count c = rest-count _ _ (go-rest c)

stay-count : (c : After-word) →
    let row = c.word-row.result in
    ones (bit_xor row (bit_and row c.word.result)) ≡ count (stays (state (goal.at.After-word c).Start) c.args.i c.args.v c.args.k) 64
stay-count c = rest-count _ _ (stay-rest c)

pub returns : goal.returns
unfolding read
returns c = let a = c.args in
    let bytes = handing-bytes c.requires.held.proper a.i a.v a.k c.loop-w.invariant.1 c.in-None.ensures.steps.0 c.requires.v_bound.0 c.requires.v_bound.2
    (stay-rest (goal.at.returns c).After-word) in record {
      rack_after = c.set_word.ensures ∙ bytes;
      handed_value = omega (arith, c.word_ones.ensures.0, go-count (goal.at.returns c).After-word);
      below_value = omega (arith, c.word_ones-2.ensures.0, stay-count (goal.at.returns c).After-word);
    }
