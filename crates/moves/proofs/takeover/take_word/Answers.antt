-- `moves::takeover::take_word` meets its contract. Assumes nothing.
use mathlib.Core.List.{List}
use mathlib.Core.Path.{◌≡◌, refl, sym, ap, ◌∙◌, subst}
use mathlib.Core.Bool.{Bool}
use Prim.Native.Nat.{ℕ, ◌+◌, ◌-◌, ◌*◌, ◌<◌}
use native.Mathlib.Omega.{arith}
use lib.Count.{count_trailing_zeros}
use Rattle.model.specs.Shape.{low}
use Rattle.model.specs.State.{State}
use Rattle.model.specs.Bytes.{kind_at, read, write}
use Rattle.bitset.specs.Words.{Rest}
use Rattle.layout.specs.declared.walk.Cursor.{Cursor}
use Rattle.layout.specs.Setters.{disown}
use Rattle.moves.specs.Proper.{owner_at}
use Rattle.moves.proofs.Held.{held_small, held-owns}
use Rattle.moves.proofs.Taking.{Takes, takes-rank}
use Rattle.moves.proofs.Turning.{among}
use Rattle.moves.proofs.TakeWord.{TakeWord, word_none, word-start, word-owner, word-left, word_next, word_end}
use Rattle.moves.proofs.takeover.take_word.Goals.{After-set_word, In-Some, Start}
use Rattle.moves.proofs.takeover.take_word.Goals as goal

abbrev state : Start → State
state s = read low s.args.rack.now

abbrev owner : Start → ℕ → Bool
owner s = owner_at (state s) s.args.q s.args.u

takes : (s : Start) → Takes (kind_at low s.args.rack.now) (state s) s.args.u (owner s)
takes s = takes-rank s.requires.held.proper s.args.q s.args.u s.requires.u_bound.0

u-small : (s : Start) → s.args.u < low.most
u-small s = held_small s.requires.held s.args.u s.requires.u_bound.0

-- no owner stands in the word
pub returns-then-x-eq0 : goal.returns-then-x-eq0
unfolding among
returns-then-x-eq0 c = let n = word_none (takes (goal.at.returns-then-x-eq0 c).Start) c.args.k c.owners-x.ensures (omega (arith, c.if-x-eq0.true)) in
    record { rack_after = c.requires.held.written ∙ ap write n.0; j_value = omega (arith, n.1) }

-- where the loop begins
begun : (c : After-set_word) →
    TakeWord (state (goal.at.After-set_word c).Start) c.args.u c.args.k
    (owner (goal.at.After-set_word c).Start) c.args.missing c.set_word.new.rack
    c.owners-x.result c.args.missing
unfolding read
begun c =
    let row : Rest (λ j. (state (goal.at.After-set_word c).Start).owns c.args.u (64 * c.args.k + j)) 0 c.word-row.result = record {
      fits = c.word-row.ensures.fits;
      none = c.word-row.ensures.none;
      same = λ j h l.
          c.word-row.ensures.same j h l
          ∙ held-owns c.requires.held c.args.u (64 * c.args.k + j) (u-small (goal.at.After-set_word c).Start)
          (omega (arith, c.requires.u_bound.2));
    } in
    word-start (takes (goal.at.After-set_word c).Start) c.requires.held.written c.requires.u_bound.2 row c.owners-x.ensures c.set_word.ensures

-- after so many turns
abbrev over : (s : Start) → List ℕ → ℕ → Cursor → Type 0
over s bs left b = let a = s.args in (b.word ≡ a.k) × TakeWord (state s) a.u a.k (owner s) a.missing bs b.rest left

pub loop-w-init : goal.loop-w-init
loop-w-init c =
    subst (over (goal.at.loop-w-init c).Start c.set_word.new.rack c.args.missing) (sym (c.into_iter-w-iterator.ensures.into_iter_gives ∙ c.new-w-items.ensures))
    (refl, begun (goal.at.loop-w-init c).After-set_word)

-- a turn is that of an owner, so an edge is missing
module _ (c : In-Some) where
  q : Takes (kind_at low c.args.rack.now) (state (goal.at.In-Some c).Start) c.args.u (owner (goal.at.In-Some c).Start)
  q = takes (goal.at.In-Some c).Start

  some : 0 < c.loop-w.w-iterator.rest
  some = c.in-Some.ensures.steps.0

  place : c.in-Some.w ≡ 64 * c.args.k + count_trailing_zeros 64 c.loop-w.w-iterator.rest
  place = omega (arith, c.in-Some.ensures.steps.1, c.loop-w.invariant.0)

  inside : c.in-Some.w < low.most
  inside = omega (arith, place, (word-owner q c.loop-w.invariant.1 some).0, c.requires.u_bound.2)

  one_left : 0 < c.loop-w.left
  one_left = word-left q c.loop-w.invariant.1 some c.requires.missing_nonzero.1

pub disown-requires-clause-v_lt_most : goal.disown-requires-clause-v_lt_most
disown-requires-clause-v_lt_most c = inside (goal.at.disown-requires-clause-v_lt_most c).In-Some

pub overflow_sub-left : goal.overflow_sub-left
overflow_sub-left c = one_left (goal.at.overflow_sub-left c).In-Some

pub loop-w-preserved : goal.loop-w-preserved
unfolding read
loop-w-preserved c = let a = c.args in
    let l = c.loop-w in
    let turn = (goal.at.loop-w-preserved c).In-Some in
    let e = c.disown.ensures ∙ ap (λ (w : ℕ). disown low l.rack w a.u) (place turn) in
    subst (over (goal.at.loop-w-preserved c).Start c.disown.new.rack (l.left - 1)) (sym c.in-Some.ensures.steps.2)
    (l.invariant.0, word_next (q turn) l.invariant.1 (some turn) e (omega (arith, one_left turn)))

pub returns : goal.returns
unfolding among
returns c =
    let t = word_end (takes (goal.at.returns c).Start) c.loop-w.invariant.1 c.in-None.ensures.steps.0 in
    record { rack_after = t.0; j_value = t.1 }
