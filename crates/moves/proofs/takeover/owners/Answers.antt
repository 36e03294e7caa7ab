-- `moves::takeover::owners` meets its contract. Assumes nothing.
use mathlib.Core.Path.{◌≡◌, refl, sym, ap, ◌∙◌, subst}
use mathlib.Core.Bool.{Bool, ◌&&◌}
use Prim.Native.Nat.{ℕ, suc, ◌+◌, ◌-◌, ◌*◌, ◌%◌, ◌^◌, ◌<◌}
use native.Mathlib.Nat.{pow-suc}
use native.Mathlib.Omega.{arith}
use lib.Dec.{T, eqb, ltb, eqb→eq, lt→ltb}
use lib.Pow.{pow_mono, pow-lt}
use lib.Count.{count_trailing_zeros}
use Rattle.model.specs.Shape.{low}
use Rattle.model.specs.State.{State}
use Rattle.model.specs.Bytes.{roster_at, read}
use Rattle.model.proofs.Tests.{true-T, eqb_yes, and_intro, and_right}
use Rattle.layout.specs.declared.walk.Cursor.{Cursor}
use Rattle.moves.specs.Proper.{owner_at}
use Rattle.moves.proofs.Held.{held_small, held-owns, held-roster}
use Rattle.moves.proofs.Search.{Search, search-start, search-full, search-over, search-at, search-got, search-left, search-yes, search_no}
use Rattle.moves.proofs.Taking.{owner_of, owner-is}
use Rattle.moves.proofs.takeover.owners.Goals.{Start, In-Some, After-owns, Then-owns}
use Rattle.moves.proofs.takeover.owners.Goals as goal

-- where the function begins, the state that its bytes hold, and the two tests of a place
abbrev state : Start → State
state s = read low s.args.rack.now

abbrev listed : Start → ℕ → Bool
listed s j = roster_at low s.args.rack.now s.args.q (64 * s.args.k + j)

abbrev owner : Start → ℕ → Bool
owner s j = owner_at (state s) s.args.q s.args.u (64 * s.args.k + j)

u-small : (s : Start) → s.args.u < low.most
u-small s = held_small s.requires.held s.args.u s.requires.u_bound.0

module _ (s : Start) (j : ℕ) (l : j < 64) where
  here : 64 * s.args.k + j < low.most
  here = omega (arith, s.requires.u_bound.2)

  in-roster : listed s j ≡ (ltb (64 * s.args.k + j) (state s).n && eqb ((state s).rank (64 * s.args.k + j)) s.args.q)
  in-roster = held-roster s.requires.held s.args.q (64 * s.args.k + j) s.requires.u_bound.1 here

  -- an owner of the rank is in its roster
  each : T (owner s j) → T (listed s j)
  each t =
      let w : ℕ = 64 * s.args.k + j in
      let o = owner-is (state s) s.args.q s.args.u w t in
      subst T (sym in-roster) (and_intro (ltb w (state s).n) _ (lt→ltb w (state s).n (s.requires.held.proper.inside w s.args.u o.0).0)
      (true-T (eqb_yes ((state s).rank w) s.args.q o.1)))

  -- and whoever is in the roster and owns an edge to u is one
  among-owners : T (listed s j) → T ((state s).owns (64 * s.args.k + j) s.args.u) → T (owner s j)
  among-owners r o =
      let w : ℕ = 64 * s.args.k + j in
      owner_of (state s) s.args.q s.args.u w o
      (eqb→eq ((state s).rank w) s.args.q (and_right (ltb w (state s).n) _ (subst T in-roster r)))

-- after so many turns
abbrev over : (s : Start) → ℕ → ℕ → Cursor → Type 0
over s left found b = (b.word ≡ s.args.k) × Search (listed s) (owner s) s.args.missing left found b.rest

pub loop-w-init : goal.loop-w-init
loop-w-init c =
    subst (over (goal.at.loop-w-init c).Start c.args.missing 0) (sym (c.into_iter-w-iterator.ensures.into_iter_gives ∙ c.new-w-items.ensures))
    (refl, search-start c.word.ensures)

-- in a turn something is left of the word
module _ (c : In-Some) where
  abbrev start : Start
  start = (goal.at.In-Some c).Start

  some : 0 < c.loop-w.w-iterator.rest
  some = c.in-Some.ensures.steps.0

  -- the place whose turn it is
  abbrev at : ℕ
  at = count_trailing_zeros 64 c.loop-w.w-iterator.rest

  place : c.in-Some.w ≡ 64 * c.args.k + at
  place = omega (arith, c.in-Some.ensures.steps.1, c.loop-w.invariant.0)

  turn : (at < 64) × T (listed start at)
  turn = search-at (each start) c.loop-w.invariant.1 some

  -- its bit
  bit : 1 * 2 ^ (c.in-Some.w % 64) % 18446744073709551616 ≡ 2 ^ at
  bit =
      let e : 1 * 2 ^ (c.in-Some.w % 64) ≡ 2 ^ at = ap (λ (j : ℕ). 1 * 2 ^ j) {y = at} (omega (arith, place, turn.0)) ∙ omega arith in
      omega (arith, e, pow-lt {i = at} {j = 64} turn.0)

-- what is read is whether the vertex there is an owner
asked : (c : After-owns) →
    c.owns.result ≡ (state (goal.at.After-owns c).Start).owns (64 * c.args.k + at (goal.at.After-owns c).In-Some) c.args.u
asked c =
    let t = (goal.at.After-owns c).In-Some in
    let s = (goal.at.After-owns c).Start in
    subst (λ (w : ℕ). c.owns.result ≡ (state s).owns w s.args.u) (place t)
    (c.owns.ensures ∙ held-owns c.requires.held c.in-Some.w s.args.u (omega (arith, place t, here s (at t) (turn t).0)) (u-small s))

-- it is an owner: one that was looked for
module _ (c : Then-owns) where
  abbrev inside : In-Some
  inside = (goal.at.Then-owns c).In-Some

  abbrev begun : Start
  begun = (goal.at.Then-owns c).Start

  yes : T (owner begun (at inside))
  yes = among-owners begun (at inside) (turn inside).0 (turn inside).1 (true-T (sym (asked (goal.at.Then-owns c).After-owns) ∙ c.if-owns.true))

  one_left : 0 < c.loop-w.left
  one_left = search-left (each begun) c.loop-w.invariant.1 (some inside) c.requires.missing_nonzero.1 yes

  -- after it
  found : over begun (c.loop-w.left - 1) (c.loop-w.found + 1 * 2 ^ (c.in-Some.w % 64) % 18446744073709551616) c.next.new.self
  found =
      subst (over begun (c.loop-w.left - 1) (c.loop-w.found + 1 * 2 ^ (c.in-Some.w % 64) % 18446744073709551616)) (sym c.in-Some.ensures.steps.2)
      (c.loop-w.invariant.0, search-yes (each begun) c.loop-w.invariant.1 (some inside) yes (omega (arith, one_left)) (omega (arith, bit inside)))

-- what is found fits a word
pub overflow_add-found : goal.overflow_add-found
overflow_add-found c =
    let t = (goal.at.overflow_add-found c).In-Some in
    let k = at t in
    let g = search-got (each (goal.at.overflow_add-found c).Start) c.loop-w.invariant.1 (some t) in
    record { fits = omega (arith, bit t, g.fits, pow-suc 2 k, pow_mono {i = suc k} {j = 64} (turn t).0) }

pub overflow_sub-left : goal.overflow_sub-left
overflow_sub-left c = omega (arith, one_left (goal.at.overflow_sub-left c).Then-owns)

pub returns-then-left-eq0 : goal.returns-then-left-eq0
returns-then-left-eq0 c =
    let b = (goal.at.returns-then-left-eq0 c).Then-owns in
    search-full (each (goal.at.returns-then-left-eq0 c).Start) (found b).1 c.requires.missing_nonzero.1 (omega (arith, c.if-left-eq0.true))

pub loop-w-preserved-else-left-eq0 : goal.loop-w-preserved-else-left-eq0
loop-w-preserved-else-left-eq0 c = found (goal.at.loop-w-preserved-else-left-eq0 c).Then-owns

pub loop-w-preserved : goal.loop-w-preserved
loop-w-preserved c =
    let t = (goal.at.loop-w-preserved c).In-Some in
    let s = (goal.at.loop-w-preserved c).Start in
    subst (over s c.loop-w.left c.loop-w.found) (sym c.in-Some.ensures.steps.2) (
      c.loop-w.invariant.0,
      search_no (each s) c.loop-w.invariant.1 (some t)
          (λ y. subst T (sym (asked (goal.at.loop-w-preserved c).After-owns) ∙ c.if-owns.false)
          (owner-is (state s) s.args.q s.args.u (64 * s.args.k + at t) y).0),
    )

pub returns : goal.returns
returns c = search-over (each (goal.at.returns c).Start) c.loop-w.invariant.1 c.in-None.ensures.steps.0
