-- The settling as a loop on the bytes: what holds before each taking, that a taking keeps it, and what it says at the end.
-- Assumes nothing.
use mathlib.Core.Path.{◌≡◌, refl, sym, ap, ◌∙◌, subst}
use mathlib.Core.List.{List}
use Prim.Native.Nat.{ℕ, zero, suc, ◌+◌, ◌-◌, ◌*◌, ◌^◌, ◌≤◌, ◌<◌}
use native.Mathlib.Numerals.{add-one}
use native.Mathlib.Nat.{mul-suc, mul-le-mul, mul-le-mul_left}
use native.Mathlib.Omega.{arith}
use lib.ListN.{length}
use Rattle.model.specs.Shape.{Shape}
use Rattle.model.specs.State.{Rules, Kind, State}
use Rattle.model.specs.Bytes.{rules_at, kind_at, top_at, size_at, read, write}
use Rattle.model.specs.Moves.{Run, Found, none, found, take, pick, settle_in, settle}
use Rattle.theory.specs.Waiting.{marks, queues_in}
use Rattle.theory.proofs.Queues.{Queued}
use Rattle.theory.proofs.Takings.{Highest, pick-highest}
use Rattle.theory.proofs.Settling.{settle_step, settle-rest}
use Rattle.moves.specs.Proper.{Proper, Ordered, Held}
use Rattle.moves.proofs.Held.{proper-ranks, rules-as, held_of, held-good, held-room, held-few, held-size}
use Rattle.settling.specs.declared.progress.Progress.{Progress}
use Rattle.settling.specs.Settling.{running, HoldsWaiting, Room, Left, largest_draws, largest_falls, fall_limit, take_limit}
use Rattle.settling.proofs.News.{same_then}
use Rattle.settling.proofs.Written.{levels-as, left-run}
use Rattle.settling.proofs.Kept.{SameEdges, SameRun, take-kept, take-room, take_same}

-- Runs that differ in their new pairs alone settle alike: the pick sees the queues alone.
pub settle-same : (R : Rules) (words : List ℕ) (f : ℕ) (r q : Run) → SameRun r q → SameRun (settle_in R words f r) (settle_in R words f q)
unfolding settle_in
settle-same R words zero r q s = s
settle-same R words (suc f) r q s = go (settle-same R words f) (pick (suc R.top) r.queues) refl
  where
    go : ((a b : Run) → SameRun a b → SameRun (settle_in R words f a) (settle_in R words f b))
        → (x : Found) → pick (suc R.top) r.queues ≡ x → SameRun (settle_in R words (suc f) r) (settle_in R words (suc f) q)
    go ih none e =
        rw (settle-rest R words (suc f) r e, settle-rest R words (suc f) q (ap (pick (suc R.top)) (sym s.queues) ∙ e)) s
    go ih (found i v) e =
        rw (settle_step R words f i v r e, settle_step R words f i v q (ap (pick (suc R.top)) (sym s.queues) ∙ e))
        (ih (take R words i v r) (take R words i v q) (take_same R words i v r q s))

-- what a taking asks of the vertex picked
pub record Takable (top : ℕ) (s : State) (i v : ℕ) : Type 0 where
  pub inside : v < s.n
  pub free : s.mate v ≡ v
  pub rank : s.rank v ≡ suc i
  pub level : i ≤ top

pub taking-of : {K : Kind} (s : State) (queue : List ℕ) (i v : ℕ) → Proper K s → HoldsWaiting queue s
    → pick (suc K.top) (queues_in s.rank queue) ≡ found i v → Takable K.top s i v
taking-of {K} s queue i v p w e =
    let q : Queued s.n (marks s) (queues_in s.rank queue) = record { all = queue; lists = w.lists; queues = refl } in
    let h : Highest s (suc K.top) (found i v) = subst (Highest s (suc K.top)) e (pick-highest s _ q (suc K.top)) in
    record { inside = h.0; free = h.1.0; rank = h.1.1.0; level = omega (arith, proper-ranks p v, h.1.1.0) }

-- how far a figure may have come that has room for `left` more takings, each of which adds at most one for each vertex and one more
abbrev cap : Shape → ℕ → ℕ → ℕ
cap S largest left = largest - suc S.most * left

abbrev pub RoomFor : Shape → ℕ → ℕ → ℕ → Type 0
RoomFor S largest left x = x + suc S.most * left ≤ largest

-- so for one, if one is left, and after it for the others
room-one : (S : Shape) (largest left x : ℕ) → RoomFor S largest left x → 1 ≤ left → x ≤ largest - 1 - S.most
room-one S largest left x h some = omega (arith, mul-le-mul_left (suc S.most) some)

room-others : (S : Shape) (largest left k x y : ℕ) → RoomFor S largest left x → left ≡ suc k → y ≤ cap S largest left + suc S.most
    → RoomFor S largest k y
room-others S largest left k x y h n l = omega (arith, mul-suc (suc S.most) k, ap (λ (z : ℕ). suc S.most * z) n)

-- Before each taking: `left` more takings from the bytes and the tally on lead to where the settling of r leads, and the tally has room
-- for them.
pub record TakingsLeft (S : Shape) (R : Rules) (words : List ℕ) (r : Run) (bs : List ℕ) (left : ℕ) (p : Progress) : Type 0 where
  pub held : Held S bs
  pub same : rules_at bs ≡ R
  pub ordered : Ordered (read S bs)
  pub holds : HoldsWaiting p.queue (read S bs)
  pub ahead : SameRun (settle_in R words left (running S bs p)) (settle R words r)
  pub lent : RoomFor S largest_draws left (length words)
  pub draws : RoomFor S largest_draws left p.tally.draws
  pub falls : RoomFor S largest_falls left p.tally.falls

-- a settling's takings are at most as many as there are places for counts
most-takings : {S : Shape} {bs : List ℕ} → Held S bs → (read S bs).n * suc (top_at bs) ≤ S.most * S.levels
most-takings h = mul-le-mul (held-few h) (held-room h)

-- the takings that the code allows, as the settling counts them
module _ {S : Shape} {bs : List ℕ} (h : Held S bs) (n top : ℕ) (e : n ≡ size_at bs) (f : top ≡ top_at bs) where
  pub takings : n * (top + 1) ≡ (read S bs).n * suc (top_at bs)
  takings = rw (e, f, held-size h, add-one) refl

  pub takings-few : n * (top + 1) ≤ S.most * S.levels
  takings-few = rw takings (most-takings h)

-- figures of four bytes have room for all of them
room-all : {S : Shape} {bs : List ℕ} → Held S bs → (left : ℕ) → left ≡ (read S bs).n * suc (top_at bs) → RoomFor S largest_falls left 1
room-all {S} h left e =
    let few : left ≤ S.most * S.levels = rw e (most-takings h) in omega (arith, mul-le-mul_left (suc S.most) few, (held-good h).figures)

pub going_start : {S : Shape} (words bs : List ℕ) (left : ℕ) (p : Progress) → Held S bs → Ordered (read S bs) → HoldsWaiting p.queue (read S bs)
    → Room (suc (length words)) 0 p.tally → length words * 4 < 2 ^ 63 → left ≡ (read S bs).n * suc (top_at bs)
    → TakingsLeft S (rules_at bs) words (running S bs p) bs left p
unfolding settle
going_start words bs left p h o w m lent e = record {
  held = h;
  same = refl;
  ordered = o;
  holds = w;
  ahead = rw e (record { state = refl; queues = refl; draws = refl; falls = refl });
  lent = omega (arith, room-all h left e, lent);
  draws = omega (arith, room-all h left e, lent, m.draws);
  falls = omega (arith, room-all h left e, m.falls);
}

module _ {S : Shape} {R : Rules} {words : List ℕ} {r : Run} {bs : List ℕ} {left : ℕ} {p : Progress} (g : TakingsLeft S R words r bs left p) where
  pub going-room : 1 ≤ left → Room (take_limit S) fall_limit p.tally
  going-room some = record {
    draws = omega (arith, room-one S largest_draws left p.tally.draws g.draws some);
    falls = omega (arith, room-one S largest_falls left p.tally.falls g.falls some);
  }

  -- where no taking follows, the settling is done
  going-left : settle_in R words left (running S bs p) ≡ running S bs p → Left (settle R words r) bs p
  going-left e =
      let s : SameRun (running S bs p) (settle R words r) = rw e at g.ahead in
      record {
        rack = g.held.written ∙ ap write s.state;
        queues = levels-as p.queue (sym s.state) ∙ s.queues;
        draws = s.draws;
        falls = s.falls;
        holds = subst (HoldsWaiting p.queue) s.state g.holds;
      }

  -- the pick by the settings that the bytes hold now is that by those of the start
  same-pick : {x : Found} → pick (suc (top_at bs)) (queues_in (read S bs).rank p.queue) ≡ x
      → pick (suc R.top) (queues_in (read S bs).rank p.queue) ≡ x
  same-pick {x} = subst (λ (Q : Rules). pick (suc Q.top) (queues_in (read S bs).rank p.queue) ≡ x) g.same

  pub going-rest : pick (suc (top_at bs)) (queues_in (read S bs).rank p.queue) ≡ none → Left (settle R words r) bs p
  going-rest e = going-left (settle-rest R words left (running S bs p) (same-pick e))

  pub going-used : left ≡ 0 → Left (settle R words r) bs p
  unfolding settle_in
  going-used e = going-left (rw e refl)

  -- a taking
  pub going_on : {i v : ℕ} {bs₁ : List ℕ} {p₁ : Progress} → pick (suc (top_at bs)) (queues_in (read S bs).rank p.queue) ≡ found i v → (k : ℕ) → left ≡ suc k
      → Left (take (rules_at bs) words i v (running S bs p)) bs₁ p₁ → TakingsLeft S R words r bs₁ k p₁
  going_on {i} {v} {bs₁} {p₁} e k n l =
      let q : Run = take (rules_at bs) words i v (running S bs p) in
      let proper : Proper (kind_at S bs) (read S bs) = g.held.proper in
      let a : Takable (top_at bs) (read S bs) i v = taking-of (read S bs) p.queue i v proper g.holds e in
      let h : SameEdges (kind_at S bs) (read S bs) q.state = take-kept words i v (running S bs p) proper g.ordered a.inside a.rank a.level in
      let m : (q.draws ≤ cap S largest_draws left + suc S.most) × (q.falls ≤ suc p.tally.falls) =
      take-room words i v (running S bs p) proper g.ordered a.inside a.rank a.level (omega (arith, g.lent)) (omega (arith, g.draws)) in
      let ahead : SameRun (settle_in R words k (take R words i v (running S bs p))) (settle R words r) → SameRun (settle_in R words k q) (settle R words r) =
      subst (λ (Q : Rules). SameRun (settle_in R words k (take Q words i v (running S bs p))) (settle R words r)) (sym g.same) in
      let s : SameRun (running S bs₁ p₁) q = left-run l h.proper in
      record {
        held = held_of bs₁ q.state l.rack h.proper;
        same = rules-as bs₁ q.state l.rack h.proper ∙ g.same;
        ordered = subst Ordered (sym s.state) h.ordered;
        holds = subst (HoldsWaiting p₁.queue) (sym s.state) l.holds;
        ahead = same_then (settle-same R words k (running S bs₁ p₁) q s) (ahead (rw (n, settle_step R words k i v (running S bs p) (same-pick e)) at g.ahead));
        lent = room-others S largest_draws left k (length words) (length words) g.lent n (omega (arith, g.lent));
        draws = room-others S largest_draws left k p.tally.draws p₁.tally.draws g.draws n (omega (arith, l.draws, m.0));
        falls = room-others S largest_falls left k p.tally.falls p₁.tally.falls g.falls n (omega (arith, l.falls, m.1, g.falls));
      }
