-- The scan's loop on bytes: it goes along v's row while the visits change it, and does what the definition does. Assumes nothing.
use mathlib.Core.Path.{◌≡◌, refl, sym, ap, ◌∙◌, subst}
use mathlib.Core.Logic.{inl, inr}
use mathlib.Core.Bool.{Bool}
use mathlib.Core.List.{List}
use Prim.Native.Nat.{ℕ, suc, ◌+◌, ◌*◌, ◌^◌, ◌≤◌, ◌<◌}
use native.Mathlib.Omega.{arith}
use lib.Dec.{T}
use lib.ListN.{length}
use Rattle.model.specs.Shape.{Shape}
use Rattle.model.specs.State.{Rules, State}
use Rattle.model.specs.Bytes.{rules_at, kind_at, growth_at, top_at, owns_at, read}
use Rattle.model.specs.Moves.{Run, scan_from}
use Rattle.model.proofs.Tests.{le?}
use Rattle.theory.proofs.Loops.{scan_upto, scan_from-loop}
use Rattle.layout.specs.Setters.{Sized}
use Rattle.layout.specs.declared.walk.Cursor.{Cursor}
use Rattle.layout.specs.Walks.{place_of, Here, Stands, Further}
use Rattle.layout.proofs.Walks.{row-whole, until, until-low, until-high, further}
use Rattle.layout.proofs.Reached.{place-small}
use Rattle.moves.specs.Proper.{Ordered, Held, RowBelow}
use Rattle.moves.proofs.Held.{top-as, rules-as, reads_as, held_of, held-good, held-few, held-sized, held-owns, held_small}
use Rattle.settling.specs.Settling.{running, HoldsWaiting, Left, visited, draw_limit, take_limit}
use Rattle.settling.specs.declared.progress.Progress.{Progress}
use Rattle.settling.proofs.Steps.{SameEdges}
use Rattle.settling.proofs.Written.{left-same, left-run}
use Rattle.settling.proofs.News.{visited-same, upto-none, upto-yes, upto-room}
use Rattle.settling.proofs.Live.{scanned-kept, scanned-live, scanned-less, scanned-over}

-- where the scan begins: v's row holds exactly its neighbours below level i
pub record ScanFrom (S : Shape) (i v : ℕ) (bs₀ : List ℕ) : Type 0 where
  pub held : Held S bs₀
  pub ordered : Ordered (read S bs₀)
  pub inside : v < (read S bs₀).n
  pub level : i ≤ top_at bs₀
  pub row : RowBelow i v (read S bs₀)

-- what a visit asks of the bytes, their state, and the queue and the tally
abbrev pub Visits : Shape → List ℕ → ℕ → ℕ → ℕ → Progress → State → Type 0
Visits S b i w bar p s =
    (Held S b × Ordered s)
    × (((w < s.n) × (i ≤ top_at b) × (bar ≡ growth_at b ^ i)) × (HoldsWaiting p.queue s × (p.tally.draws ≤ draw_limit)))

-- where the loop stands: the vertices below `from` are done, and c goes on from there. It sees vertices of the first row alone, and all that
-- are still in the row.
pub record Scanning (S : Shape) (words : List ℕ) (i v : ℕ) (bs₀ : List ℕ) (p₀ : Progress) (bs : List ℕ) (p : Progress) (c : Cursor) : Type 0 where
  pub from : ℕ
  pub within : from ≤ (read S bs₀).n
  pub left : Left (scan_upto (rules_at bs₀) words i ((read S bs₀).owns v) from (running S bs₀ p₀)) bs p
  pub seen : ℕ → Bool
  pub stands : Stands S.most seen from c
  pub only : (x : ℕ) → x < S.most → T (seen x) → T ((read S bs₀).owns v x)
  pub all : (x : ℕ) → from ≤ x → T ((read S bs).owns v x) → T (seen x)

module _ {S : Shape} (words : List ℕ) {i v : ℕ} {bs₀ : List ℕ} (p₀ : Progress) (a : ScanFrom S i v bs₀) where
  -- the run after the turns of the vertices below w
  done : ℕ → Run
  done w = scan_upto (rules_at bs₀) words i ((read S bs₀).owns v) w (running S bs₀ p₀)

  done-kept : (w : ℕ) → SameEdges (kind_at S bs₀) (read S bs₀) (done w).state
  unfolding done
  done-kept w = scanned-kept words i v (running S bs₀ p₀) a.held.proper a.ordered a.level a.row w

  done-reads : (w : ℕ) {bs : List ℕ} {p : Progress} → Left (done w) bs p → read S bs ≡ (done w).state
  done-reads w {bs} l = reads_as bs (done w).state l.rack (done-kept w).proper

  done_held : (w : ℕ) {bs : List ℕ} {p : Progress} → Left (done w) bs p → Held S bs
  done_held w {bs} l = held_of bs (done w).state l.rack (done-kept w).proper

  -- the settings stay
  done-top : (w : ℕ) {bs : List ℕ} {p : Progress} → Left (done w) bs p → top_at bs ≡ top_at bs₀
  done-top w {bs} l = top-as bs (done w).state l.rack (done-kept w).proper

  done-rules : (w : ℕ) {bs : List ℕ} {p : Progress} → Left (done w) bs p → rules_at bs ≡ rules_at bs₀
  done-rules w {bs} l = rules-as bs (done w).state l.rack (done-kept w).proper

  v-small : v < S.most
  v-small = held_small a.held v a.inside

  pub scan-starts : {c : Cursor} → HoldsWaiting p₀.queue (read S bs₀) → Stands S.most (owns_at S bs₀ v) 0 c → Scanning S words i v bs₀ p₀ bs₀ p₀ c
  scan-starts h s = record {
    from = 0;
    within = omega arith;
    left = subst (λ (r : Run). Left r bs₀ p₀) (sym (upto-none (rules_at bs₀) words i ((read S bs₀).owns v) (running S bs₀ p₀)))
        (record { rack = a.held.written; queues = refl; draws = refl; falls = refl; holds = h });
    seen = owns_at S bs₀ v;
    stands = s;
    only = λ x l t. subst T (held-owns a.held v x v-small l) t;
    all = λ x l t. subst T (sym (held-owns a.held v x v-small (held_small a.held x (a.held.proper.inside v x t).1))) t;
  }

  module _ {bs : List ℕ} {p : Progress} {c : Cursor} (g : Scanning S words i v bs₀ p₀ bs p c) where
    -- the bytes are a rack's all along
    pub scanning-sized : Sized S bs
    unfolding done
    scanning-sized = held-sized (done_held g.from g.left)

    -- up to where the row has none the turns change nothing
    over : (w : ℕ) → g.from ≤ w → ((x : ℕ) → g.from ≤ x → x < w → T (g.seen x) → ⊥) → Left (done w) bs p
    unfolding done
    over w l none =
        let e : read S bs ≡ (done g.from).state = done-reads g.from g.left in
        subst (λ (r : Run). Left r bs p)
        (sym (scanned-over words i v (running S bs₀ p₀) a.held.proper a.ordered a.level a.row g.from w l
        (λ x b d o. none x b d (g.all x b (subst (λ (s : State). T (s.owns v x)) (sym e) o))))) g.left

    module _ (some : 0 < c.rest) where
      -- the vertex whose turn it is, one of the first row
      turn : ℕ
      turn = place_of c.word c.rest

      here : Here S.most g.seen g.from c
      here = g.stands.here some

      turn-owned : T ((read S bs₀).owns v turn)
      unfolding turn
      turn-owned = g.only turn (place-small (row-whole (held-good a.held)) some here) here.is

      turn_inside : turn < (read S bs₀).n
      turn_inside = (a.held.proper.inside v turn turn-owned).1

      turn-left : Left (done turn) bs p
      unfolding turn
      turn-left = over turn here.after here.none

      -- what the visit asks
      pub scan-visits : {w bar : ℕ} → w ≡ place_of c.word c.rest → bar ≡ growth_at bs₀ ^ i → p₀.tally.draws ≤ take_limit S → length words ≤ take_limit S
          → Visits S bs i w bar p (read S bs)
      unfolding done turn
      scan-visits {w} {bar} e b d lent =
          let q : SameEdges (kind_at S bs₀) (read S bs₀) (done turn).state = done-kept turn in
          let m = upto-room words i (rules_at bs₀) ((read S bs₀).owns v) turn (running S bs₀ p₀) lent d in
          subst (Visits S bs i w bar p)
          (sym (done-reads turn turn-left)) (
            (done_held turn turn-left, q.ordered),
            (
              (
                omega (arith, e, q.size, turn_inside),
                omega (arith, a.level, done-top turn turn-left),
                b ∙ sym (ap (λ (R : Rules). R.thr i) (done-rules turn turn-left)),
              ),
              (turn-left.holds, omega (arith, turn-left.draws, turn_inside, held-few a.held, (held-good a.held).named)),
            ),
          )

      -- after the visit
      module _ {w : ℕ} (e : w ≡ place_of c.word c.rest) {bs' : List ℕ} {p' : Progress}
          (l : Left (visited (rules_at bs) words i w (running S bs p)) bs' p') where
        visited-left : Left (done (suc turn)) bs' p'
        unfolding done turn
        visited-left =
            subst (λ (r : Run). Left r bs' p') (sym (upto-yes (rules_at bs₀) words i ((read S bs₀).owns v) turn (running S bs₀ p₀) turn-owned))
            (left-same (visited-same (rules_at bs₀) words i turn (left-run turn-left (done-kept turn).proper))
            (subst (λ (x : ℕ). Left (visited (rules_at bs₀) words i x (running S bs p)) bs' p') e
            (subst (λ (R : Rules). Left (visited R words i w (running S bs p)) bs' p') (done-rules turn turn-left) l)))

        -- who is in the row after the visit was in it before, and so in the first row
        still : (x : ℕ) → T ((read S bs').owns v x) → T ((read S bs).owns v x) × T ((read S bs₀).owns v x)
        unfolding done
        still x o =
            let n : T ((done turn).state.owns v x) =
            scanned-less words i v (running S bs₀ p₀) a.held.proper a.ordered a.level a.row turn x
            (subst (λ (s : State). T (s.owns v x)) (done-reads (suc turn) visited-left) o) in (
              subst (λ (s : State). T (s.owns v x)) (sym (done-reads turn turn-left)) n,
              (scanned-live words i v (running S bs₀ p₀) a.held.proper a.ordered a.level a.row turn).from x n,
            )

        pub scan-sized : Sized S bs'
        scan-sized = held-sized (done_held (suc turn) visited-left)

        pub scan-again : {c' : Cursor} → Further S.most (owns_at S bs' v) c c' → Scanning S words i v bs₀ p₀ bs' p' c'
        unfolding done turn
        scan-again {c'} f =
            let end : ℕ = 64 * c.word + 64 in
            let h : Held S bs' = done_held (suc turn) visited-left in
            let now : (x : ℕ) → x < S.most → owns_at S bs' v x ≡ (read S bs').owns v x = λ x b. held-owns h v x v-small b in
            record {
              from = suc turn;
              within = turn_inside;
              left = visited-left;
              seen = until end g.seen (owns_at S bs' v);
              stands = further (row-whole (held-good a.held)) some here f;
              only = λ x b o. elim (le? end x) [
                | inl k ↦ (still x (subst T (until-high end g.seen (owns_at S bs' v) x k ∙ now x b) o)).1
                | inr k ↦ g.only x b (subst T (until-low end g.seen (owns_at S bs' v) x k) o)
              ];
              all = λ x b o. elim (le? end x) [
                | inl k ↦ subst T (sym (until-high end g.seen (owns_at S bs' v) x k ∙ now x (held_small h x (h.proper.inside v x o).1))) o
                | inr k ↦ subst T (sym (until-low end g.seen (owns_at S bs' v) x k)) (g.all x (omega (arith, here.after)) (still x o).0)
              ];
            }

    pub scan-ends : c.rest ≡ 0 → Left (scan_from (rules_at bs₀) words i v (running S bs₀ p₀)) bs p
    unfolding done
    scan-ends z =
        subst (λ (r : Run). Left r bs p) (sym (scan_from-loop (rules_at bs₀) words i v (running S bs₀ p₀)))
        (over (read S bs₀).n g.within (λ x b d. g.stands.ended z x b (omega (arith, held-few a.held))))
