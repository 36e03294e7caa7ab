-- A change at level 0: whoever is drawn there is free, so that nobody comes to wait, and whoever falls from there has no neighbour to scan. So those
-- who wait at level 0 make a new pair each at most: a rise to level 0 makes one, and a pair parted there two at most. Assumes nothing.
use mathlib.Core.Path.{◌≡◌, refl, sym, ap}
use mathlib.Core.Logic.{inl, inr}
use mathlib.Core.Bool.{Bool}
use mathlib.Core.List.{List, [], ◌∷◌}
use Prim.Native.Nat.{ℕ, zero, suc, ◌+◌, ◌*◌, ◌≤◌, ◌<◌}
use native.Mathlib.Omega.{arith}
use lib.ListN.{length}
use Rattle.model.specs.Lists.{Mem}
use Rattle.model.specs.Counting.{listed, upd}
use Rattle.model.specs.State.{State, Rules}
use Rattle.model.specs.Moves.{Run, Found, none, found, without, leave, join, parting, chosen, drawn, draw, lifted, promote, hand_over, handed, fall, scan, scan_from, take, pick, settle_in, settle}
use Rattle.model.specs.Change.{start, start_parted}
use Rattle.model.proofs.Tests.{eq?, le?}
use Rattle.model.proofs.Counting.{count-le}
use Rattle.model.proofs.Lists.{listed-length, without-yes, without-no}
use Rattle.theory.proofs.Marks.{marks, Setting, rules, Simple, near_in, below_in, Inv}
use Rattle.theory.proofs.Invariant.{Draws, low_free}
use Rattle.theory.proofs.Arrivals.{parting-free}
use Rattle.theory.proofs.Queues.{queue-whole}
use Rattle.theory.proofs.Fits.{Fits, hand-fits, handed-near}
use Rattle.theory.proofs.Runs.{Good, draws-of}
use Rattle.theory.proofs.Takings.{take-draws, take-falls, Highest, good-highest}
use Rattle.theory.proofs.Settling.{Turn, turn-of}

-- who leaves a queue makes it no longer, and shorter if it was there
without-most : (v : ℕ) (l : List ℕ) → length (without v l) ≤ length l
unfolding without
without-most v [] = omega arith
without-most v (w ∷ l) = elim (eq? w v) [
  | inl e ↦ rw (without-yes v w l e) (omega (arith, without-most v l))
  | inr d ↦ rw (without-no v w l d) (omega (arith, without-most v l))
]

without-less : (v : ℕ) (l : List ℕ) → Mem v l → length (without v l) < length l
without-less v [] m = absurd m
without-less v (w ∷ l) m = elim (eq? w v) [
  | inl e ↦ rw (without-yes v w l e) (omega (arith, without-most v l))
  | inr d ↦ rw (without-no v w l d) (elim m [ inl e ↦ absurd (d (sym e)) | inr k ↦ omega (arith, without-less v l k) ])
]

-- the new pairs so far, and those who wait at level 0
abbrev pub pairs_coming : Run → ℕ
pairs_coming r = length r.news + length (r.queues 0)

-- nothing to scan
scan-none : (R : Rules) (words : List ℕ) (i : ℕ) (l : List ℕ) (r : Run) → length l < 1 → scan R words i l r ≡ r
unfolding scan
scan-none R words i [] r h = refl
scan-none R words i (w ∷ l) r h = absurd (omega arith)

module _ (P : Setting) (E : Simple P.n P.edge) (pos : (j : ℕ) → 1 ≤ P.thr j) (words : List ℕ) where
  -- a draw at level 0 lets nobody wait
  draw-zero : {m : ℕ} {Q : List ℕ} (u : ℕ) (r : Run) → Inv P m Q (marks r.state) → Draws P 0 u (chosen words 0 u r) (marks r.state)
      → pairs_coming (draw words 0 u r) ≤ suc (pairs_coming r)
  unfolding draw drawn leave
  draw-zero u r I c =
      let y : ℕ = chosen words 0 u r in
      let e : parting r.state y r.queues ≡ leave y r.queues = parting-free r.state y r.queues (low_free I y c.low) in
      omega (arith, ap (λ (q : ℕ → List ℕ). length (q 0)) e, without-most y (r.queues 0))

  -- the riser, which was free, has drawn: one new pair, and nobody waits
  pub rise-zero : {m k : ℕ} {Q Q' : List ℕ} {P₀ : Setting} (u : ℕ) (s : State) → Inv P₀ k Q' (marks s) → s.rank u ≤ 0
      → Inv P m Q (marks (lifted 0 u (start s)).state) → Draws P 0 u (chosen words 0 u (lifted 0 u (start s))) (marks (lifted 0 u (start s)).state)
      → pairs_coming (promote words 0 u (start s)) ≤ 1
  unfolding promote start leave without
  rise-zero u s I l J c =
      let e : parting s u (λ j. []) ≡ leave u (λ j. []) = parting-free s u (λ j. []) (low_free I u l) in
      omega (arith, draw-zero u (lifted 0 u (start s)) J c, ap (λ (q : ℕ → List ℕ). length (q 0)) e)

  module _ (one : P.thr 0 ≡ 1) where
    -- a vertex that falls from level 0 owns no edge
    fallen-none : (v : ℕ) (s : State) → Fits P s → s.rank v ≡ 1 → below_in P (marks s) v 0 < P.thr 0
        → length (listed ((hand_over 0 v s).owns v) s.n) < 1
    unfolding below_in
    fallen-none v s F lv h =
        let o : ℕ → Bool = (hand_over 0 v s).owns v in
        omega (
          arith,
          one,
          F.size,
          listed-length o s.n,
          count-le o (near_in P (marks s) v 0) P.n (λ w b t. (handed-near P E 0 v F lv w).0 t),
          ap (λ (k : ℕ). length (listed o k)) F.size,
          listed-length o P.n,
        )

    -- who is taken at level 0 waits no more, and makes one new pair or none
    take-zero : (v : ℕ) (r : Run) → Good P 1 [] r → v < P.n → r.state.mate v ≡ v → r.state.rank v ≡ 1
        → pairs_coming (take (rules P) words 0 v r) ≤ pairs_coming r
    unfolding fall hand_over scan_from leave join
    take-zero v r G b hv lv =
        let w : length (without v (r.queues 0)) < length (r.queues 0) = without-less v (r.queues 0) (queue-whole G.queued 0 v (b, (hv, lv))) in
        elim (le? (P.thr 0) (below_in P (marks r.state) v 0)) [
          | inl h ↦
              let F : Fits P (handed 0 v r).state = hand-fits P E 0 v G.fits lv in
              rw (take-draws P E pos words 0 v r G.fits lv h)
              (omega (arith, draw-zero v (handed 0 v r) G.inv (draws-of P E pos words 0 v (handed 0 v r) F hv lv (omega (arith, pos 0)))))
          | inr h ↦
              rw (
                take-falls P E pos words 0 v r G.fits lv h,
                scan-none (rules P) words 0 (listed ((hand_over 0 v r.state).owns v) r.state.n) (fall 0 v (handed 0 v r))
                    (fallen-none v r.state G.fits lv h),
              ) (omega arith)
        ]

    settle_in-zero : (f : ℕ) (r : Run) → Good P 1 [] r → length (settle_in (rules P) words f r).news ≤ pairs_coming r
    unfolding settle_in
    settle_in-zero zero r G = omega arith
    settle_in-zero (suc f) r G = go (settle_in-zero f) (pick (suc P.top) r.queues) (good-highest P r G (suc P.top))
      where
        go : ((r₁ : Run) → Good P 1 [] r₁ → length (settle_in (rules P) words f r₁).news ≤ pairs_coming r₁) → (x : Found) → Highest r.state (suc P.top) x
            → length (elim x as (λ y. Run) [ none ↦ r | found i v ↦ settle_in (rules P) words f (take (rules P) words i v r) ]).news ≤ pairs_coming r
        go ih none h = omega arith
        go ih (found zero v) h =
            let t : Turn P E pos words 1 0 v r = turn-of P E pos words 1 0 v r G h in
            omega (
              arith,
              ih (take (rules P) words 0 v r) t.taken.good,
              take-zero v r G (omega (arith, h.0, G.fits.size)) h.1.0 h.1.1.0,
            )
        go ih (found (suc i) v) h = absurd (omega (arith, (turn-of P E pos words 1 (suc i) v r G h).level))

    -- A settling at level 0: at most a new pair for each that waits.
    pub settle-zero : (r : Run) → Good P 1 [] r → length (settle (rules P) words r).news ≤ pairs_coming r
    unfolding settle
    settle-zero r G = settle_in-zero (r.state.n * suc P.top) r G

-- both ends of a pair parted at level 0 wait
pub parted-zero : (a b : ℕ) (s : State) → s.rank a ≡ 1 → s.rank b ≡ 1 → pairs_coming (start_parted a b s) ≤ 2
unfolding start_parted join upd
parted-zero a b s ea eb = rw (ea, eb) (omega arith)
