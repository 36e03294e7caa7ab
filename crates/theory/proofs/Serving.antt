-- Who is taken: at each taking of every accepted change of a valid state, the one that has waited longest of those on the highest level at
-- which anybody waits. Assumes nothing.
use mathlib.Core.Path.{◌≡◌, refl, sym, ap, ◌∙◌}
use mathlib.Core.List.{List, [], ◌∷◌}
use Prim.Native.Nat.{ℕ, zero, suc, ◌≤◌}
use native.Mathlib.Omega.{arith}
use Rattle.model.specs.State.{Rules, State, edge}
use Rattle.model.specs.Valid.{Valid}
use Rattle.model.specs.Moves.{Run, Found, none, found, pick}
use Rattle.model.specs.Change.{Change, early}
use Rattle.theory.specs.Waiting.{marks}
use Rattle.theory.specs.Serving.{Settles, Through, Served}
use Rattle.theory.proofs.Marks.{Setting, setting, rejoin}
use Rattle.theory.proofs.Arrivals.{rank-once}
use Rattle.theory.proofs.Queues.{queue-only, queue-whole}
use Rattle.theory.proofs.Runs.{Good}
use Rattle.theory.proofs.Takings.{Highest, good-highest}
use Rattle.theory.proofs.OnTheWay.{OnTheWay, on-the-way}

-- the pick is the first of a queue
pick_first : (m : ℕ) (q : ℕ → List ℕ) (i v : ℕ) → pick m q ≡ found i v → (l : List ℕ) × (q i ≡ v ∷ l)
unfolding pick
pick_first zero q i v e = absurd (nowhere e)
  where
    nowhere : none ≡ found i v → ⊥
    nowhere e = let z : ◌≡◌ {A = ℕ} 0 1 = cc in omega arith
pick_first (suc j) q i v e = go (pick_first j q i v) (q j) refl e
  where
    go : (pick j q ≡ found i v → (l : List ℕ) × (q i ≡ v ∷ l)) → (k : List ℕ) → q j ≡ k
        → elim k as (λ y. Found) [ [] ↦ pick j q | w ∷ l ↦ found j w ] ≡ found i v → (l : List ℕ) × (q i ≡ v ∷ l)
    go ih [] p e = ih e
    go ih (w ∷ l) p e =
        let a : j ≡ i = cc e in
        let b : w ≡ v = cc e in
        (l, ap q (sym a) ∙ p ∙ ap (λ (x : ℕ). x ∷ l) b)

-- a run in order serves who has waited longest
good-serves : (P : Setting) {m : ℕ} (r : Run) → Good P m [] r → Served P.n (marks r.state) r.queues (pick (suc P.top) r.queues)
good-serves P r G = go (pick (suc P.top) r.queues) refl (good-highest P r G (suc P.top))
  where
    go : (x : Found) → pick (suc P.top) r.queues ≡ x → Highest r.state (suc P.top) x → Served P.n (marks r.state) r.queues x
    go none e h = λ v w. omega (arith, h v (omega (arith, w.0, G.fits.size)) w.1.0 (G.inv.ranks v), w.1.1)
    go (found i v) e h =
        let f = pick_first (suc P.top) r.queues i v e in
        record {
          waits = (omega (arith, h.0, G.fits.size), (h.1.0, h.1.1.0));
          highest = λ w a. h.1.1.1 w (omega (arith, a.0, G.fits.size)) a.1.0 (G.inv.ranks w);
          queue = record {
            once = rw (ap (λ (p : ℕ → List ℕ). p i) G.queued.queues) (rank-once r.state.rank (suc i) G.queued.all G.queued.lists.once);
            only = queue-only G.queued i;
            whole = queue-whole G.queued i;
          };
          rest = f.0;
          first = f.1;
        }

-- Every change of a valid state that none of 7 to 11 fits, so every accepted one, whatever its words are.
pub who-is-taken : (R : Rules) → ((j : ℕ) → 1 ≤ R.thr j) → (s : State) → Valid R s → (c : Change) → early s.n (edge s) c ≡ 0
    → (r t : Run) → Settles R s c r → Through R c.words r t → Served s.n (marks t.state) t.queues (pick (suc R.top) t.queues)
who-is-taken R pos s H c z r t S way =
    let W : OnTheWay R s t = on-the-way R pos s H c z r t S way in
    good-serves (rejoin (setting R s) W.there) t W.good
