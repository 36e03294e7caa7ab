-- From run to run: what one run leaves is where the next begins, and the whole is the definition's. Assumes nothing.
use mathlib.Core.Path.{◌≡◌, refl, sym, ap, ◌∙◌, subst}
use mathlib.Core.Logic.{◌≢◌, inl, inr}
use mathlib.Core.List.{List, [], ◌∷◌}
use Prim.Native.Nat.{ℕ, suc, ◌-◌, ◌*◌, ◌≤◌, ◌<◌}
use native.Mathlib.Omega.{arith}
use lib.ListN.{length}
use Rattle.model.specs.Shape.{Shape}
use Rattle.model.specs.State.{Rules, State}
use Rattle.model.specs.Bytes.{rules_at, kind_at, top_at, read, write}
use Rattle.model.specs.Moves.{Run, part, promote, settle_in, settle}
use Rattle.model.specs.Change.{start, start_parted}
use Rattle.model.proofs.Tests.{le?}
use Rattle.theory.specs.Waiting.{marks, queues_in}
use Rattle.theory.proofs.Fits.{part-is}
use Rattle.theory.proofs.Takings.{pending-of}
use Rattle.theory.proofs.Arrivals.{queues-none}
use Rattle.theory.proofs.Queues.{none-waits, lift-paired}
use Rattle.theory.proofs.Waiting.{parted-lists, parted-queues}
use Rattle.moves.specs.Proper.{Proper, Ordered, Held}
use Rattle.moves.proofs.Held.{rules-as, held_of, reads_as}
use Rattle.moves.proofs.Keeps.{part-proper}
use Rattle.settling.specs.declared.tally.Tally.{Tally}
use Rattle.settling.specs.declared.progress.Progress.{Progress}
use Rattle.settling.specs.Settling.{running, HoldsWaiting, Room, Left}
use Rattle.settling.proofs.Steps.{SameEdges, promote-kept}
use Rattle.settling.proofs.News.{SameRun, same_then, promote-same, promote-room, promote-falls}
use Rattle.settling.proofs.Written.{levels-as, left-run}
use Rattle.settling.proofs.SettleLoop.{settle-same}
use Rattle.changes.specs.Sounded.{Begun, Liftable, Ended}

-- a tally of nothing, and a progress of nothing: nobody waits
abbrev pub Fresh : Tally → Type 0
Fresh t = (t.draws ≡ 0) × (t.falls ≡ 0)

abbrev pub Unbegun : Progress → Type 0
Unbegun p = (p.queue ≡ []) × (p.tally.draws ≡ 0) × (p.tally.falls ≡ 0)

-- where nothing is pending, every free vertex has rank 0
pub free-low : {S : Shape} {bs : List ℕ} → Begun S bs → (v : ℕ) → (read S bs).mate v ≡ v → (read S bs).rank v ≤ 0
free-low {S} {bs} g v h = elim (le? ((read S bs).rank v) 0) [
  | inl z ↦ z
  | inr z ↦ absurd (g.still v ((read S bs).rank v - 1) (pending-of (read S bs) ((read S bs).rank v - 1) v h (omega arith)))
]

pub none-waiting : {S : Shape} {bs : List ℕ} {p : Progress} → Unbegun p → Begun S bs → HoldsWaiting p.queue (read S bs)
none-waiting {S} {bs} {p} z b = record { lists = rw z.0 (none-waits (read S bs).n (marks (read S bs)) (free-low b)); paired = b.paired }

-- nothing begins a run
pub begins : (S : Shape) (bs : List ℕ) {p : Progress} → Unbegun p → SameRun (running S bs p) (start (read S bs))
unfolding start
begins S bs {p} z = record {
  state = refl;
  queues = ap (queues_in (read S bs).rank) z.0 ∙ queues-none (read S bs).rank;
  draws = z.1;
  falls = z.2;
}

-- the settling begins at bs and p, where r has come
pub record Onward (S : Shape) (R : Rules) (words : List ℕ) (r : Run) (bs : List ℕ) (p : Progress) : Type 0 where
  pub held : Held S bs
  pub rules : rules_at bs ≡ R
  pub ordered : Ordered (read S bs)
  pub holds : HoldsWaiting p.queue (read S bs)
  pub room : Room (suc (length words)) 0 p.tally
  pub same : SameRun (running S bs p) r

-- what is left of a run is left of any that differs in its new pairs alone
ran-of : {r q : Run} {bs : List ℕ} {p : Progress} → Left r bs p → SameRun r q → Ended q bs p.tally
ran-of l s = record { rack = l.rack ∙ ap write s.state; draws = l.draws ∙ s.draws; falls = l.falls ∙ s.falls }

-- the settling has no eye for new pairs
settled_same : (R : Rules) (words : List ℕ) {r q : Run} → SameRun r q → SameRun (settle R words r) (settle R words q)
unfolding settle
settled_same R words {r} {q} s =
    subst (λ (f : ℕ). SameRun (settle_in R words (r.state.n * suc R.top) r) (settle_in R words f q))
    (ap (λ (x : State). x.n * suc R.top) s.state) (settle-same R words (r.state.n * suc R.top) r q s)

-- what the settling leaves is left of the whole
pub settled_on : {S : Shape} {R : Rules} (words : List ℕ) {r : Run} {bs bs' : List ℕ} {p p' : Progress} → Onward S R words r bs p
    → Left (settle (rules_at bs) words (running S bs p)) bs' p' → Ended (settle R words r) bs' p'.tally
settled_on {S} {R} words {r} {bs} {bs'} {p} {p'} n l =
    ran-of (subst (λ (Q : Rules). Left (settle Q words (running S bs p)) bs' p') n.rules l) (settled_same R words n.same)

-- after the riser's promotion
pub promoted-next : {S : Shape} (words : List ℕ) (i u : ℕ) {bs₀ : List ℕ} (p₀ : Progress) → Begun S bs₀ → Liftable (top_at bs₀) (read S bs₀) i u
    → Unbegun p₀ → {bs : List ℕ} {p : Progress} → Left (promote words i u (running S bs₀ p₀)) bs p
    → Onward S (rules_at bs₀) words (promote words i u (start (read S bs₀))) bs p
promoted-next {S} words i u {bs₀} p₀ b m z {bs} {p} l =
    let r : Run = promote words i u (running S bs₀ p₀) in
    let k : SameEdges (kind_at S bs₀) (read S bs₀) r.state =
    promote-kept words i u (running S bs₀ p₀) b.held.proper b.ordered m.inside m.level m.low m.some in
    let s : SameRun (running S bs p) r = left-run l k.proper in
    record {
      held = held_of bs r.state l.rack k.proper;
      rules = rules-as bs r.state l.rack k.proper;
      ordered = subst Ordered (sym s.state) k.ordered;
      holds = subst (HoldsWaiting p.queue) (sym s.state) l.holds;
      room = record {
        draws = omega (arith, l.draws, promote-room words i {b = length words} (omega arith) u (running S bs₀ p₀) (omega (arith, z.1)));
        falls = omega (arith, l.falls, promote-falls words i u (running S bs₀ p₀), z.2);
      };
      same = same_then s (promote-same words i u (begins S bs₀ z));
    }

-- Parting a and b, which are mates: first one joined the queue, then the other.
module _ {S : Shape} {bs : List ℕ} (g : Begun S bs) {a b : ℕ} (ends : (a < (read S bs).n) × (b < (read S bs).n) × (a ≢ b) × ((read S bs).mate a ≡ b)) where
  -- where the parting leaves the run
  pub parted-next : (words : List ℕ) {p : Progress} → (p.queue ≡ a ∷ b ∷ []) × Fresh p.tally → {bs' : List ℕ} → bs' ≡ write (part a (read S bs))
      → Onward S (rules_at bs) words (start_parted a b (read S bs)) bs' p
  unfolding start_parted part
  parted-next words {p} z {bs'} e =
      let lists = parted-lists g.paired (free-low g) (part-is a (read S bs)) ends.0 ends.1 ends.2 ends.3 in
      let proper : Proper (kind_at S bs) (part a (read S bs)) = part-proper (read S bs) g.held.proper a ends.0 in
      let r : read S bs' ≡ part a (read S bs) = reads_as bs' (part a (read S bs)) e proper in
      record {
        held = held_of bs' (part a (read S bs)) e proper;
        rules = rules-as bs' (part a (read S bs)) e proper;
        ordered = subst Ordered (sym r) g.ordered;
        holds = subst (HoldsWaiting p.queue) (sym r) (record { lists = rw z.0 lists; paired = lift-paired g.paired (part-is a (read S bs)) ends.0 });
        room = record { draws = omega (arith, z.1); falls = omega (arith, z.1) };
        same = record {
          state = r;
          queues = levels-as p.queue r ∙ ap (queues_in (part a (read S bs)).rank) z.0
              ∙ sym (parted-queues g.paired (free-low g) (part-is a (read S bs)) ends.0 ends.1 ends.2 ends.3);
          draws = z.1.0;
          falls = z.1.1;
        };
      }
