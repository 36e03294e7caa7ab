-- What each test of a sound rack says, as a fact about its bytes, and that it is that fact that is tested. Assumes nothing.
use mathlib.Core.Path.{◌≡◌, refl, sym, subst}
use mathlib.Core.Logic.{◌≢◌}
use mathlib.Core.Bool.{Bool, true, false, not, ◌&&◌, ◌||◌}
use mathlib.Core.List.{List}
use Prim.Native.Nat.{ℕ, suc, ◌+◌, ◌^◌, ◌≤◌, ◌<◌}
use native.Mathlib.Omega.{arith}
use lib.Dec.{T, leb, ltb, eqb, leb→le, le→leb, eqb→eq, not_T, T_not}
use lib.ListN.{get_or}
use Rattle.model.specs.Counting.{every}
use Rattle.model.specs.Shape.{Shape}
use Rattle.model.specs.State.{Kind, InRange, least_growth, most_growth, edge, edges}
use Rattle.model.specs.Bytes.{no_mate, size_at, edges_at, growth_at, top_at, kind_at, rank_at, mate_at, phi_at, owns_at, roster_at, read, phi_entry}
use Rattle.model.specs.Sound.{spare_zero, settings_good, unused, past_unused, past_unnamed, size_good, ranks_good, no_loop, owned_once, edges_right, phi_right, owner_high, mated, mates_good, free_low, phi_low, agree, rosters_right, rosters_clear, sound}
use Rattle.model.proofs.Tests.{eqb_yes, true-T, and_intro, and_left, and_right}
use Rattle.model.proofs.Counting.{every-all, all-every}

-- The test b says P: it passes exactly if P holds.
pub record Says (b : Bool) (P : Type 0) : Type 0 where
  pub fact : T b → P
  pub test : P → T b

pub eqb-says : (a b : ℕ) → Says (eqb a b) (a ≡ b)
eqb-says a b = record { fact = eqb→eq a b; test = λ p. true-T (eqb_yes a b p) }

pub leb-says : (a b : ℕ) → Says (leb a b) (a ≤ b)
leb-says a b = record { fact = leb→le a b; test = le→leb a b }

pub self_says : (b : Bool) → Says b (T b)
self_says b = record { fact = λ h. h; test = λ h. h }

pub not-says : {b : Bool} {P : Type 0} → Says b P → Says (not b) (P → ⊥)
not-says {b} f = record { fact = λ h k. T_not b h (f.test k); test = λ h. not_T b (λ t. h (f.fact t)) }

pub and-says : {a b : Bool} {P Q : Type 0} → Says a P → Says b Q → Says (a && b) (P × Q)
and-says {a} {b} f g = record {
  fact = λ h. (f.fact (and_left a b h), g.fact (and_right a b h));
  test = λ h. and_intro a b (f.test h.0) (g.test h.1);
}

-- an alternative says what holds where its first part does not
pub or-says : {a b : Bool} {P Q : Type 0} → Says a P → Says b Q → Says (a || b) ((P → ⊥) → Q)
or-says {a = true} f g = record { fact = λ h k. absurd (k (f.fact tt)); test = λ h. tt }
or-says {a = false} f g = record { fact = λ h k. g.fact h; test = λ h. g.test (h f.test) }

pub imp-says : {a b : Bool} {P Q : Type 0} → Says a P → Says b Q → Says (not a || b) (P → Q)
imp-says {a = true} f g = record { fact = λ h k. g.fact h; test = λ h. g.test (h (f.fact tt)) }
imp-says {a = false} f g = record { fact = λ h k. absurd (f.test k); test = λ h. tt }

pub agree-says : (a b : Bool) → Says (agree a b) (a ≡ b)
unfolding agree
agree-says true true = record { fact = λ h. refl; test = λ h. tt }
agree-says true false = record { fact = λ h. absurd h; test = λ h. subst T h tt }
agree-says false true = record { fact = λ h. absurd h; test = λ h. subst T (sym h) tt }
agree-says false false = record { fact = λ h. refl; test = λ h. tt }

pub past-says : (v n : ℕ) {b : Bool} {Q : Type 0} → Says b Q → Says (ltb v n || b) (n ≤ v → Q)
past-says v n g =
    let e = or-says (leb-says (suc v) n) g in
    record { fact = λ h k. e.fact h (λ l. omega arith); test = λ h. e.test (λ l. h (omega arith)) }

pub every-says : {p : ℕ → Bool} {P : ℕ → Type 0} (n : ℕ) → ((v : ℕ) → Says (p v) (P v)) → Says (every p n) ((v : ℕ) → v < n → P v)
every-says {p} n f = record { fact = λ h v l. (f v).fact (every-all p n h v l); test = λ h. all-every p n (λ v l. (f v).test (h v l)) }

-- the entry of a vertex that is none
pub record Unused (S : Shape) (bs : List ℕ) (v : ℕ) : Type 0 where
  pub rank : rank_at bs v ≡ 0
  pub mate : mate_at S bs v ≡ no_mate
  pub phi : (j : ℕ) → j < S.levels → phi_at S bs v j ≡ 0
  pub owns : (w : ℕ) → w < S.most → T (owns_at S bs v w) → ⊥

-- w is a right mate for v
pub record Mated (S : Shape) (bs : List ℕ) (v w : ℕ) : Type 0 where
  pub back : mate_at S bs w ≡ v
  pub linked : T (edge (read S bs) v w)
  pub level : rank_at bs w ≡ rank_at bs v

pub size_good-says : (S : Shape) (n : ℕ) → Says (size_good S n) ((1 ≤ n) × (n ≤ S.most))
unfolding size_good
size_good-says S n = and-says (leb-says 1 n) (leb-says n S.most)

pub settings_good-says : (K : Kind) → Says (settings_good K) (InRange K)
unfolding settings_good
settings_good-says K =
    let e = and-says (leb-says least_growth K.growth) (and-says (leb-says K.growth most_growth) (leb-says (suc K.top) K.shape.levels)) in
    record {
      fact = λ h. let u = e.fact h in record { least = u.0; most = u.1.0; room = u.1.1 };
      test = λ u. e.test (u.least, (u.most, u.room));
    }

module _ (S : Shape) (bs : List ℕ) where
  pub unused-says : (v : ℕ) → Says (unused S bs v) (Unused S bs v)
  unfolding unused
  unused-says v =
      let e = and-says (eqb-says (rank_at bs v) 0) (and-says (eqb-says (mate_at S bs v) no_mate) (and-says
      (every-says S.levels (λ j. eqb-says (phi_at S bs v j) 0)) (every-says S.most (λ w. not-says (self_says (owns_at S bs v w)))))) in
      record {
        fact = λ h. let u = e.fact h in record { rank = u.0; mate = u.1.0; phi = u.1.1.0; owns = u.1.1.1 };
        test = λ u. e.test (u.rank, (u.mate, (u.phi, u.owns)));
      }

  pub mated-says : (v w : ℕ) → Says (mated S bs v w) (Mated S bs v w)
  unfolding mated
  mated-says v w =
      let e = and-says (eqb-says (mate_at S bs w) v) (and-says (self_says (edge (read S bs) v w)) (eqb-says (rank_at bs w) (rank_at bs v))) in
      record {
        fact = λ h. let u = e.fact h in record { back = u.0; linked = u.1.0; level = u.1.1 };
        test = λ u. e.test (u.back, (u.linked, u.level));
      }

  -- a test in each line of document 01's list
  pub spare_zero-says : Says (spare_zero S bs) ((k : ℕ) → k < S.spare → get_or bs (6 + k) 0 ≡ 0)
  unfolding spare_zero
  spare_zero-says = every-says S.spare (λ k. eqb-says (get_or bs (6 + k) 0) 0)

  pub past_unused-says : Says (past_unused S bs) ((v : ℕ) → v < S.most → size_at bs ≤ v → Unused S bs v)
  unfolding past_unused
  past_unused-says = every-says S.most (λ v. past-says v (size_at bs) (unused-says v))

  pub past_unnamed-says : Says (past_unnamed S bs) ((v : ℕ) → v < S.most → (w : ℕ) → w < S.most → size_at bs ≤ w → T (owns_at S bs v w) → ⊥)
  unfolding past_unnamed
  past_unnamed-says = every-says S.most (λ v. every-says S.most (λ w. past-says w (size_at bs) (not-says (self_says (owns_at S bs v w)))))

  pub ranks_good-says : Says (ranks_good bs) ((v : ℕ) → v < size_at bs → rank_at bs v ≤ suc (top_at bs))
  unfolding ranks_good
  ranks_good-says = every-says (size_at bs) (λ v. leb-says (rank_at bs v) (suc (top_at bs)))

  pub no_loop-says : Says (no_loop S bs) ((v : ℕ) → v < size_at bs → T (owns_at S bs v v) → ⊥)
  unfolding no_loop
  no_loop-says = every-says (size_at bs) (λ v. not-says (self_says (owns_at S bs v v)))

  pub owned_once-says : Says (owned_once S bs)
      ((v : ℕ) → v < size_at bs → (w : ℕ) → w < size_at bs → (T (owns_at S bs v w) × T (owns_at S bs w v)) → ⊥)
  unfolding owned_once
  owned_once-says =
      every-says (size_at bs) (λ v. every-says (size_at bs) (λ w. not-says (and-says (self_says (owns_at S bs v w)) (self_says (owns_at S bs w v)))))

  pub edges_right-says : Says (edges_right S bs) (edges_at S bs ≡ edges (read S bs))
  unfolding edges_right
  edges_right-says = eqb-says (edges_at S bs) (edges (read S bs))

  pub phi_right-says : Says (phi_right S bs) ((v : ℕ) → v < size_at bs → (j : ℕ) → j < S.levels → phi_at S bs v j ≡ phi_entry (read S bs) v j)
  unfolding phi_right
  phi_right-says = every-says (size_at bs) (λ v. every-says S.levels (λ j. eqb-says (phi_at S bs v j) (phi_entry (read S bs) v j)))

  pub owner_high-says : Says (owner_high S bs)
      ((v : ℕ) → v < size_at bs → (w : ℕ) → w < size_at bs → T (owns_at S bs v w) → rank_at bs w ≤ rank_at bs v)
  unfolding owner_high
  owner_high-says =
      every-says (size_at bs) (λ v. every-says (size_at bs) (λ w. imp-says (self_says (owns_at S bs v w)) (leb-says (rank_at bs w) (rank_at bs v))))

  pub mates_good-says : Says (mates_good S bs) ((v : ℕ) → v < size_at bs → mate_at S bs v ≢ no_mate → Mated S bs v (mate_at S bs v))
  unfolding mates_good
  mates_good-says = every-says (size_at bs) (λ v. or-says (eqb-says (mate_at S bs v) no_mate) (mated-says v (mate_at S bs v)))

  pub free_low-says : Says (free_low S bs)
      ((v : ℕ) → v < size_at bs → (mate_at S bs v ≡ no_mate → rank_at bs v ≡ 0) × (rank_at bs v ≡ 0 → mate_at S bs v ≡ no_mate))
  unfolding free_low
  free_low-says =
      every-says (size_at bs) (λ v. and-says
      (imp-says (eqb-says (mate_at S bs v) no_mate) (eqb-says (rank_at bs v) 0))
      (imp-says (eqb-says (rank_at bs v) 0) (eqb-says (mate_at S bs v) no_mate)))

  pub phi_low-says : Says (phi_low S bs) ((v : ℕ) → v < size_at bs → (j : ℕ) → j < suc (top_at bs) → phi_at S bs v j < growth_at bs ^ j)
  unfolding phi_low
  phi_low-says = every-says (size_at bs) (λ v. every-says (suc (top_at bs)) (λ j. leb-says (suc (phi_at S bs v j)) (growth_at bs ^ j)))

  pub rosters_right-says : Says (rosters_right S bs) ((v : ℕ) → v < size_at bs → (r : ℕ) → r < suc S.levels → roster_at S bs r v ≡ eqb (rank_at bs v) r)
  unfolding rosters_right
  rosters_right-says =
      every-says (size_at bs) (λ v. every-says (suc S.levels) (λ r. agree-says (roster_at S bs r v) (eqb (rank_at bs v) r)))

  pub rosters_clear-says : Says (rosters_clear S bs)
      ((r : ℕ) → r < suc S.levels → (v : ℕ) → v < S.most → size_at bs ≤ v → T (roster_at S bs r v) → ⊥)
  unfolding rosters_clear
  rosters_clear-says =
      every-says (suc S.levels) (λ r. every-says S.most (λ v. past-says v (size_at bs) (not-says (self_says (roster_at S bs r v)))))

-- all that is tested of a sound rack, in the order of the tests
pub record Facts (S : Shape) (bs : List ℕ) : Type 0 where
  pub spare : (k : ℕ) → k < S.spare → get_or bs (6 + k) 0 ≡ 0
  pub settings : InRange (kind_at S bs)
  pub unused : (v : ℕ) → v < S.most → size_at bs ≤ v → Unused S bs v
  pub unnamed : (v : ℕ) → v < S.most → (w : ℕ) → w < S.most → size_at bs ≤ w → T (owns_at S bs v w) → ⊥
  pub size : (1 ≤ size_at bs) × (size_at bs ≤ S.most)
  pub ranks : (v : ℕ) → v < size_at bs → rank_at bs v ≤ suc (top_at bs)
  pub no_loop : (v : ℕ) → v < size_at bs → T (owns_at S bs v v) → ⊥
  pub owned-once : (v : ℕ) → v < size_at bs → (w : ℕ) → w < size_at bs → (T (owns_at S bs v w) × T (owns_at S bs w v)) → ⊥
  pub edges : edges_at S bs ≡ edges (read S bs)
  pub phi : (v : ℕ) → v < size_at bs → (j : ℕ) → j < S.levels → phi_at S bs v j ≡ phi_entry (read S bs) v j
  pub owner-high : (v : ℕ) → v < size_at bs → (w : ℕ) → w < size_at bs → T (owns_at S bs v w) → rank_at bs w ≤ rank_at bs v
  pub mated : (v : ℕ) → v < size_at bs → mate_at S bs v ≢ no_mate → Mated S bs v (mate_at S bs v)
  pub free-low : (v : ℕ) → v < size_at bs → (mate_at S bs v ≡ no_mate → rank_at bs v ≡ 0) × (rank_at bs v ≡ 0 → mate_at S bs v ≡ no_mate)
  pub phi-low : (v : ℕ) → v < size_at bs → (j : ℕ) → j < suc (top_at bs) → phi_at S bs v j < growth_at bs ^ j
  pub rosters : (v : ℕ) → v < size_at bs → (r : ℕ) → r < suc S.levels → roster_at S bs r v ≡ eqb (rank_at bs v) r
  pub clear : (r : ℕ) → r < suc S.levels → (v : ℕ) → v < S.most → size_at bs ≤ v → T (roster_at S bs r v) → ⊥

both : {P Q : Type 0} → P → Q → P × Q
both p q = (p, q)

pub sound-says : (S : Shape) (bs : List ℕ) → Says (sound S bs) (Facts S bs)
unfolding sound
sound-says S bs =
    let e =
    and-says (spare_zero-says S bs) (and-says (settings_good-says (kind_at S bs)) (and-says (past_unused-says S bs) (and-says (past_unnamed-says S bs) (and-says (size_good-says S (size_at bs))
    (and-says (ranks_good-says S bs) (and-says (no_loop-says S bs) (and-says (owned_once-says S bs) (and-says (edges_right-says S bs)
    (and-says (phi_right-says S bs) (and-says (owner_high-says S bs) (and-says (mates_good-says S bs) (and-says (free_low-says S bs)
    (and-says (phi_low-says S bs) (and-says (rosters_right-says S bs) (rosters_clear-says S bs))))))))))))))) in
    record {
      fact = λ h.
          let a = e.fact h in
          let b = a.1.1.1.1.1 in
          let c = b.1.1.1.1 in
          record {
            spare = a.0;
            settings = a.1.0;
            unused = a.1.1.0;
            unnamed = a.1.1.1.0;
            size = a.1.1.1.1.0;
            ranks = b.0;
            no_loop = b.1.0;
            owned-once = b.1.1.0;
            edges = b.1.1.1.0;
            phi = c.0;
            owner-high = c.1.0;
            mated = c.1.1.0;
            free-low = c.1.1.1.0;
            phi-low = c.1.1.1.1.0;
            rosters = c.1.1.1.1.1.0;
            clear = c.1.1.1.1.1.1;
          };
      test = λ f. e.test (both f.spare (both f.settings (both f.unused (both f.unnamed (both f.size
          (both f.ranks (both f.no_loop (both f.owned-once (both f.edges
          (both f.phi (both f.owner-high (both f.mated (both f.free-low
          (both f.phi-low (both f.rosters f.clear)))))))))))))));
    }
