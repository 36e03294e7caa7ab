-- The parts of the audit, together: they are the facts of a sound rack, both ways. Assumes nothing.
use mathlib.Core.Path.{◌≡◌, sym, ap, ◌∙◌, subst}
use mathlib.Core.Logic.{inl, inr}
use mathlib.Core.Bool.{Bool}
use mathlib.Core.List.{List}
use Prim.Native.Nat.{ℕ, suc, ◌+◌, ◌^◌, ◌≤◌, ◌<◌}
use native.Mathlib.Omega.{arith}
use lib.Dec.{T, eqb→eq}
use lib.ListN.{get_or}
use Rattle.model.specs.Counting.{sum}
use Rattle.model.specs.Shape.{Shape, GoodShape}
use Rattle.model.specs.State.{Kind, phi, edges}
use Rattle.model.specs.Bytes.{size_at, edges_at, growth_at, top_at, rank_at, phi_at, owns_at, read, phi_entry}
use Rattle.model.specs.Sound.{sound}
use Rattle.model.proofs.Tests.{le?, bool-ext}
use Rattle.model.proofs.Limits.{phi_entry-low, phi_entry-above}
use Rattle.model.proofs.Reading.{read-kind}
use Rattle.model.proofs.Facts.{Says, Unused, Facts, sound-says}
use Rattle.layout.specs.Rows.{degree_at, OwnsNoneFrom}
use Rattle.layout.proofs.Walks.{row-whole}
use Rattle.audit.specs.Tally.{tallied}
use Rattle.audit.specs.Parts.{Row, Settings, Count, Edges, Rosters, Mate}
use Rattle.audit.proofs.Phi.{phi-tallied, edges-owned}
use Rattle.audit.proofs.Enrolled.{enrolled-rank, enrolled-low, enrolled-right, enrolled-clear, enrolled-tested}

-- an answer that says the facts is the answer
pub answer : (S : Shape) (b : Bool) (bs : List ℕ) → Says b (Facts S bs) → b ≡ sound S bs
answer S b bs s =
    let e = sound-says S bs in
    bool-ext b (sound S bs) (λ t. e.test (s.fact t)) (λ t. s.test (e.fact t))

-- ---- from rows that are right

module _ (S : Shape) (bs : List ℕ)
    (few : size_at bs ≤ S.most)
    (ranks : (v : ℕ) → v < size_at bs → rank_at bs v ≤ S.levels)
    (rows : (v : ℕ) → v < size_at bs → Row S bs (size_at bs) v) where
  rows-within : (v : ℕ) → v < size_at bs → OwnsNoneFrom S bs v (size_at bs)
  rows-within v h = (rows v h).within

  -- an owner of the highest rank is as high as any
  rows-high : (v : ℕ) → v < size_at bs → (w : ℕ) → w < size_at bs → T (owns_at S bs v w) → rank_at bs w ≤ rank_at bs v
  rows-high v hv w hw o = elim (le? S.levels (rank_at bs v)) [
    | inl l ↦ omega (arith, ranks w hw)
    | inr l ↦ ((rows v hv).below l w (omega arith) o).high
  ]

  -- both bits of an edge are seen from an end of a rank below the highest, or from the higher number
  rows-once : (v : ℕ) → v < size_at bs → (w : ℕ) → w < size_at bs → T (owns_at S bs v w) → T (owns_at S bs w v) → ⊥
  rows-once v hv w hw o t = elim (le? S.levels (rank_at bs v)) [
    | inl l ↦ elim (le? S.levels (rank_at bs w)) [
      | inl k ↦ elim (le? w v) [ inl a ↦ (rows v hv).highest l w (omega arith) o t | inr a ↦ (rows w hw).highest k v (omega arith) t o ]
      | inr k ↦ ((rows w hw).below k v (omega arith) t).once o
    ]
    | inr l ↦ ((rows v hv).below l w (omega arith) o).once t
  ]

  pub rows-degrees : edges (read S bs) ≡ sum (degree_at S bs) (size_at bs)
  rows-degrees = edges-owned S bs few rows-within rows-high rows-once

  pub rows-phi : (v : ℕ) → v < size_at bs → (j : ℕ) → phi (read S bs) v j ≡ sum (tallied S bs (size_at bs) v) (suc j)
  rows-phi v h j = phi-tallied S bs few rows-within rows-high rows-once v j h

-- ---- the counts

-- The entries of the counts are what a tally says, where that has the counts themselves: each up to the top, and 0 above.
module _ (S : Shape) (bs : List ℕ) (v j total : ℕ) (is : phi (read S bs) v j ≡ total) where
  read-top : (read S bs).kind.top ≡ top_at bs
  read-top = ap (λ (K : Kind). K.top) (read-kind S bs)

  pub count-entry : Count S bs v j total → phi_at S bs v j ≡ phi_entry (read S bs) v j
  count-entry c = elim (le? j (top_at bs)) [
    | inl l ↦ c.right l ∙ sym is ∙ sym (phi_entry-low (read S bs) v j (omega (arith, read-top)))
    | inr a ↦ c.above a ∙ sym (phi_entry-above (read S bs) v j (omega (arith, read-top)))
  ]

  pub entry-count : phi_at S bs v j ≡ phi_entry (read S bs) v j → (j ≤ top_at bs → phi_at S bs v j < growth_at bs ^ j) → Count S bs v j total
  entry-count e low = record {
    right = λ l. e ∙ phi_entry-low (read S bs) v j (omega (arith, read-top)) ∙ is;
    low = low;
    above = λ a. e ∙ phi_entry-above (read S bs) v j (omega (arith, read-top));
  }

-- ---- both ways

module _ (S : Shape) (good : GoodShape S) (bs : List ℕ) where
  -- all parts, together
  pub whole : 1 ≤ size_at bs → size_at bs ≤ S.most → ((k : ℕ) → k < S.spare → get_or bs (6 + k) 0 ≡ 0)
      → ((v : ℕ) → v < S.most → size_at bs ≤ v → Unused S bs v) → Rosters S bs (size_at bs) → Edges S bs (size_at bs)
      → edges_at S bs ≡ sum (degree_at S bs) (size_at bs) → ((v : ℕ) → v < size_at bs → Mate S bs v) → Facts S bs
  whole some few spare unused r e right mates =
      let ranks = enrolled-rank few r in
      let rows = e.rows in
      record {
        spare = spare;
        settings = e.settings.range;
        unused = unused;
        unnamed = λ v h w k l. elim (le? (size_at bs) v) [ inl a ↦ (unused v h a).owns w k | inr a ↦ (rows v a).within w k l ];
        size = (some, few);
        ranks = enrolled-low few r e.settings;
        no_loop = λ v h o. rows-once S bs few ranks rows v h v h o o;
        owned-once = λ v h w k b. rows-once S bs few ranks rows v h w k b.0 b.1;
        edges = right ∙ sym (rows-degrees S bs few ranks rows);
        phi = λ v h j k. count-entry S bs v j _ (rows-phi S bs few ranks rows v h j) (e.counts v h j k);
        owner-high = rows-high S bs few ranks rows;
        mated = λ v h. (mates v h).mated;
        free-low = λ v h. ((mates v h).free, (mates v h).low);
        phi-low = λ v h j k. (e.counts v h j (omega (arith, e.settings.range.room))).low (omega arith);
        rosters = enrolled-right few r;
        clear = enrolled-clear few r;
      }

  -- and back
  module _ (f : Facts S bs) where
    pub facts-rows : (v : ℕ) → v < size_at bs → Row S bs (size_at bs) v
    facts-rows v h = record {
      within = none;
      below = λ _ w k o. record { high = f.owner-high v h w (named w k o) o; once = λ t. f.owned-once v h w (named w k o) (o, t) };
      highest = λ _ w k o t. f.owned-once v h w (named w (omega (arith, f.size.1, row-whole good)) o) (o, t);
    }
      where
        none : OwnsNoneFrom S bs v (size_at bs)
        none = f.unnamed v (omega (arith, f.size.1))

        named : (w : ℕ) → w < S.most → T (owns_at S bs v w) → w < size_at bs
        named w k o = elim (le? (size_at bs) w) [ inl a ↦ absurd (none w k a o) | inr a ↦ a ]

    facts-ranks : (v : ℕ) → v < size_at bs → rank_at bs v ≤ S.levels
    facts-ranks v h = omega (arith, f.ranks v h, f.settings.room)

    -- who is in a roster above the top is no vertex, or has a rank above it
    facts-settings : Settings S bs
    facts-settings = record {
      range = f.settings;
      empty = λ r l a v h t. elim (le? (size_at bs) v) [
        | inl past ↦ f.clear r l v h past t
        | inr k ↦ omega (arith, f.ranks v k, eqb→eq (rank_at bs v) r (subst T (f.rosters v k r l) t))
      ];
    }

    pub facts-edges : Edges S bs (size_at bs)
    facts-edges = record {
      rows = facts-rows;
      settings = facts-settings;
      counts = λ v h j k. entry-count S bs v j _ (rows-phi S bs f.size.1 facts-ranks facts-rows v h j) (f.phi v h j k)
          (λ l. f.phi-low v h j (omega arith));
    }

    pub facts-rosters : Rosters S bs (size_at bs)
    facts-rosters = enrolled-tested S bs (size_at bs) facts-ranks f.rosters f.clear

    pub facts-degrees : sum (degree_at S bs) (size_at bs) ≡ edges_at S bs
    facts-degrees = sym (rows-degrees S bs f.size.1 facts-ranks facts-rows) ∙ sym f.edges

    pub facts-mates : (v : ℕ) → v < size_at bs → Mate S bs v
    facts-mates v h = record { mated = f.mated v h; free = (f.free-low v h).0; low = (f.free-low v h).1 }
