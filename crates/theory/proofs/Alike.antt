-- Two states of one setting with the same marks, that may have other owners: what the moves look at is the same in both, and so are the
-- marks, new pairs, draws and falls that they leave. Assumes nothing.
use mathlib.Core.Path.{◌≡◌, refl, sym, ap, ◌∙◌, subst, fun_ext}
use mathlib.Core.Bool.{true, false, ◌&&◌}
use mathlib.Core.List.{List, ◌∷◌}
use Prim.Native.Nat.{ℕ, zero, suc, ◌≤◌}
use lib.Dec.{T, leb}
use lib.ListN.{length, get_or}
use Rattle.model.specs.Counting.{count, listed}
use Rattle.model.specs.State.{edge, Rules, State, near, below, phi, free}
use Rattle.model.specs.Words.{place, deciding}
use Rattle.model.specs.Moves.{at, lifted, handed, leave, join, parting, draw, drawn, fall, Run, none, found, part, rise, marry, chosen, spent, promote, hand_over, due}
use Rattle.model.specs.Change.{reaches, riser}
use Rattle.model.proofs.Tests.{bool-ext}
use Rattle.theory.proofs.Marks.{Marks, marks, Setting, Simple, near_in}
use Rattle.theory.proofs.Fits.{Fits, fits-edge, lift-fits, handed-near}

-- the same vertices, ranks, mates and edges
pub record Alike (s s' : State) : Type 0 where
  pub kind : s.kind ≡ s'.kind
  pub size : s.n ≡ s'.n
  pub rank : s.rank ≡ s'.rank
  pub mate : s.mate ≡ s'.mate
  pub edges : edge s ≡ edge s'

pub alike_of : (P : Setting) (E : Simple P.n P.edge) {s s' : State} → Fits P s → Fits P s' → marks s ≡ marks s' → Alike s s'
alike_of P E F F' p = record {
  kind = F.kind ∙ sym F'.kind;
  size = F.size ∙ sym F'.size;
  rank = λ k. (p k).rank;
  mate = λ k. (p k).mate;
  edges = fits-edge P E F ∙ sym (fits-edge P E F');
}

module _ {s s' : State} (A : Alike s s') where
  pub near-alike : (v j : ℕ) → near s v j ≡ near s' v j
  unfolding near
  near-alike v j = λ k w. A.edges k v w && leb (A.rank k w) j

  pub below_alike : (v j : ℕ) → below s v j ≡ below s' v j
  unfolding below
  below_alike v j = λ k. count (near-alike v j k) (A.size k)

  pub phi-alike : (v j : ℕ) → phi s v j ≡ phi s' v j
  unfolding phi
  phi-alike v j = λ k. elim (leb (A.rank k v) j) [ true ↦ below_alike v j k | false ↦ 0 ]

  pub due-alike : (R : Rules) (i w : ℕ) → due R i w s ≡ due R i w s'
  unfolding due
  due-alike R i w = λ k. leb (A.rank k w) i && leb (R.thr i) (phi-alike w i k)

  pub reaches-alike : (R : Rules) (j v : ℕ) → reaches R s j v ≡ reaches R s' j v
  unfolding reaches
  reaches-alike R j v = λ k. leb (R.thr j) (phi-alike v j k)

  pub riser-alike : (R : Rules) (a b m : ℕ) → riser R a b m s ≡ riser R a b m s'
  unfolding riser
  riser-alike R a b zero = refl
  riser-alike R a b (suc j) = λ k. elim (leb (A.rank k a) j && leb (A.rank k b) j) [
    | false ↦ none
    | true ↦ elim (reaches-alike R j a k) [
      | true ↦ found j a
      | false ↦ elim (reaches-alike R j b k) [ true ↦ found j b | false ↦ riser-alike R a b j k ]
    ]
  ]

-- the same marks, queues, new pairs, draws and falls
pub record Same (r r' : Run) : Type 0 where
  pub marked : marks r.state ≡ marks r'.state
  pub queues : r.queues ≡ r'.queues
  pub news : r.news ≡ r'.news
  pub draws : r.draws ≡ r'.draws
  pub falls : r.falls ≡ r'.falls

-- a state with other marks
dress : State → Marks → State
dress s x = record { kind = s.kind; n = s.n; rank = x.rank; mate = x.mate; owns = s.owns }

pub lift-same : {r r' : Run} (i u : ℕ) → Same r r' → Same (lifted i u r) (lifted i u r')
unfolding rise part parting free dress
lift-same {r} i u S = record {
  marked = ap (λ (x : Marks). marks (rise i u (part u (dress r.state x)))) S.marked;
  queues = λ k. parting (dress r.state (S.marked k)) u (S.queues k);
  news = S.news;
  draws = S.draws;
  falls = S.falls;
}

pub drawn-same : {r r' : Run} (i u : ℕ) {y y' used used' : ℕ} → Same r r' → y ≡ y' → used ≡ used'
    → Same (drawn i u y used r) (drawn i u y' used' r')
unfolding drawn marry rise part parting free dress
drawn-same {r} i u S e f = record {
  marked = λ k. marks (marry u (e k) (rise i (e k) (part (e k) (dress r.state (S.marked k)))));
  queues = λ k. parting (dress r.state (S.marked k)) (e k) (S.queues k);
  news = λ k. record { a = u; b = e k } ∷ S.news k;
  draws = f;
  falls = S.falls;
}

pub fall-same : {r r' : Run} (i v : ℕ) → Same r r' → Same (fall i v (handed i v r)) (fall i v (handed i v r'))
unfolding fall hand_over dress
fall-same {r} i v S = record {
  marked = ap (λ (x : Marks). marks (fall i v (at r (dress r.state x) r.queues)).state) S.marked;
  queues = ap (λ (x : ℕ → List ℕ). join v i (leave v x)) S.queues;
  news = S.news;
  draws = S.draws;
  falls = ap suc S.falls;
}

module _ (P : Setting) (E : Simple P.n P.edge) (words : List ℕ) where
  chosen-same : {r r' : Run} (i u : ℕ) → Same r r' → Fits P r.state → Fits P r'.state → chosen words i u r ≡ chosen words i u r'
  unfolding chosen
  chosen-same {r} {r'} i u S F F' =
      let A : Alike r.state r'.state = alike_of P E F F' S.marked in
      λ k. get_or (listed (near-alike A u i k) (A.size k)) (place words (S.draws k) (length (listed (near-alike A u i k) (A.size k)))) 0

  spent-same : {r r' : Run} (i u : ℕ) → Same r r' → Fits P r.state → Fits P r'.state → spent words i u r ≡ spent words i u r'
  unfolding spent
  spent-same {r} {r'} i u S F F' =
      let A : Alike r.state r'.state = alike_of P E F F' S.marked in
      λ k. suc (deciding words (S.draws k) (below_alike A u i k))

  pub draw-same : {r r' : Run} (i u : ℕ) → Same r r' → Fits P r.state → Fits P r'.state → Same (draw words i u r) (draw words i u r')
  unfolding draw
  draw-same i u S F F' = drawn-same i u S (chosen-same i u S F F') (spent-same i u S F F')

  pub promote-same : {r r' : Run} (i u : ℕ) → Same r r' → Fits P r.state → Fits P r'.state → r.state.rank u ≤ i → r'.state.rank u ≤ i
      → Same (promote words i u r) (promote words i u r')
  unfolding promote
  promote-same i u S F F' l l' = draw-same i u (lift-same i u S) (lift-fits P E i u F l) (lift-fits P E i u F' l')

  -- after the hand-over, the vertices to which v owns edges do not depend on the owners before it
  pub handed-same : {s s' : State} (i v : ℕ) → Fits P s → Fits P s' → marks s ≡ marks s' → s.rank v ≡ suc i → s'.rank v ≡ suc i
      → (hand_over i v s).owns v ≡ (hand_over i v s').owns v
  handed-same {s} {s'} i v F F' p e e' =
      fun_ext (λ w. bool-ext ((hand_over i v s).owns v w) ((hand_over i v s').owns v w)
      (λ h. (handed-near P E i v F' e' w).1 (subst (λ (x : Marks). T (near_in P x v i w)) p ((handed-near P E i v F e w).0 h)))
      (λ h. (handed-near P E i v F e w).1 (subst (λ (x : Marks). T (near_in P x v i w)) (sym p) ((handed-near P E i v F' e' w).0 h))))
