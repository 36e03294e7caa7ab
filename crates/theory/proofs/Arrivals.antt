-- Lists that hold exactly what they should, each once: one leaves, one joins the end. And the queues of the levels that a list of vertices
-- in the order of their arrival makes. Assumes nothing.
use mathlib.Core.Path.{◌≡◌, refl, sym, ap, ◌∙◌, subst}
use mathlib.Core.Logic.{◌≢◌, ◌⊎◌, inl, inr}
use mathlib.Core.List.{List, [], ◌∷◌, ◌++◌}
use Prim.Native.Nat.{ℕ, zero, suc}
use native.Mathlib.Omega.{arith}
use Rattle.model.specs.Lists.{All, Mem, Distinct, Lists}
use Rattle.model.specs.State.{State, free}
use Rattle.model.specs.Moves.{without, leave, join, parting}
use Rattle.model.proofs.Tests.{eq?, eqb_yes, eqb_no}
use Rattle.model.proofs.Lists.{upd_same, upd_other, without-yes, without-no}
use Rattle.theory.specs.Waiting.{Marks, marks, of_rank, queues_in, join_queue, part_queue}

pub lists-as : {W X : ℕ → Type 0} {l : List ℕ} → ((v : ℕ) → W v → X v) → ((v : ℕ) → X v → W v) → Lists W l → Lists X l
lists-as f g h = record { once = h.once; only = λ v m. f v (h.only v m); whole = λ v w. h.whole v (g v w) }

pub lists-none : {W : ℕ → Type 0} → ((v : ℕ) → W v → ⊥) → Lists W []
lists-none f = record { once = tt; only = λ v m. absurd m; whole = λ v w. f v w }

-- One leaves.
module _ (u : ℕ) where
  without_all : (P : ℕ → Type 0) (l : List ℕ) → All P l → All P (without u l)
  unfolding without
  without_all P [] h = tt
  without_all P (w ∷ l) h = elim (eq? w u) [
    | inl e ↦ rw (without-yes u w l e) (without_all P l h.1)
    | inr d ↦ rw (without-no u w l d) (h.0, without_all P l h.1)
  ]

  without-once : (l : List ℕ) → Distinct l → Distinct (without u l)
  unfolding without
  without-once [] h = tt
  without-once (w ∷ l) h = elim (eq? w u) [
    | inl e ↦ rw (without-yes u w l e) (without-once l h.1)
    | inr d ↦ rw (without-no u w l d) (without_all (λ y. w ≢ y) l h.0, without-once l h.1)
  ]

  kept : (w : ℕ) (l : List ℕ) (v : ℕ) → w ≢ u → (Mem v (without u l) → Mem v l × (v ≢ u)) → (v ≡ w) ⊎ Mem v (without u l)
      → ((v ≡ w) ⊎ Mem v l) × (v ≢ u)
  kept w l v d ih (inl e) = (inl e, λ f. d (sym e ∙ f))
  kept w l v d ih (inr k) = let j : Mem v l × (v ≢ u) = ih k in (inr j.0, j.1)

  without-only : (l : List ℕ) (v : ℕ) → Mem v (without u l) → Mem v l × (v ≢ u)
  unfolding without
  without-only [] v m = absurd m
  without-only (w ∷ l) v m = elim (eq? w u) [
    | inl e ↦ let k : Mem v l × (v ≢ u) = without-only l v (rw (without-yes u w l e) at m) in (inr k.0, k.1)
    | inr d ↦ kept w l v d (λ k. without-only l v k) (rw (without-no u w l d) at m)
  ]

  without-whole : (l : List ℕ) (v : ℕ) → Mem v l → v ≢ u → Mem v (without u l)
  unfolding without
  without-whole [] v m d = absurd m
  without-whole (w ∷ l) v m d = elim (eq? w u) [
    | inl e ↦ rw (without-yes u w l e) (elim m [ inl f ↦ absurd (d (f ∙ e)) | inr k ↦ without-whole l v k d ])
    | inr f ↦ rw (without-no u w l f) (elim m [ inl e ↦ inl e | inr k ↦ inr (without-whole l v k d) ])
  ]

  pub lists-without : {W : ℕ → Type 0} {l : List ℕ} → Lists W l → Lists (λ v. W v × (v ≢ u)) (without u l)
  lists-without {W} {l} h = record {
    once = without-once l h.once;
    only = λ v m. let k : Mem v l × (v ≢ u) = without-only l v m in (h.only v k.0, k.1);
    whole = λ v w. without-whole l v (h.whole v w.0) w.1;
  }

-- One joins the end.
module _ (u : ℕ) where
  end-all : (P : ℕ → Type 0) (l : List ℕ) → All P l → P u → All P (l ++ (u ∷ []))
  end-all P [] h p = (p, tt)
  end-all P (w ∷ l) h p = (h.0, end-all P l h.1 p)

  end-only : (l : List ℕ) (v : ℕ) → Mem v (l ++ (u ∷ [])) → Mem v l ⊎ (v ≡ u)
  end-only [] v (inl e) = inr e
  end-only [] v (inr m) = absurd m
  end-only (w ∷ l) v (inl e) = inl (inl e)
  end-only (w ∷ l) v (inr m) = elim (end-only l v m) [ inl k ↦ inl (inr k) | inr e ↦ inr e ]

  end_whole : (l : List ℕ) (v : ℕ) → Mem v l ⊎ (v ≡ u) → Mem v (l ++ (u ∷ []))
  end_whole [] v (inl m) = absurd m
  end_whole [] v (inr e) = inl e
  end_whole (w ∷ l) v (inl (inl e)) = inl e
  end_whole (w ∷ l) v (inl (inr m)) = inr (end_whole l v (inl m))
  end_whole (w ∷ l) v (inr e) = inr (end_whole l v (inr e))

  apart : (w : ℕ) (l : List ℕ) → (Mem u (w ∷ l) → ⊥) → w ≢ u
  apart w l h e = h (inl (sym e))

  end-once : (l : List ℕ) → Distinct l → (Mem u l → ⊥) → Distinct (l ++ (u ∷ []))
  end-once [] h d = (tt, tt)
  end-once (w ∷ l) h d = (end-all (λ y. w ≢ y) l h.0 (apart w l d), end-once l h.1 (λ m. d (inr m)))

  pub lists-end : {W : ℕ → Type 0} {l : List ℕ} → Lists W l → (W u → ⊥) → Lists (λ v. W v ⊎ (v ≡ u)) (l ++ (u ∷ []))
  lists-end {W} {l} h d = record {
    once = end-once l h.once (λ m. d (h.only u m));
    only = λ v m. elim (end-only l v m) [ inl k ↦ inl (h.only v k) | inr e ↦ inr e ];
    whole = λ v w. end_whole l v (elim w [ inl k ↦ inl (h.whole v k) | inr e ↦ inr e ]);
  }

-- What a list has of one rank.
module _ (rank : ℕ → ℕ) (x : ℕ) where
  pub rank-yes : (v : ℕ) (l : List ℕ) → rank v ≡ x → of_rank rank x (v ∷ l) ≡ v ∷ of_rank rank x l
  unfolding of_rank
  rank-yes v l e = rw (eqb_yes (rank v) x e, of_rank) refl

  pub rank-no : (v : ℕ) (l : List ℕ) → rank v ≢ x → of_rank rank x (v ∷ l) ≡ of_rank rank x l
  unfolding of_rank
  rank-no v l d = rw (eqb_no (rank v) x d, of_rank) refl

  pub rank-none : (l : List ℕ) → All (λ v. rank v ≢ x) l → of_rank rank x l ≡ []
  unfolding of_rank
  rank-none [] h = refl
  rank-none (v ∷ l) h = rank-no v l h.0 ∙ rank-none l h.1

  rank-end-yes : (v : ℕ) → rank v ≡ x → (l : List ℕ) → of_rank rank x (l ++ (v ∷ [])) ≡ of_rank rank x l ++ (v ∷ [])
  unfolding of_rank
  rank-end-yes v e [] = rank-yes v [] e
  rank-end-yes v e (w ∷ l) = elim (eq? (rank w) x) [
    | inl f ↦ rw (rank-yes w (l ++ (v ∷ [])) f, rank-yes w l f) (ap (λ (k : List ℕ). w ∷ k) (rank-end-yes v e l))
    | inr f ↦ rw (rank-no w (l ++ (v ∷ [])) f, rank-no w l f) (rank-end-yes v e l)
  ]

  rank-end-no : (v : ℕ) → rank v ≢ x → (l : List ℕ) → of_rank rank x (l ++ (v ∷ [])) ≡ of_rank rank x l
  unfolding of_rank
  rank-end-no v d [] = rank-no v [] d
  rank-end-no v d (w ∷ l) = elim (eq? (rank w) x) [
    | inl f ↦ rw (rank-yes w (l ++ (v ∷ [])) f, rank-yes w l f) (ap (λ (k : List ℕ). w ∷ k) (rank-end-no v d l))
    | inr f ↦ rw (rank-no w (l ++ (v ∷ [])) f, rank-no w l f) (rank-end-no v d l)
  ]

  rank-without : (v : ℕ) (l : List ℕ) → of_rank rank x (without v l) ≡ without v (of_rank rank x l)
  unfolding of_rank without
  rank-without v [] = refl
  rank-without v (w ∷ l) = elim (eq? w v) [
    | inl e ↦ rw (without-yes v w l e) (elim (eq? (rank w) x) [
      | inl f ↦ rw (rank-yes w l f, without-yes v w (of_rank rank x l) e) (rank-without v l)
      | inr f ↦ rw (rank-no w l f) (rank-without v l)
    ])
    | inr d ↦ rw (without-no v w l d) (elim (eq? (rank w) x) [
      | inl f ↦ rw (rank-yes w (without v l) f, rank-yes w l f, without-no v w (of_rank rank x l) d)
          (ap (λ (k : List ℕ). w ∷ k) (rank-without v l))
      | inr f ↦ rw (rank-no w (without v l) f, rank-no w l f) (rank-without v l)
    ])
  ]

  pub rank-only : (l : List ℕ) (v : ℕ) → Mem v (of_rank rank x l) → Mem v l × (rank v ≡ x)
  unfolding of_rank
  rank-only [] v m = absurd m
  rank-only (w ∷ l) v m = elim (eq? (rank w) x) [
    | inl f ↦ elim (subst (Mem v) (rank-yes w l f) m) [
      | inl e ↦ (inl e, ap rank e ∙ f)
      | inr k ↦ let j : Mem v l × (rank v ≡ x) = rank-only l v k in (inr j.0, j.1)
    ]
    | inr f ↦ let j : Mem v l × (rank v ≡ x) = rank-only l v (subst (Mem v) (rank-no w l f) m) in (inr j.0, j.1)
  ]

  pub rank-whole : (l : List ℕ) (v : ℕ) → Mem v l → rank v ≡ x → Mem v (of_rank rank x l)
  unfolding of_rank
  rank-whole [] v m e = absurd m
  rank-whole (w ∷ l) v m e = elim (eq? (rank w) x) [
    | inl f ↦ rw (rank-yes w l f) (elim m [ inl g ↦ inl g | inr k ↦ inr (rank-whole l v k e) ])
    | inr f ↦ rw (rank-no w l f) (elim m [ inl g ↦ absurd (f (sym (ap rank g) ∙ e)) | inr k ↦ rank-whole l v k e ])
  ]

  rank-all : (P : ℕ → Type 0) (l : List ℕ) → All P l → All P (of_rank rank x l)
  unfolding of_rank
  rank-all P [] h = tt
  rank-all P (w ∷ l) h = elim (eq? (rank w) x) [
    | inl f ↦ rw (rank-yes w l f) (h.0, rank-all P l h.1)
    | inr f ↦ rw (rank-no w l f) (rank-all P l h.1)
  ]

  pub rank-once : (l : List ℕ) → Distinct l → Distinct (of_rank rank x l)
  unfolding of_rank
  rank-once [] h = tt
  rank-once (w ∷ l) h = elim (eq? (rank w) x) [
    | inl f ↦ rw (rank-yes w l f) (rank-all (λ y. w ≢ y) l h.0, rank-once l h.1)
    | inr f ↦ rw (rank-no w l f) (rank-once l h.1)
  ]

-- other ranks, but the same for those in the list
pub rank_as : (f g : ℕ → ℕ) (x : ℕ) (l : List ℕ) → ((v : ℕ) → Mem v l → f v ≡ g v) → of_rank f x l ≡ of_rank g x l
unfolding of_rank
rank_as f g x [] e = refl
rank_as f g x (w ∷ l) e = elim (eq? (f w) x) [
  | inl h ↦ rw (rank-yes f x w l h, rank-yes g x w l (sym (e w (inl refl)) ∙ h)) (ap (λ (k : List ℕ). w ∷ k) (rank_as f g x l (λ v m. e v (inr m))))
  | inr h ↦ rw (rank-no f x w l h, rank-no g x w l (λ k. h (e w (inl refl) ∙ k))) (rank_as f g x l (λ v m. e v (inr m)))
]

-- The queues of the levels.
pub joins-none : (v : ℕ) (l : List ℕ) → join_queue v 0 l ≡ l
unfolding join_queue
joins-none v l = refl

pub joins-some : (v i : ℕ) (l : List ℕ) → join_queue v (suc i) l ≡ l ++ (v ∷ [])
unfolding join_queue
joins-some v i l = refl

pub queues-none : (rank : ℕ → ℕ) → queues_in rank [] ≡ (λ i. [])
unfolding of_rank
queues-none rank = refl

pub queues-as : (f g : ℕ → ℕ) (l : List ℕ) → ((v : ℕ) → Mem v l → f v ≡ g v) → queues_in f l ≡ queues_in g l
queues-as f g l e = λ k i. rank_as f g (suc i) l e k

pub queues-leave : (rank : ℕ → ℕ) (v : ℕ) (l : List ℕ) → queues_in rank (without v l) ≡ leave v (queues_in rank l)
unfolding leave
queues-leave rank v l = λ k i. rank-without rank (suc i) v l k

pub queues-join : (rank : ℕ → ℕ) (v r : ℕ) → rank v ≡ r → (l : List ℕ) → queues_in rank (join_queue v r l) ≡ join v r (queues_in rank l)
unfolding join_queue join
queues-join rank v zero e l = refl
queues-join rank v (suc j) e l = λ k i. here i k
  where
    here : (i : ℕ) → queues_in rank (join_queue v (suc j) l) i ≡ join v (suc j) (queues_in rank l) i
    here i = unfold join_queue in unfold join in elim (eq? i j) [
      | inl f ↦ rank-end-yes rank (suc i) v (e ∙ ap suc (sym f)) l
          ∙ ap (λ (y : ℕ). of_rank rank (suc y) l ++ (v ∷ [])) f ∙ sym (upd_same (queues_in rank l) j (queues_in rank l j ++ (v ∷ [])) i f)
      | inr f ↦ rank-end-no rank (suc i) v (λ g. f (omega arith)) l
          ∙ sym (upd_other (queues_in rank l) j (queues_in rank l j ++ (v ∷ [])) i f)
    ]

-- The parting of w, which rises.
module _ (s : Marks) (w : ℕ) (l : List ℕ) where
  pub queue-free : s.mate w ≡ w → part_queue s w l ≡ without w l
  unfolding part_queue
  queue-free e = rw (eqb_yes (s.mate w) w e, part_queue) refl

  pub queue-mated : s.mate w ≢ w → part_queue s w l ≡ join_queue (s.mate w) (s.rank (s.mate w)) l
  unfolding part_queue
  queue-mated d = rw (eqb_no (s.mate w) w d, part_queue) refl

pub parting-free : (s : State) (w : ℕ) (q : ℕ → List ℕ) → s.mate w ≡ w → parting s w q ≡ leave w q
unfolding parting free
parting-free s w q e = rw (eqb_yes (s.mate w) w e, parting) refl

pub parting-mated : (s : State) (w : ℕ) (q : ℕ → List ℕ) → s.mate w ≢ w → parting s w q ≡ join (s.mate w) (s.rank (s.mate w)) q
unfolding parting free
parting-mated s w q d = rw (eqb_no (s.mate w) w d, parting) refl

pub queues-part : (s : State) (w : ℕ) (l : List ℕ) → queues_in s.rank (part_queue (marks s) w l) ≡ parting s w (queues_in s.rank l)
queues-part s w l = elim (eq? (s.mate w) w) [
  | inl e ↦ ap (queues_in s.rank) (queue-free (marks s) w l e) ∙ queues-leave s.rank w l ∙ sym (parting-free s w (queues_in s.rank l) e)
  | inr d ↦ ap (queues_in s.rank) (queue-mated (marks s) w l d) ∙ queues-join s.rank (s.mate w) (s.rank (s.mate w)) refl l
      ∙ sym (parting-mated s w (queues_in s.rank l) d)
]
