-- u takes its edges from the owners of one rank, a word of their roster after the other. Assumes nothing.
use mathlib.Core.Path.{◌≡◌, sym, ap, ◌∙◌}
use mathlib.Core.Logic.{inl, inr}
use mathlib.Core.Bool.{Bool, ◌&&◌}
use mathlib.Core.List.{List}
use Prim.Native.Nat.{ℕ, ◌+◌, ◌*◌, ◌≤◌, ◌<◌}
use native.Mathlib.Omega.{arith}
use lib.Dec.{T}
use Rattle.model.specs.Counting.{count}
use Rattle.model.specs.State.{Kind, State}
use Rattle.model.specs.Bytes.{read, write}
use Rattle.model.proofs.Tests.{le?, bool-ext}
use Rattle.model.proofs.Prefix.{count-zero, count_add, count-ext, count-mono, count-step, count-skip}
use Rattle.theory.proofs.HandLoops.{up_to, up_to-of, up_to-is}
use Rattle.layout.proofs.Walks.{row-whole}
use Rattle.moves.specs.Proper.{Held, owner_at, took_from}
use Rattle.moves.specs.Handing.{in_word}
use Rattle.moves.proofs.Taking.{Takes, takes-some, takes-not, takes_none, takes-more, took-ext, left-owner, owner-left, takes-read, takes-held}
use Rattle.moves.proofs.Turning.{among, among_of, among-is}

-- the words before word k are done, and `left` is what is missing then
pub record TakeRank (s : State) (r u missing : ℕ) (bs : List ℕ) (left k : ℕ) : Type 0 where
  pub within : 64 * k ≤ s.kind.shape.most
  pub bytes : bs ≡ write (took_from (up_to (owner_at s r u) (64 * k)) u s)
  pub counted : left + count (owner_at s r u) (64 * k) ≡ missing

-- no more pass below m than below a bound on those that pass
count-within : (h : ℕ → Bool) (m n : ℕ) → ((w : ℕ) → T (h w) → w < n) → count h m ≤ count h n
count-within h m n f = elim (le? m n) [
  | inl l ↦ count-mono h m n l
  | inr l ↦ let e = count-skip h n m (omega arith) (λ w a b t. omega (arith, f w t)) in omega (arith, e)
]

module _ {K : Kind} {s : State} {u : ℕ} (r : ℕ) (q : Takes K s u (owner_at s r u)) where
  -- the owners of the rank, and those of the words before word k
  abbrev owner : ℕ → Bool
  owner = owner_at s r u

  before : (k : ℕ) → Takes K s u (up_to owner (64 * k))
  before k = takes-some q (up_to owner (64 * k)) (λ w t. (up_to-is owner (64 * k) w t).0)

  inside : (w : ℕ) → T (owner w) → w < s.n
  inside w t = (q.proper.inside w u (q.owes w t)).0

  pub rank-start : {missing : ℕ} {bs : List ℕ} → bs ≡ write s → TakeRank s r u missing bs missing 0
  rank-start e = record {
    within = omega arith;
    bytes = e ∙ ap write (sym (takes_none (before 0) (λ w t. omega (arith, (up_to-is owner (64 * 0) w t).1))));
    counted = omega (arith, count-zero owner);
  }

  module _ {missing : ℕ} {bs : List ℕ} {left k : ℕ} (G : TakeRank s r u missing bs left k) where
    pub rank-read : read K.shape bs ≡ took_from (up_to owner (64 * k)) u s
    rank-read = takes-read (before k) G.bytes

    pub rank-held : Held K.shape bs
    rank-held = takes-held (before k) G.bytes

    -- the owners of word k are all still there
    same_word : count (λ j. owner_at (read K.shape bs) r u (64 * k + j)) 64 ≡ count (λ j. owner (64 * k + j)) 64
    same_word =
        let t : State = took_from (up_to owner (64 * k)) u s in
        ap (λ (x : State). count (λ j. owner_at x r u (64 * k + j)) 64) rank-read
        ∙ count-ext (λ j. owner_at t r u (64 * k + j)) (λ j. owner (64 * k + j)) 64 (λ j _.
        bool-ext (owner_at t r u (64 * k + j)) (owner (64 * k + j)) (λ o. (left-owner (before k) r (64 * k + j) o).0)
        (λ o. owner-left (before k) r (64 * k + j) o (λ b. omega (arith, (up_to-is owner (64 * k) (64 * k + j) b).1))))

    -- .. and no more than are missing
    pub rank-few : count owner s.n ≤ missing → count (λ j. owner_at (read K.shape bs) r u (64 * k + j)) 64 ≤ left
    rank-few m =
        omega (arith, same_word, G.counted, count_add owner (64 * k) 64, count-within owner (64 * k + 64) s.n inside)

    -- the next word
    next_word : took_from (λ w. owner_at (took_from (up_to owner (64 * k)) u s) r u w && in_word k 64 w) u (took_from (up_to owner (64 * k)) u s)
        ≡ took_from (up_to owner (64 * (k + 1))) u s
    unfolding among
    next_word =
        let t : State = took_from (up_to owner (64 * k)) u s in
        let m : ℕ = 64 * (k + 1) in
        let is : (w : ℕ) → T (among (owner_at t r u) k 64 w) → T (owner w) × (w < m) = λ w o.
        let a = among-is (owner_at t r u) k 64 w o in
        ((left-owner (before k) r w a.0).0, omega (arith, a.2)) in
        takes-more (before k) (among (owner_at t r u) k 64) (up_to owner m)
        (λ o. takes-not q (is u o).0)
        (λ w o. let a = up_to-is owner (64 * k) w o in up_to-of owner m w a.0 (omega (arith, a.1)))
        (λ w o. let a = is w o in up_to-of owner m w a.0 a.1)
        (λ w o n.
        let a = up_to-is owner m w o in
        up_to-of owner (64 * k) w a.0 (elim (le? (64 * k) w) [
          | inl l ↦
              absurd (n (among_of (owner_at t r u) k 64 w
              (owner-left (before k) r w a.0 (λ b. omega (arith, (up_to-is owner (64 * k) w b).1))) l (omega (arith, a.1))))
          | inr l ↦ l
        ]))

    pub rank-next : {cs : List ℕ} {left' : ℕ} → 64 * k < s.kind.shape.most
        → cs ≡ write (took_from (λ w. owner_at (read K.shape bs) r u w && in_word k 64 w) u (read K.shape bs))
        → left' + count (λ j. owner_at (read K.shape bs) r u (64 * k + j)) 64 ≡ left → TakeRank s r u missing cs left' (k + 1)
    rank-next l e f =
        let m : 64 * k + 64 ≡ 64 * (k + 1) = omega arith in
        record {
          within = omega (arith, row-whole q.proper.good);
          bytes = e ∙ ap (λ (x : State). write (took_from (λ w. owner_at x r u w && in_word k 64 w) u x)) rank-read ∙ ap write next_word;
          counted = omega (arith, f, same_word, G.counted, count_add owner (64 * k) 64, ap (count owner) m);
        }

    -- no owner stands in a later word
    whole : ((w : ℕ) → T (owner w) → w < 64 * k) → (bs ≡ write (took_from owner u s)) × (left + count owner s.n ≡ missing)
    whole f = (
      G.bytes ∙ ap write (took-ext (up_to owner (64 * k)) owner u s (λ w t. (up_to-is owner (64 * k) w t).0) (λ w t. up_to-of owner (64 * k) w t (f w t))),
      omega (arith, G.counted, count-within owner (64 * k) s.n inside, count-within owner s.n (64 * k) f),
    )

    -- nothing is missing
    pub rank-full : count owner s.n ≤ missing → left ≡ 0 → (bs ≡ write (took_from owner u s)) × (left + count owner s.n ≡ missing)
    rank-full m z = whole (λ w t. elim (le? (64 * k) w) [
      | inl l ↦ absurd (omega (arith, G.counted, count-mono owner (64 * k) w l, count-step owner w s.n t (inside w t)))
      | inr l ↦ l
    ])

    -- all words are done
    pub rank-end : s.kind.shape.most ≤ 64 * k → (bs ≡ write (took_from owner u s)) × (left + count owner s.n ≡ missing)
    rank-end m = whole (λ w t. omega (arith, inside w t, q.proper.few))
