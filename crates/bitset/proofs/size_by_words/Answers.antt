-- `bitset::size_by_words` meets its contract. The loop's invariant: the sum is the count of the members in the words passed. Assumes nothing.
use mathlib.Core.Path.{◌≡◌, sym, ap, ◌∙◌}
use mathlib.Core.List.{List, []}
use Prim.Native.Nat.{ℕ, ◌+◌, ◌*◌, ◌<◌, ◌/◌}
use native.Mathlib.Omega.{arith}
use lib.ListN.{length, get_or}
use Rattle.model.specs.Counting.{count}
use Rattle.model.proofs.Counting.{count-bound}
use Rattle.model.proofs.Prefix.{count-zero, count_add}
use Rattle.bitset.specs.Row.{member, size}
use Rattle.bitset.proofs.Words.{rest-count, word-rest, byte-of_chunk}
use Rattle.bitset.proofs.size_by_words.Goals.{After-word_ones-sum}
use Rattle.bitset.proofs.size_by_words.Goals as goal

pub loop-bytes-init : goal.loop-bytes-init
loop-bytes-init c = sym (count-zero (member c.args.row.now))

-- the sum after a turn
turn : (c : After-word_ones-sum) → c.loop-bytes.sum + c.word_ones-sum.result ≡ count (member c.args.row.now) (8 * (8 * (c.loop-bytes.bytes-index + 1)))
turn c =
    let row = c.args.row.now in
    let k = c.loop-bytes.bytes-index in
    let x = c.from_le_bytes in
    let e : 8 * (8 * (k + 1)) ≡ 8 * (8 * k) + 64 = omega arith in
    let part = λ (a : ℕ) (h : a < 8).
    ap (λ (s : List (List ℕ)). get_or (get_or s k []) a 0) c.as_chunks.ensures.front ∙ byte-of_chunk row (length row / 8) k a (omega arith) h in
    let rest = word-rest row _ (8 * k) x.result (λ a. (c.type_inv.row a).fits) part x.ensures in
    omega (
      arith,
      ap (count (member row)) e,
      count_add (member row) (8 * (8 * k)) 64,
      rest-count (λ j. member row (8 * (8 * k) + j)) x.result rest,
      c.word_ones-sum.ensures.0,
      c.loop-bytes.invariant,
    )

pub overflow_add-sum : goal.overflow_add-sum
overflow_add-sum c = omega (arith, turn c, count-bound (member c.args.row.now) (8 * (8 * (c.loop-bytes.bytes-index + 1))))

pub loop-bytes-preserved : goal.loop-bytes-preserved
loop-bytes-preserved c = turn c

pub returns : goal.returns
unfolding size
returns c = let row = c.args.row.now in
    let e : 8 * c.loop-bytes.bytes-index ≡ length row = omega arith in
    c.loop-bytes.invariant ∙ ap (λ (n : ℕ). count (member row) (8 * n)) e
