-- Writers one after the other, any number of them: each is lent the part after what those before it wrote. Assumes nothing.
use Rattle.std.proofs.Common.{◌≡◌, ℕ, ◌+◌, ◌<◌, ◌≤◌, List, ◌++◌, length, arith, length-append, w64, Fits}
use Rattle.model.specs.Text.{decimal, largest}
use Rattle.text.specs.Writing.{Put}
use Rattle.text.proofs.Lengths.{figure-most}
use Rattle.text.proofs.Over.{part, back, length_part, put_then, put-length}

-- what they wrote so far, into which bytes, what these are now, and how much was written; there is room for k bytes more, and no slice is longer
-- than a count of 64 bits can tell
pub record Chain (k : ℕ) : Type 0 where
  pub text : List ℕ
  pub old : List ℕ
  pub bytes : List ℕ
  pub at : ℕ
  pub put : Put text old bytes at
  pub fit : length text + k ≤ length old
  pub sized : length old < 18446744073709551616

-- the first one wrote, and one more after those before it
abbrev pub first : {p old w : List ℕ} {n k : ℕ} → Put p old w n → length p + k ≤ length old → length old < 18446744073709551616 → Chain k
first {p} {old} {w} {n} f h l = record { text = p; old = old; bytes = w; at = n; put = f; fit = h; sized = l }

module _ {j r : ℕ} (x : Chain j) {q v : List ℕ} (g : Put q (part x.at x.bytes) v r) where
  pub both : Put (x.text ++ q) x.old (back x.at x.bytes v) (x.at + r)
  both = put_then x.put g (omega (arith, x.fit))

  pub both-fit : (k : ℕ) → length q + k ≤ j → length (x.text ++ q) + k ≤ length x.old
  both-fit k h = omega (arith, length-append x.text q, x.fit)

  abbrev pub next : {k : ℕ} → length q + k ≤ j → Chain k
  next {k} h = record {
    text = x.text ++ q;
    old = x.old;
    bytes = back x.at x.bytes v;
    at = x.at + r;
    put = both;
    fit = both-fit k h;
    sized = x.sized;
  }

-- the next one starts within the bytes and has room for its text, and the bytes stay as many
module _ {k : ℕ} (x : Chain k) where
  pub kept : length x.bytes ≡ length x.old
  kept = put-length x.put (omega (arith, x.fit))

  pub counted : Fits w64 x.at
  counted = omega (arith, x.put.count, x.fit, x.sized)

  pub starts : x.at ≤ length x.bytes
  starts = omega (arith, x.put.count, kept, x.fit)

  pub room : (m : ℕ) → m ≤ k → m ≤ length (part x.at x.bytes)
  room m h = omega (arith, length_part x.at x.bytes, kept, x.put.count, x.fit)

  pub figure-room : (n : ℕ) → n ≤ largest → 10 ≤ k → length (decimal n) ≤ length (part x.at x.bytes)
  figure-room n h l = room (length (decimal n)) (omega (arith, figure-most n h))

-- a figure of 32 bits takes ten of the bytes that there is room for
pub figure : (n k j : ℕ) → n ≤ largest → 10 + k ≤ j → length (decimal n) + k ≤ j
figure n k j h l = omega (arith, figure-most n h)
