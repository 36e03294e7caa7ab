-- Laws of `over`: its length, one byte more, one text after another, and a part of a list that was overwritten at its start; and of `Put`,
-- what one writer wrote. No contract cites this file. Assumes nothing.
use Rattle.std.proofs.Common.{◌≡◌, ℕ, ◌+◌, ◌-◌, ◌<◌, ◌≤◌, List, [], ◌∷◌, ◌++◌, length, take, drop, set, sym, refl, ap, ◌∙◌, append_assoc, append-nil, add-zero, zero-add, add-one, arith, length-append, length-drop, take-append-drop, drop_of_length-le, length-take, length-take-le, take_all, drop-drop, take_at, drop_at}
use lib.Seq.{set_split}
use Rattle.model.specs.Text.{decimal, over}
use Rattle.text.specs.Writing.{Put}
use Rattle.text.proofs.Decimals.{decimal-small, length-small}

pub length_over : (at : ℕ) (p old : List ℕ) → at + length p ≤ length old → length (over at p old) ≡ length old
unfolding over
length_over at p old h = simp (length-append, length-take, length-drop) (omega arith)

pub over_none : (at : ℕ) (old : List ℕ) → over at [] old ≡ old
unfolding over
over_none at old = ap (λ (k : ℕ). take at old ++ drop k old) (add-zero at) ∙ take-append-drop at old

pub over-over : (at : ℕ) (p q old : List ℕ) → at + length p ≤ length old → over (at + length p) q (over at p old) ≡ over at (p ++ q) old
unfolding over
over-over at p q old h =
    let n = at + length p in
    let f = take at old ++ p in
    let lf : length f ≡ n = simp (length-append, length-take) (omega arith) in
    let e : take at old ++ (p ++ drop n old) ≡ f ++ drop n old = sym (append_assoc (take at old) p (drop n old)) in
    let m : n + length q ≡ at + length (p ++ q) = simp length-append (omega arith) in
    let r = sym (drop-drop (length q) n (f ++ drop n old)) ∙ ap (drop (length q)) (drop_at f (drop n old) n lf) ∙ drop-drop (length q) n old in
    ap (λ (l : List ℕ). take n l ++ (q ++ drop (n + length q) l)) e
    ∙ ap (λ (l : List ℕ). l ++ (q ++ drop (n + length q) (f ++ drop n old))) (take_at f (drop n old) n lf)
    ∙ ap (λ (l : List ℕ). f ++ (q ++ l)) r
    ∙ append_assoc (take at old) p (q ++ drop (n + length q) old)
    ∙ ap (λ (l : List ℕ). take at old ++ l) (sym (append_assoc p q (drop (n + length q) old)))
    ∙ ap (λ (k : ℕ). take at old ++ ((p ++ q) ++ drop k old)) m

-- one byte stored, and one stored after p
set-over : (at : ℕ) (old : List ℕ) (b : ℕ) → at < length old → set old at b ≡ over at (b ∷ []) old
unfolding over
set-over at old b h = set_split old at b h ∙ ap (λ (k : ℕ). take at old ++ (b ∷ drop k old)) (sym (add-one at))

pub over-set : (at : ℕ) (p old : List ℕ) (b : ℕ) → at + length p < length old → set (over at p old) (at + length p) b ≡ over at (p ++ (b ∷ [])) old
over-set at p old b h =
    let l : length (over at p old) ≡ length old = length_over at p old (omega arith) in
    set-over (at + length p) (over at p old) b (omega arith) ∙ over-over at p (b ∷ []) old (omega arith)

-- what was written at the start of the part from `at` on, said of the whole
pub over-part : (at : ℕ) (p old : List ℕ) → take at old ++ over 0 p (drop at old) ≡ over at p old
unfolding over
over-part at p old =
    ap (λ (k : ℕ). take at old ++ (p ++ drop k (drop at old))) (zero-add (length p))
    ∙ ap (λ (l : List ℕ). take at old ++ (p ++ l)) (drop-drop (length p) at old)

-- A part that was lent on, `&mut w[n..]`, and came back.

-- the part that is lent, and the whole with the part as it came back, as the borrow checker states them
abbrev pub part : ℕ → List ℕ → List ℕ
part n w = take (length w - n) (drop n w)

abbrev pub back : ℕ → List ℕ → List ℕ → List ℕ
back n w last = take n w ++ (last ++ drop (length w - n) (drop n w))

pub part-is : (n : ℕ) (w : List ℕ) → part n w ≡ drop n w
part-is n w = take_all (length w - n) (drop n w) (omega (arith, length-drop n w))

pub length_part : (n : ℕ) (w : List ℕ) → length (part n w) ≡ length w - n
length_part n w = ap length (part-is n w) ∙ length-drop n w

-- nothing of the whole stands after the part
back_is : (n : ℕ) (w last : List ℕ) → back n w last ≡ take n w ++ last
back_is n w last =
    let none : length (drop n w) ≤ length w - n = omega (arith, length-drop n w) in
    ap (λ (l : List ℕ). take n w ++ (last ++ l)) (drop_of_length-le (drop n w) none) ∙ ap (λ (l : List ℕ). take n w ++ l) (append-nil last)

-- what stands from n on in the whole
pub drop-back : (n : ℕ) (w last : List ℕ) → n ≤ length w → drop n (back n w last) ≡ last
drop-back n w last h = ap (drop n) (back_is n w last) ∙ drop_at (take n w) last n (length-take-le n w h)

-- what was written at the start of the part stands at n of the whole
pub put-at : {p last : List ℕ} {k : ℕ} (n : ℕ) (w : List ℕ) → Put p (part n w) last k → back n w last ≡ over n p w
put-at {p} {last} n w h = back_is n w last ∙ ap (λ (l : List ℕ). take n w ++ l) (h.wrote ∙ ap (over 0 p) (part-is n w)) ∙ over-part n p w

-- a second writer is lent the part after what a first one wrote: together they wrote one text after the other
pub put_then : {p q old w last : List ℕ} {n k : ℕ} → Put p old w n → Put q (part n w) last k → length p ≤ length old
    → Put (p ++ q) old (back n w last) (n + k)
put_then {p} {q} {old} {w} {last} {n} {k} f g h =
    let c : length (p ++ q) ≡ length p + length q = length-append p q in
    record {
      count = omega (arith, f.count, g.count);
      wrote =
          put-at n w g
          ∙ ap (λ (l : List ℕ). over n q l) f.wrote
          ∙ ap (λ (m : ℕ). over m q (over 0 p old)) (f.count ∙ sym (zero-add (length p)))
          ∙ over-over 0 p q old (omega arith);
    }

-- what was written, said of an equal text
pub put_as : (p q : List ℕ) {old new : List ℕ} {r : ℕ} → p ≡ q → Put p old new r → Put q old new r
put_as p q {old} e h = record { count = h.count ∙ ap length e; wrote = h.wrote ∙ ap (λ (l : List ℕ). over 0 l old) e }

-- nothing was written
pub put-none : (old : List ℕ) → Put [] old old 0
put-none old = record { count = refl; wrote = sym (over_none 0 old) }

pub put-length : {p old new : List ℕ} {r : ℕ} → Put p old new r → length p ≤ length old → length new ≡ length old
put-length {p} {old} f h = ap length f.wrote ∙ length_over 0 p old (omega arith)

-- the same, by how much was written
pub put-kept : {p old new : List ℕ} {r : ℕ} → Put p old new r → r ≤ length old → length new ≡ length old
put-kept f h = put-length f (omega (arith, f.count))

-- the byte d more, stored after what was written
pub put_byte : {p old w : List ℕ} {n i b r : ℕ} (d : ℕ) → Put p old w n → length p < length old → i ≡ n → b ≡ d → r ≡ n + 1
    → Put (p ++ (d ∷ [])) old (set w i b) r
put_byte {p} {old} {w} {n} {i} {b} d f h at is answer =
    let place : i ≡ 0 + length p = omega (arith, f.count) in
    record {
      count = omega (arith, f.count, length-append p (d ∷ []));
      wrote =
          ap (λ (l : List ℕ). set l i b) f.wrote
          ∙ ap (λ (k : ℕ). set (over 0 p old) k b) place
          ∙ ap (set (over 0 p old) (0 + length p)) is
          ∙ over-set 0 p old d (omega arith);
    }

-- a number of one digit is one byte
pub put-digit : {old : List ℕ} {n b r : ℕ} → n < 10 → length (decimal n) ≤ length old → b ≡ 48 + n → r ≡ 1 → Put (decimal n) old (set old 0 b) r
put-digit {old} {n} h room is answer =
    put_as _ _ (sym (decimal-small n h)) (put_byte (48 + n) (put-none old) (omega (arith, length-small n h)) refl is answer)
