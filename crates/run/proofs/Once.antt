-- A run has one outcome: whatever the bytes lent, one answer and one list of bytes for rack and record space. And what is printed of it.
-- Assumes nothing.
use mathlib.Core.Path.{◌≡◌, refl, sym, ap, ◌∙◌, subst}
use mathlib.Core.Logic.{◌≢◌}
use mathlib.Core.Bool.{Bool, true, false}
use mathlib.Core.List.{List, [], ◌++◌}
use Prim.Native.Nat.{ℕ, zero, suc, ◌+◌, ◌≤◌}
use native.Mathlib.Omega.{arith}
use lib.Dec.{ltb}
use lib.ListN.{length, take, drop, length-append, take-append-drop}
use lib.Seq.{length-take-le}
use native.Mathlib.Nat.{zero-add}
use Rattle.model.specs.Shape.{low}
use Rattle.model.specs.Bytes.{write}
use Rattle.model.specs.Calls.{sized, asked_number}
use Rattle.model.specs.Text.{over}
use Rattle.model.specs.Trace.{Trace, Holds, lines_of, FirstBad}
use Rattle.model.specs.Record.{kind_of, last_of, record_text, blank_record}
use Rattle.model.specs.Run.{Ran, rack-length, text-long, space-short, blank, bad-line, bad-asked, ran}
use Rattle.model.specs.Run.{RunAnswer, turned_back, recorded, longest, space_length, bad_line, output}
use Rattle.model.proofs.Tests.{eqb_yes, eqb_no, leb_yes, leb_no}
use Rattle.text.specs.Writing.{Put}
use Rattle.text.proofs.Over.{put_as}
use Rattle.trace.proofs.Whole.{trace-same, trace-fits, first-bad-same, first-bad-within, blank-no-trace, blank-no-bad}
use Rattle.trace.proofs.Decide.{Kind, blank-text, trace-text, bad-text, kind-of}
use Rattle.trace.proofs.RecordFits.{record-fits-low}
use Rattle.run.specs.Recording.{Shown}

-- what a run answers, and the bytes of rack and space after it
pub record Outcome : Type 0 where
  pub answer : RunAnswer
  pub rack : List ℕ
  pub space : List ℕ

module _ (rack text space : List ℕ) where
  back : ℕ → ℕ → Outcome
  back k line = record { answer = turned_back k line; rack = rack; space = space }

  -- with the record p, and the rack `last` left
  done : List ℕ → List ℕ → Outcome
  done p last = record { answer = recorded p; rack = last; space = over 0 p space }

  -- by the number of what line 1 asks for
  abbrev asks : Trace → ℕ → Outcome
  asks t zero = done (record_text t) (write (last_of t))
  asks t (suc k) = back (suc k) 0

  asks_back : (t : Trace) (k : ℕ) → k ≢ 0 → asks t k ≡ back k 0
  asks_back t zero d = absurd (d refl)
  asks_back t (suc k) d = refl

  -- by the text: the record of a blank paper, that of its trace, or 5 or 13, or 4 with its first line that doesn't fit
  read : Kind text → Outcome
  read (blank-text e) = done blank_record rack
  read (trace-text t h) = asks t (asked_number (kind_of t) t.n)
  read (bad-text k b) = back 4 k

  -- by the three lengths
  chosen : Bool → Bool → Bool → Outcome → Outcome
  chosen false long short o = back 1 0
  chosen true true short o = back 2 0
  chosen true false true o = back 3 0
  chosen true false false o = o

  -- first fit first
  abbrev outcome : Outcome
  outcome = chosen (sized low rack) (ltb longest (length text)) (ltb (length space) space_length) (read (kind-of text))

  read-blank : (d : Kind text) → text ≡ [] → read d ≡ done blank_record rack
  unfolding read
  read-blank (blank-text _) e = refl
  read-blank (trace-text t h) e = absurd (blank-no-trace text t e h)
  read-blank (bad-text k b) e = absurd (blank-no-bad text k e b)

  read-holds : (d : Kind text) (t : Trace) → Holds text t → read d ≡ asks t (asked_number (kind_of t) t.n)
  unfolding read
  read-holds (blank-text e) t h = absurd (blank-no-trace text t e h)
  read-holds (trace-text u g) t h = ap (λ (x : Trace). asks x (asked_number (kind_of x) x.n)) (trace-same text u t g h)
  read-holds (bad-text k b) t h = absurd (trace-fits text t k h b)

  read-bad : (d : Kind text) (k : ℕ) → FirstBad (lines_of text) k → read d ≡ back 4 k
  unfolding read
  read-bad (blank-text e) k b = absurd (blank-no-bad text k e b)
  read-bad (trace-text t h) k b = absurd (trace-fits text t k h b)
  read-bad (bad-text j a) k b = ap (back 4) (first-bad-same (lines_of text) j k a b)

  -- the lengths are those that a run takes
  taken : sized low rack ≡ true → length text ≤ longest → space_length ≤ length space → outcome ≡ read (kind-of text)
  unfolding chosen
  taken z s w =
      let p : ltb longest (length text) ≡ false = leb_no (suc longest) (length text) (omega (arith, s)) in
      let q : ltb (length space) space_length ≡ false = leb_no (suc (length space)) space_length (omega (arith, w)) in
      λ i. chosen (z i) (p i) (q i) (read (kind-of text))

  is : {a : RunAnswer} {x y : List ℕ} → Ran rack text space a x y → outcome ≡ record { answer = a; rack = x; space = y }
  unfolding chosen back done
  is (rack-length z) = λ i. chosen (z i) (ltb longest (length text)) (ltb (length space) space_length) (read (kind-of text))
  is (text-long z s) =
      let p : ltb longest (length text) ≡ true = leb_yes (suc longest) (length text) (omega (arith, s)) in
      λ i. chosen (z i) (p i) (ltb (length space) space_length) (read (kind-of text))
  is (space-short z s w) =
      let p : ltb longest (length text) ≡ false = leb_no (suc longest) (length text) (omega (arith, s)) in
      let q : ltb (length space) space_length ≡ true = leb_yes (suc (length space)) space_length (omega (arith, w)) in
      λ i. chosen (z i) (p i) (q i) (read (kind-of text))
  is (blank z e w) = taken z (omega (arith, ap length e)) w ∙ read-blank (kind-of text) e
  is (bad-line {line} z s w b) = taken z s w ∙ read-bad (kind-of text) line b
  is (bad-asked {t} z s w h d) = taken z s w ∙ read-holds (kind-of text) t h ∙ asks_back t (asked_number (kind_of t) t.n) d
  is (ran {t} z s w h e) = taken z s w ∙ read-holds (kind-of text) t h ∙ ap (asks t) e

  -- two runs of the same bytes answer the same and leave the same
  pub ran-once : {a b : RunAnswer} {x y u v : List ℕ} → Ran rack text space a x y → Ran rack text space b u v
      → (a ≡ b) × (x ≡ u) × (y ≡ v)
  ran-once g h =
      let e = sym (is g) ∙ is h in
      (ap (λ (o : Outcome). o.answer) e, ap (λ (o : Outcome). o.rack) e, ap (λ (o : Outcome). o.space) e)

  -- the line of an answer fits 32 bits
  pub line-few : {a : RunAnswer} {x y : List ℕ} → Ran rack text space a x y → a.line ≤ longest
  line-few (rack-length z) = omega arith
  line-few (text-long z s) = omega arith
  line-few (space-short z s w) = omega arith
  line-few (blank z e w) = omega arith
  line-few (bad-line {line} z s w b) = omega (arith, s, first-bad-within text line b)
  line-few (bad-asked z s w h d) = omega arith
  line-few (ran z s w h e) = omega arith

-- the record that an answer tells of fits its space
length-few : {rack text space : List ℕ} {a : RunAnswer} {x y : List ℕ} → Ran rack text space a x y → a.length ≤ space_length
length-few (rack-length z) = omega arith
length-few (text-long z s) = omega arith
length-few (space-short z s w) = omega arith
length-few (blank z e w) = omega arith
length-few (bad-line z s w b) = omega arith
length-few (bad-asked z s w h d) = omega arith
length-few (ran {t} z s w h e) =
    record-fits-low t e h.changes-fit (subst (λ (l : List ℕ). length l ≤ longest) h.printed s)

-- What is printed.

-- what stands at the start is as good as written there again
put-front-again : (space p : List ℕ) {r : ℕ} → p ≡ take r space → r ≤ length space → Put p space space r
unfolding over
put-front-again space p {r} e h = record {
  count = sym (length-take-le r space h) ∙ ap length (sym e);
  wrote =
      sym (take-append-drop r space)
      ∙ ap (λ (j : ℕ). take r space ++ drop j space) (sym (zero-add r ∙ refl) ∙ refl)
      ∙ ap (λ (j : ℕ). take r space ++ drop (0 + j) space) (sym (length-take-le r space h) ∙ ap length (sym e))
      ∙ ap (λ (l : List ℕ). l ++ drop (0 + length p) space) (sym e);
}

-- the record stands there already, or the answer's line was put there
module _ {rack text old last space : List ℕ} {a : RunAnswer} (h : Ran rack text old a last space) where
  pub shown-record : a.number ≡ 0 → space_length ≤ length space → Shown rack text old last space a.length
  unfolding output
  shown-record e wide =
      let is : output a space ≡ take a.length space = rw (eqb_yes a.number 0 e, output) refl in
      let within : a.length ≤ length space = omega (arith, length-few h, wide) in
      record { answer = a; space = space; ran = h; prints = put-front-again space (output a space) is within }

  pub shown-back : {new : List ℕ} {r : ℕ} → a.number ≢ 0 → Put (bad_line a.number a.line) space new r → Shown rack text old last new r
  unfolding output
  shown-back e p =
      let is : output a space ≡ bad_line a.number a.line = rw (eqb_no a.number 0 e, output) refl in
      record { answer = a; space = space; ran = h; prints = put_as _ (output a space) (sym is) p }

pub put-within : {p old new : List ℕ} {r : ℕ} → Put p old new r → r ≤ length new
unfolding over
put-within {p} {old} {new} {r} h = omega (arith, h.count, ap length h.wrote, length-append p (drop (0 + length p) old))
