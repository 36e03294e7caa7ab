-- The worked example of document 01: its trace text is the printed form of a trace, and the record of that trace, computed from the
-- definitions, is the record in the paper, to the byte, with the end line as W-202 gives it. And the empty text, P12. Assumes nothing.
use mathlib.Core.Path.{◌≡◌, refl, ap, subst}
use mathlib.Core.Logic.{◌⊎◌, inl, inr}
use mathlib.Core.Bool.{true}
use mathlib.Core.List.{List, [], ◌∷◌}
use Prim.Native.Nat.{ℕ, ◌≤◌}
use native.Mathlib.Omega.{arith}
use lib.ListN.{length, get_or}
use Rattle.model.specs.Shape.{low}
use Rattle.model.specs.State.{rules, low_kind, empty, edges}
use Rattle.model.specs.Bytes.{write}
use Rattle.model.specs.Sound.{size_good, settings_good}
use Rattle.model.specs.Calls.{sized, asked_number}
use Rattle.model.specs.Text.{bytes, decimal_in, decimal, texts, over}
use Rattle.model.specs.Trace.{Trace, short, growth_of, top_of, LineChange, Holds, settings_text, rack_line, code_text, word_text, change_line, trace_text, on_first, lines_of, FirstBad}
use Rattle.model.specs.Record.{answer_line, pair_line, mean, end_text, end_line, pair_lines, after, kind_of, last_of, changes_text, record_text}
use Rattle.model.specs.Run.{Ran, blank, ran, recorded, longest, space_length}
use Rattle.model.proofs.Table.{adds, drops, computed}
use Rattle.model.proofs.Bench.{zeros}

unfoldable pub example : Trace
example = record { n = 4; settings = short; changes = adds 0 1 zeros ∷ adds 1 2 zeros ∷ adds 2 3 zeros ∷ drops 0 1 zeros ∷ adds 2 3 zeros ∷ [] }

-- "From"
unfoldable pub example_text : List ℕ
example_text =
    bytes "(rack (boards 4))\n(add (0 1) (draws 0 0))\n(add (1 2) (draws 0 0))\n(add (2 3) (draws 0 0))\n(drop (0 1) (draws 0 0))\n(add (2 3) (draws 0 0))\n"

-- "it prints"
unfoldable pub example_record : List ℕ
example_record =
    bytes "(rack (boards 4))\n(done (draws 1) (falls 0) (pairs 1))\n(done (draws 0) (falls 0) (pairs 1))\n(done (draws 1) (falls 0) (pairs 2))\n(done (draws 0) (falls 2) (pairs 1))\n(refused 10)\n(pair (2 3) (level 0))\n(end (pairs 1) (mean 1 0))\n"

-- a change of two small vertices with the words 0 0 fits on a line
fits : (code a b : ℕ) → (code ≡ 1) ⊎ (code ≡ 2) → a ≤ 3 → b ≤ 3 → LineChange (record { code = code; a = a; b = b; words = zeros })
unfolding zeros
fits code a b p q r = record {
  codes = p;
  a-fits = omega arith;
  b-fits = omega arith;
  few = omega arith;
  words-fit = (omega arith, (omega arith, tt));
}

pub example-holds : Holds example_text example
unfolding example example_text zeros trace_text growth_of top_of settings_text rack_line change_line code_text word_text texts decimal decimal_in
example-holds = record {
  n-fits = omega arith;
  settings-fit = (omega arith, omega arith);
  changes-fit = (
    fits 1 0 1 (inl refl) (omega arith) (omega arith),
    (
      fits 1 1 2 (inl refl) (omega arith) (omega arith),
      (
        fits 1 2 3 (inl refl) (omega arith) (omega arith),
        (fits 2 0 1 (inr refl) (omega arith) (omega arith), (fits 1 2 3 (inl refl) (omega arith) (omega arith), tt)),
      ),
    ),
  );
  printed = refl;
}

pub example-record : record_text example ≡ example_record
unfolding example example_record zeros record_text kind_of growth_of top_of settings_text rack_line changes_text answer_line pair_line pair_lines edges mean end_text texts decimal decimal_in computed
example-record = refl

-- So a run of the text, in any rack buffer and any record space of their lengths, puts the paper's record at the front of the space,
-- keeps the bytes past it, and answers 0 and the record's length.
pub example-ran : (rack space : List ℕ) → sized low rack ≡ true → space_length ≤ length space
    → Ran rack example_text space (recorded example_record) (write (last_of example)) (over 0 example_record space)
unfolding example
example-ran rack space p q =
    subst (λ (x : List ℕ). Ran rack example_text space (recorded x) (write (last_of example)) (over 0 x space))
    example-record (ran {t = example} p text-short q example-holds four-good)
  where
    text-short : length example_text ≤ longest
    text-short = unfold example_text in omega arith

    four-good : asked_number (kind_of example) 4 ≡ 0
    four-good = unfold example kind_of growth_of top_of asked_number size_good settings_good in refl

-- Another rack, whose mean has a rest: three boards in a row have two links and one pair, and four is once three and one over.
pub rest-line : end_line (after (rules low_kind) (empty low_kind 3) (adds 0 1 zeros ∷ adds 1 2 zeros ∷ [])) ≡ bytes "(end (pairs 1) (mean 1 1))\n"
unfolding zeros edges mean end_text decimal decimal_in computed
rest-line = refl

-- P12, as W-201 changes it: the empty text is taken, in any rack buffer and any record space of their lengths. The rack keeps its bytes, and sixteen
-- bytes of the space are written.
pub empty-text : (rack space : List ℕ) → sized low rack ≡ true → space_length ≤ length space
    → Ran rack [] space (record { number = 0; line = 0; length = 16 }) rack (over 0 (bytes "(end (pairs 0))\n") space)
empty-text rack space p q = blank p refl q

-- a text of one line feed has a line, which doesn't fit
pub feed-bad : FirstBad (lines_of (bytes "\n")) 1
unfolding lines_of FirstBad rack_line
feed-bad = λ (n, x, h, f, e). omega (arith, ap (λ (l : List ℕ). get_or l 0 0) e)

-- bytes after the last line feed are a line
pub cut : lines_of (bytes "ab\n\ncd") ≡ bytes "ab\n" ∷ bytes "\n" ∷ bytes "cd" ∷ []
unfolding on_first lines_of
cut = refl

-- a number has one decimal form
pub largest-decimal : decimal 4294967295 ≡ bytes "4294967295"
unfolding decimal decimal_in
largest-decimal = refl
