-- The loop of `trace::read`, through which one reader goes, without the code's run.
--     Read             the lines read so far are line 1 and some changes, which are kept
--     rack-holds       it holds after line 1, or that is the first that doesn't fit
--     started, more    it holds after line 1, and after one line more
--     done             where the loop is left, the text holds a trace
--     first-bad, next-bad    a line that was not read is the first that doesn't fit
-- Assumes nothing.
use Prim.Native.Nat.{ℕ, ◌+◌, ◌*◌, ◌≤◌, ◌<◌}
use mathlib.Core.Path.{◌≡◌, refl, sym, ap, ◌∙◌, subst}
use mathlib.Core.List.{List, [], ◌∷◌, ◌++◌, append-nil}
use native.Mathlib.Omega.{arith}
use lib.ListN.{length, take, drop, set, length-drop, drop_of_length-le}
use lib.Seq.{length-take-le}
use Rattle.std.specs.Prelude.{Option, None, Some, Result, Ok, Err, IsErrAnd}
use Rattle.std.specs.Option.{ok_or}
use Rattle.model.specs.Lists.{All}
use Rattle.model.specs.Text.{texts}
use Rattle.model.specs.Change.{Change}
use Rattle.model.specs.Trace.{Holds, trace_text, change_line, LineChange, lines_of, FirstBad}
use Rattle.text.proofs.Texts.{all_snoc}
use Rattle.calls.specs.Terms.{named_by}
use Rattle.lines.specs.Pieces.{first_line, FitFirst}
use Rattle.lines.specs.Clauses.{first_of, RackAt, change_of}
use Rattle.lines.specs.declared.FirstLine.{FirstLine}
use Rattle.lines.specs.declared.Line.{Line}
use Rattle.reader.specs.Place.{ChangeInto}
use Rattle.trace.specs.Check.{Kept}
use Rattle.trace.proofs.Lines.{bad-rack, bad-change}
use Rattle.trace.proofs.Whole.{trace-more, length-snoc}
use Rattle.trace.proofs.Keeping.{total, kept_more, total-more, longer}

-- up to `at`, with n changes and m words
pub record Read (text : List ℕ) (first : FirstLine) (heads : List Line) (words : List ℕ) (at n m : ℕ) : Type 0 where
  pub within : at ≤ length text
  pub fits : FitFirst (first_of first)
  pub far : 20 * n + 2 * m ≤ at
  pub changes : List Change
  pub fit : All LineChange changes
  pub stands : text ≡ first_line (first_of first) ++ (texts change_line changes ++ drop at text)
  pub number : n ≡ length changes
  pub sum : m ≡ total changes
  pub kept : Kept heads words changes

-- line 1
pub started : {text : List ℕ} {first : FirstLine} {at : ℕ} (heads : List Line) (words : List ℕ) → RackAt text 0 (Some (first, at))
    → Read text first heads words at 0 0
unfolding texts
started heads words f = record {
  within = f.within;
  fits = f.good;
  far = omega arith;
  changes = [];
  fit = tt;
  stands = f.stands;
  number = refl;
  sum = refl;
  kept = tt;
}

pub first-bad : {text : List ℕ} → 0 < length text → RackAt text 0 None → FirstBad (lines_of text) 1
first-bad {text} some f = bad-rack text some f

-- by what was read as line 1
abbrev pub AfterRack : List ℕ → List Line → List ℕ → Option (FirstLine × ℕ) → Type 0
AfterRack text heads words None = FirstBad (lines_of text) 1
AfterRack text heads words (Some (first, at)) = Read text first heads words at 0 0

pub rack-holds : (text : List ℕ) (heads : List Line) (words : List ℕ) (r : Option (FirstLine × ℕ)) → 0 < length text → RackAt text 0 r
    → AfterRack text heads words r
rack-holds text heads words None some f = first-bad some f
rack-holds text heads words (Some (first, at)) some f = started heads words f

module _ {text : List ℕ} {first : FirstLine} {heads : List Line} {words : List ℕ} {at n m : ℕ} (r : Read text first heads words at n m) where
  -- one line more
  pub more : (after : List ℕ) (line : Line) (next : ℕ) → ChangeInto text at m words after (Some (line, next)) → length after ≡ length words
      → n < length heads → m + 128 ≤ length words → Read text first (set heads n line) after next (n + 1) (m + line.count)
  more after line next ((few, found), before) same room enough =
      let cs = r.changes in
      let last = drop m after in
      let c = change_of last line in
      let own : length c.words ≡ line.count = length-take-le line.count last (omega (arith, length-drop m after)) in
      let few-left : line.count ≤ length (drop (total cs) after) =
      subst (λ (k : ℕ). line.count ≤ length (drop k after)) r.sum (omega (arith, length-drop m after)) in
      let stored = kept_more heads words after cs line r.kept (omega (arith, r.number)) same
      (subst (λ (k : ℕ). take k after ≡ take k words) r.sum before) few-left in
      record {
        within = found.within;
        fits = r.fits;
        far = omega (arith, longer found, own, r.far);
        changes = cs ++ (c ∷ []);
        fit = all_snoc LineChange cs c r.fit found.good;
        stands = trace-more text (first_line (first_of first)) cs c (drop at text) _ r.stands found.stands;
        number = omega (arith, r.number, length-snoc cs c);
        sum = omega (arith, r.sum, total-more cs c, own);
        kept =
            subst (λ (k : ℕ). Kept (set heads k line) after (cs ++ (c ∷ []))) (sym r.number)
            (subst (λ (k : ℕ). Kept (set heads (length cs) line) after (cs ++ (change_of (drop k after) line ∷ []))) (sym r.sum) stored);
      }

  pub next-bad : (after : List ℕ) → ChangeInto text at m words after None → at < length text → FirstBad (lines_of text) (n + 2)
  next-bad after (none, before) left =
      let rest : 0 < length (drop at text) = omega (arith, length-drop at text, left) in
      let bad = bad-change text (first_of first) r.changes (drop at text) r.fits r.fit r.stands rest none.1 in
      subst (FirstBad (lines_of text)) (omega (arith, r.number)) bad

  -- the whole text
  pub done : length text ≤ at
      → (cs : List Change) × Holds text (record { n = first.n; settings = named_by first.settings; changes = cs }) × (n ≡ length cs) × Kept heads words cs
  unfolding trace_text
  done over =
      let lines = texts change_line r.changes in
      let none : drop at text ≡ [] = drop_of_length-le text over in
      let all : lines ++ drop at text ≡ lines = ap (λ (u : List ℕ). lines ++ u) none ∙ append-nil lines in
      let printed = r.stands ∙ ap (λ (u : List ℕ). first_line (first_of first) ++ u) all in
      (r.changes, record { n-fits = r.fits.0; settings-fit = r.fits.1; changes-fit = r.fit; printed = printed }, r.number, r.kept)

-- What `?` answers of a value that is missing.
pub refused : {A T E : Type 0} (o : Option A) (why e : E) (r : Result T E) → o ≡ None → Err e ≡ ok_or o why → IsErrAnd r (λ f. f ≡ e) → r ≡ Err why
refused o why e (Err f) none p q = let s = rw none at p in cc
refused o why e (Ok x) none p q = elim q [ ]
