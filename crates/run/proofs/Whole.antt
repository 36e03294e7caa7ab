-- A run as a whole: from a text that fits, or a blank one, to its record, by the parts; and the making of its rack. Assumes nothing.
use mathlib.Core.Path.{◌≡◌, refl, sym, ap, ◌∙◌, subst, subst₂, subst₃}
use mathlib.Core.Logic.{◌≢◌}
use mathlib.Core.Bool.{Bool, true, false}
use mathlib.Core.List.{List, [], ◌∷◌, ◌++◌}
use Prim.Native.Nat.{ℕ, zero, suc, ◌+◌, ◌≤◌}
use native.Mathlib.Omega.{arith}
use lib.ListN.{length, take, drop, length-append}
use Rattle.std.specs.Prelude.{Option, None, Some, unwrap_or, Result, Ok, Err, MatchOption}
use Rattle.std.specs.Array.{IsWholeChunk}
use Rattle.std.specs.Borrow.{MutBor}
use Rattle.model.specs.Shape.{low, rack_length}
use Rattle.model.specs.State.{Kind, low_with, rules}
use Rattle.model.specs.Bytes.{kind_at, read, write}
use Rattle.model.specs.Calls.{sized, asked_number, make_number, made}
use Rattle.model.specs.Sound.{size_good, settings_good}
use Rattle.model.specs.Change.{Change}
use Rattle.model.specs.Lists.{All}
use Rattle.model.specs.Trace.{Settings as SettingsOf, growth_of, top_of, LineChange, Trace, Holds, rack_line}
use Rattle.model.specs.Record.{kind_of, rack_of, after, changes_text, record_text, blank_record}
use Rattle.model.specs.Run.{Ran, blank, bad-line, ran, bad-asked, RunAnswer, turned_back, longest, space_length}
use Rattle.text.specs.Writing.{Put}
use Rattle.text.proofs.Over.{part, back, put_as, put_then, put-kept, length_part}
use Rattle.trace.proofs.Bound.{space-enough, changes-most}
use Rattle.trace.proofs.RecordFits.{LowValid, asked-valid, bounded}
use Rattle.changes.proofs.Numbers.{some-number}
use Rattle.engine.proofs.Numbers.{sized-long, sized-short, make-asked, make-back, make-new, asked-five, asked-thirteen, asked-none}
use Rattle.changes.specs.Sounded.{Sounded}
use Rattle.calls.specs.declared.Refusal.{Refusal}
use Rattle.calls.specs.declared.Refusal.TheVariants.{RackLength, TextLength, SpaceLength, Line as BadLine, Boards, Unsound, Code, NoBoard, SameBoard, Linked, NotLinked, Words, Setting}
use Rattle.calls.specs.declared.Settings.{Settings}
use Rattle.calls.specs.Terms.{number_of, line_of, outcome, named_by, kind_with}
use Rattle.lines.specs.declared.Line.{Line}
use Rattle.trace.specs.declared.Trace.{Trace as TraceRead}
use Rattle.trace.specs.Check.{Checks, Kept}
use Rattle.run.specs.Recording.{changes_of, trace_of, IsKept, Ready, Played, Recordable, Written, Took, told}
use Rattle.run.proofs.Turns.{sounded-read}

-- the rack just made, where neither 5 nor 13 fits what line 1 asks for
pub fresh : (bs : List ℕ) (t : Trace) → asked_number (kind_of t) t.n ≡ 0 → bs ≡ write (rack_of t)
    → Sounded low bs × (read low bs ≡ rack_of t) × (kind_at low bs ≡ kind_of t)
unfolding kind_of
fresh bs t e w = sounded-read bs (rack_of t) w (asked-valid (kind_of t) t.n refl e)

-- line 1 was printed, where there is room for the record
module _ (t : Trace) {old w : List ℕ} {k : ℕ} (enough : Recordable t (length old)) (p : Put (rack_line t.n t.settings) old w k) where
  first-within : k ≤ length old
  first-within = omega (arith, enough, p.count)

  pub first-room : k ≤ length w
  first-room = omega (arith, first-within, put-kept p first-within)

  pub ready : Ready t.changes (length (part k w))
  ready = omega (arith, enough, p.count, length_part k w, put-kept p first-within)

  -- line 1 and what was played after it are the record
  pub written : {rack last new : List ℕ} {r : ℕ} → (read low rack ≡ rack_of t) × (kind_at low rack ≡ kind_of t)
      → Played t.changes rack last (part k w) new r → Written t last old (back k w new) (k + r)
  unfolding record_text
  written (e, same) g = record {
    leaves = g.leaves ∙ (λ i. write (after (rules (same i)) (e i) t.changes));
    prints = put_as _ _ (λ i. rack_line t.n t.settings ++ changes_text (rules (same i)) (e i) t.changes)
        (put_then p g.prints (omega (arith, first-within, p.count)));
  }

-- the record that was printed fits
pub record-within : {t : Trace} {last old new : List ℕ} {r : ℕ} → asked_number (kind_of t) t.n ≡ 0 → All LineChange t.changes → Recordable t (length old)
    → Written t last old new r → r ≤ length old
unfolding record_text kind_of
record-within {t} e lines enough w =
    let K : Kind = kind_of t in
    omega (
      arith,
      enough,
      w.prints.count,
      length-append (rack_line t.n t.settings) (changes_text (rules K) (rack_of t) t.changes),
      changes-most (rules K) (LowValid K) (bounded K) (rack_of t) t.changes (asked-valid K t.n refl e) lines,
    )

-- What the bytes lent are as an array: a rack, if they are as many as a rack has.
module _ (bs : List ℕ) {o : Option (MutBor (List ℕ))} (h : MatchOption o (length bs ≢ rack_length low) (λ y. IsWholeChunk bs y.now (rack_length low))) where
  pub no_rack : o ≡ None → sized low bs ≡ false
  no_rack e = let other : length bs ≢ rack_length low = rw e at h in sized-short low bs other

  pub whole-rack : {rack : MutBor (List ℕ)} → o ≡ Some rack → (sized low bs ≡ true) × (rack.now ≡ bs)
  whole-rack {rack} e = let whole : IsWholeChunk bs rack.now (rack_length low) = rw e at h in (sized-long low bs whole.long, whole.same)

-- Making in a rack: the rack asked for, or its number, 5 or 13.

-- "the short line means 4 and 3"
meant : (settings : Option Settings) → let x = named_by settings in
    kind_with (unwrap_or settings (record { growth = 4; top = 3 })) ≡ low_with (growth_of x) (top_of x)
unfolding growth_of top_of
meant None = refl
meant (Some x) = refl

-- a rack of the kind meant was made
pub made-meant : (t : Trace) (n : ℕ) (settings : Option Settings) {given : Settings} (r : Result (Unit {0}) Refusal) (rack last : List ℕ)
    → n ≡ t.n → named_by settings ≡ t.settings → given ≡ unwrap_or settings (record { growth = 4; top = 3 })
    → (outcome r ≡ make_number (kind_with given) rack n) × (last ≡ made (kind_with given) rack n)
    → (outcome r ≡ make_number (kind_of t) rack t.n) × (last ≡ made (kind_of t) rack t.n)
unfolding kind_of
made-meant t n settings {given} r rack last p q e m =
    let same : kind_with given ≡ kind_of t = ap kind_with e ∙ meant settings ∙ ap (λ (x : SettingsOf). low_with (growth_of x) (top_of x)) q in
    subst₂ (λ (K : Kind) (k : ℕ). (outcome r ≡ make_number K rack k) × (last ≡ made K rack k)) same p m

not-four : (K : Kind) (n : ℕ) → asked_number K n ≢ 4
not-four K n = go (size_good K.shape n) refl (settings_good K) refl
  where
    go : (x : Bool) → size_good K.shape n ≡ x → (y : Bool) → settings_good K ≡ y → asked_number K n ≢ 4
    go false e y f z = absurd (omega (arith, asked-five K n e, z))
    go true e false f z = absurd (omega (arith, asked-thirteen K n e f, z))
    go true e true f z = absurd (omega (arith, asked-none K n e f, z))

-- only number 4 has a line
no-line : (why : Refusal) → number_of why ≢ 4 → line_of why ≡ 0
no-line RackLength d = refl
no-line TextLength d = refl
no-line SpaceLength d = refl
no-line (BadLine line) d = absurd (d refl)
no-line Boards d = refl
no-line Unsound d = refl
no-line Code d = refl
no-line NoBoard d = refl
no-line SameBoard d = refl
no-line Linked d = refl
no-line NotLinked d = refl
no-line Words d = refl
no-line Setting d = refl

module _ (t : Trace) (rack last : List ℕ) (r : Result (Unit {0}) Refusal) (z : length rack ≡ rack_length low)
    (m : (outcome r ≡ make_number (kind_of t) rack t.n) × (last ≡ made (kind_of t) rack t.n)) where
  whole : sized (kind_of t).shape rack ≡ true
  unfolding kind_of
  whole = sized-long low rack z

  asked_is : asked_number (kind_of t) t.n ≡ outcome r
  asked_is = sym (make-asked (kind_of t) rack t.n whole) ∙ sym m.0

  -- 5 or 13 and every byte as it was
  pub took-back : (space : List ℕ) {why : Refusal} → r ≡ Err why → Took (asked_number (kind_of t) t.n) t rack space (told (Err why)) last space
  took-back space {why} e =
      let k : asked_number (kind_of t) t.n ≡ number_of why = asked_is ∙ ap outcome e in
      let line : line_of why ≡ 0 = no-line why (λ f. not-four (kind_of t) t.n (k ∙ f)) in
      let same : last ≡ rack = m.1 ∙ (make-back (kind_of t) rack t.n whole k (some-number why)).1 in
      subst (λ (j : ℕ). Took j t rack space (told (Err why)) last space) (sym k) (go (number_of why) refl (some-number why) line same)
    where
      go : (j : ℕ) → number_of why ≡ j → j ≢ 0 → line_of why ≡ 0 → last ≡ rack → Took j t rack space (told (Err why)) last space
      go zero e d line same = absurd (d refl)
      go (suc j) e d line same = (λ i. turned_back (e i) (line i), same, refl)

  -- the rack was made
  pub made-new : r ≡ Ok tt → (asked_number (kind_of t) t.n ≡ 0) × (last ≡ write (rack_of t))
  made-new e = let none = asked_is ∙ ap outcome e in (none, m.1 ∙ (make-new (kind_of t) rack t.n whole none).1)

-- its record was printed
pub took-record : (t : Trace) (rack : List ℕ) {space last new : List ℕ} {k : ℕ} → asked_number (kind_of t) t.n ≡ 0 → Written t last space new k
    → Took (asked_number (kind_of t) t.n) t rack space (told (Ok k)) last new
took-record t rack e w = rw e (refl, refl, w)

-- The answers.

answer-of : (a : RunAnswer) {k l m : ℕ} → a.number ≡ k → a.line ≡ l → a.length ≡ m → a ≡ record { number = k; line = l; length = m }
answer-of a p q r = λ i. record { number = p i; line = q i; length = r i }

-- the lengths of what is lent are those that a run takes
pub record Lent (rack text space : List ℕ) : Type 0 where
  pub whole : sized low rack ≡ true
  pub short : length text ≤ longest
  pub wide : space_length ≤ length space

-- a text that does not fit
pub turned-bad : {rack text space : List ℕ} (heads : List Line) (words : List ℕ) → Lent rack text space → (why : Refusal) → Checks text heads words (Err why)
    → Ran rack text space (told (Err why)) rack space
turned-bad heads words g (BadLine line) h = bad-line g.whole g.short g.wide h
turned-bad heads words g RackLength h = absurd h
turned-bad heads words g TextLength h = absurd h
turned-bad heads words g SpaceLength h = absurd h
turned-bad heads words g Boards h = absurd h
turned-bad heads words g Unsound h = absurd h
turned-bad heads words g Code h = absurd h
turned-bad heads words g NoBoard h = absurd h
turned-bad heads words g SameBoard h = absurd h
turned-bad heads words g Linked h = absurd h
turned-bad heads words g NotLinked h = absurd h
turned-bad heads words g Words h = absurd h
turned-bad heads words g Setting h = absurd h

-- a blank paper, whose record was printed
pub took-blank : {rack text space new : List ℕ} {k : ℕ} {a : RunAnswer} → Lent rack text space → text ≡ [] → Put blank_record space new k
    → a.number ≡ 0 → a.line ≡ 0 → a.length ≡ k → Ran rack text space a rack new
took-blank {rack} {text} {space} {a = a} g e w p q r =
    subst₂ (λ (x : RunAnswer) (y : List ℕ). Ran rack text space x rack y) (sym (answer-of a p q (r ∙ w.count))) (sym w.wrote)
    (blank g.whole e g.wide)

-- what is kept of changes that are kept
kept-length : (heads : List Line) (words : List ℕ) (cs : List Change) → Kept heads words cs → length cs ≤ length heads
kept-length heads words [] k = omega arith
kept-length [] words (c ∷ cs) k = absurd k
kept-length (x ∷ heads) words (c ∷ cs) k = omega (arith, kept-length heads (drop x.count words) cs k.2)

-- they stand in as many places
kept-cut : (heads : List Line) (words : List ℕ) (cs : List Change) → Kept heads words cs → let own = take (length cs) heads in
    Kept own words cs × (changes_of own words ≡ cs)
kept-cut heads words [] k = (tt, refl)
kept-cut [] words (c ∷ cs) k = absurd k
kept-cut (x ∷ heads) words (c ∷ cs) k =
    let rest = kept-cut heads (drop x.count words) cs k.2 in
    ((k.0, k.1, rest.0), λ i. sym k.1 i ∷ rest.1 i)

-- a text that fits the grammar, and the changes that are kept of it
module _ {rack text space : List ℕ} (heads : List Line) (words : List ℕ) (x : TraceRead) (g : Lent rack text space)
    (h : Checks text heads words (Ok (Some x))) where
  abbrev trace : Trace
  trace = trace_of x.n x.settings (take x.changes heads) words

  pub heads-within : x.changes ≤ length heads
  heads-within = let (cs, holds, count, kept) = h in omega (arith, count, kept-length heads words cs kept)

  -- the trace that the text holds is that of the changes kept
  cut : Kept (take x.changes heads) words trace.changes × Holds text trace
  cut =
      let (cs, holds, count, kept) = h in
      let places = ap (λ (m : ℕ). take m heads) count in
      let (stay, are) = kept-cut heads words cs kept in
      let same : trace.changes ≡ cs = ap (λ (l : List Line). changes_of l words) places ∙ are in (
        subst₂ (λ (l : List Line) (ds : List Change). Kept l words ds) (sym places) (sym same) stay,
        subst (λ (ds : List Change). Holds text (record { n = x.n; settings = named_by x.settings; changes = ds })) (sym same) holds,
      )

  pub is-kept : IsKept (take x.changes heads) words
  is-kept = record { kept = cut.0; lines = cut.1.changes-fit }

  -- there is room for its record
  pub recordable : Recordable trace (length space)
  recordable = omega (arith, g.wide, space-enough trace (subst (λ (l : List ℕ). length l ≤ longest) cut.1.printed g.short))

  -- 5 or 13, or its record
  pub took : {a : RunAnswer} {last new : List ℕ} → Took (asked_number (kind_of trace) trace.n) trace rack space a last new → Ran rack text space a last new
  took {a} {last} {new} = go (asked_number (kind_of trace) trace.n) refl
    where
      go : (k : ℕ) → asked_number (kind_of trace) trace.n ≡ k → Took k trace rack space a last new → Ran rack text space a last new
      go (suc k) f t =
          let back : Ran rack text space (turned_back (asked_number (kind_of trace) trace.n) 0) rack space =
          bad-asked {t = trace} g.whole g.short g.wide cut.1 (λ z. omega (arith, f, z)) in
          subst₃ (Ran rack text space) (ap (λ (m : ℕ). turned_back m 0) f ∙ sym t.0) (sym t.1) (sym t.2) back
      go zero f t =
          let v = t.2 in
          let answer = answer-of a t.0 t.1 v.prints.count in
          subst₃ (Ran rack text space) (sym answer) (sym v.leaves) (sym v.prints.wrote) (ran g.whole g.short g.wide cut.1 f)
