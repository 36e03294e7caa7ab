-- The loop over the changes: which of them are made, what is left to be made, and what is printed; how a turn moves it on, and its end.
-- No contract cites this file. Assumes nothing.
use mathlib.Core.Path.{◌≡◌, refl, sym, ap, ◌∙◌, subst}
use mathlib.Core.List.{List, [], ◌∷◌, ◌++◌, append_assoc}
use Prim.Native.Nat.{ℕ, ◌+◌, ◌*◌, ◌-◌, ◌≤◌}
use native.Mathlib.Omega.{arith}
use lib.ListN.{length, take, drop, length-drop, drop_of_length-le}
use lib.Seq.{drop-drop}
use Rattle.model.specs.Shape.{low}
use Rattle.model.specs.State.{Rules, Kind, rules, State}
use Rattle.model.specs.Bytes.{kind_at, rules_at, read, write}
use Rattle.model.specs.Lists.{All}
use Rattle.model.specs.Change.{Change, Changed, change}
use Rattle.model.specs.Trace.{LineChange}
use Rattle.model.specs.Record.{answer_line, after, changes_text}
use Rattle.model.proofs.Reading.{read-kind}
use Rattle.theory.proofs.OnBytes.{Rack, rack-of}
use Rattle.text.specs.Writing.{Put}
use Rattle.text.specs.Rooms.{answer_room, ending_room}
use Rattle.text.proofs.Over.{part, back, put_as, put-none, put_then, put-length}
use Rattle.text.proofs.Answers.{answer-most}
use Rattle.calls.specs.Terms.{code_of}
use Rattle.lines.specs.declared.Line.{Line}
use Rattle.lines.specs.Clauses.{change_of}
use Rattle.trace.specs.Check.{Kept}
use Rattle.trace.proofs.Bound.{ending-most}
use Rattle.trace.proofs.RecordFits.{LowValid, low_keeps, valid-small, valid-figures}
use Rattle.changes.specs.Sounded.{Sounded, brought}
use Rattle.changes.proofs.Answered.{rack-reads, sounded-of}
use Rattle.run.specs.Recording.{ending_text, changes_of, IsKept, Ready, Played}

-- bytes that write a valid state are sound, and reading them gives it again, and its kind
pub rack-of-low : {K : Kind} (s : State) → LowValid K s → Rack s
rack-of-low s ok = rack-of ok.good s (sym ok.kind) ok.valid

pub sounded-read : {K : Kind} (bs : List ℕ) (s : State) → bs ≡ write s → LowValid K s → Sounded low bs × (read low bs ≡ s) × (kind_at low bs ≡ K)
sounded-read bs s e ok =
    let rack = rack-of-low s ok in
    let shape = ap (λ (L : Kind). L.shape) ok.kind ∙ ok.shape in
    let reads : read low bs ≡ s = rack-reads bs s shape e rack in
    (sounded-of bs s shape e rack, reads, sym (read-kind low bs) ∙ ap (λ (x : State). x.kind) reads ∙ ok.kind)

-- and sound bytes read as one
pub sounded-valid : {bs : List ℕ} → Sounded low bs → LowValid (kind_at low bs) (read low bs)
sounded-valid {bs} ok = record { shape = refl; good = ok.kind; kind = read-kind low bs; valid = ok.valid }

-- the lines after those of the changes have room
ending-fits : {K : Kind} (s : State) → LowValid K s → length (ending_text s) ≤ ending_room
unfolding ending_text
ending-fits s ok = ending-most s (valid-small s ok)

-- The first k of the changes are made, and those from the k-th head and the w-th word on are still to be made.
pub record Going (heads : List Line) (words rack₀ rack out₀ out : List ℕ) (k w at : ℕ) : Type 0 where
  pub within : w ≤ length words
  pub kept : Kept (drop k heads) (drop w words) (changes_of (drop k heads) (drop w words))
  pub lines : All LineChange (changes_of (drop k heads) (drop w words))
  pub sounded : Sounded low rack
  pub leaves : after (rules_at rack₀) (read low rack₀) (changes_of heads words)
      ≡ after (rules_at rack) (read low rack) (changes_of (drop k heads) (drop w words))
  pub done : List ℕ
  pub wrote : Put done out₀ out at
  pub whole : changes_text (rules_at rack₀) (read low rack₀) (changes_of heads words)
      ≡ done ++ changes_text (rules_at rack) (read low rack) (changes_of (drop k heads) (drop w words))
  pub room : at + answer_room * length (drop k heads) + ending_room ≤ length out₀

changes-count : (heads : List Line) (words : List ℕ) → length (changes_of heads words) ≡ length heads
changes-count [] words = refl
changes-count (x ∷ heads) words = omega (arith, changes-count heads (drop x.count words))

pub going_start : {heads : List Line} {words rack out : List ℕ} → Sounded low rack → IsKept heads words → Ready (changes_of heads words) (length out)
    → Going heads words rack rack out out 0 0 0
going_start {heads} {words} {out = out} ok k r = record {
  within = omega arith;
  kept = k.kept;
  lines = k.lines;
  sounded = ok;
  leaves = refl;
  done = [];
  wrote = put-none out;
  whole = refl;
  room = omega (arith, r, changes-count heads words);
}

module _ {heads : List Line} {words rack₀ rack out₀ out : List ℕ} {k w at : ℕ} (g : Going heads words rack₀ rack out₀ out k w at) where
  -- what is written fits
  done-within : length g.done ≤ length out₀
  done-within = omega (arith, g.wrote.count, g.room)

  -- there is room for the ending
  pub ending-room : at + ending_room ≤ length out
  ending-room = omega (arith, g.room, put-length g.wrote done-within)

  -- The change whose turn it is has the head x.
  module _ {x : Line} (e : drop k heads ≡ x ∷ drop (k + 1) heads) where
    abbrev next : Change
    next = change_of (drop w words) x

    abbrev later : List Change
    later = changes_of (drop (k + 1) heads) (drop x.count (drop w words))

    kept-split : Kept (x ∷ drop (k + 1) heads) (drop w words) (next ∷ later)
    kept-split = subst (λ (l : List Line). Kept l (drop w words) (changes_of l (drop w words))) e g.kept

    lines-split : LineChange next × All LineChange later
    lines-split = subst (λ (l : List Line). All LineChange (changes_of l (drop w words))) e g.lines

    -- its words are there
    pub words-within : w + x.count ≤ length words
    words-within = omega (arith, g.within, length-drop w words, kept-split.0)

    -- those that are lent to it
    lent : take (w + x.count - w) (drop w words) ≡ take x.count (drop w words)
    lent = let same : w + x.count - w ≡ x.count = omega arith in ap (λ (m : ℕ). take m (drop w words)) same

    -- there is room for a line, and for the ending after it
    pub line-room : at + answer_room + ending_room ≤ length out
    line-room = omega (arith, g.room, ap length e, put-length g.wrote done-within)

    -- the words lent to it are few
    pub words-few : length (take (w + x.count - w) (drop w words)) ≤ 128
    words-few = omega (arith, ap length lent, lines-split.0.few)

    -- the change was made, and its line written
    pub going-turn : {now last : List ℕ} {m : ℕ}
        → let d = change (rules_at rack) (read low rack) (brought (code_of x.kind) x.a x.b (take (w + x.count - w) (drop w words))) in
        (now ≡ write d.state) × Put (answer_line d.answer) (part at out) last m
        → Going heads words rack₀ now out₀ (back at out last) (k + 1) (w + x.count) (at + m)
    unfolding after changes_text
    going-turn {now = now} {m = m} made =
        let s : State = read low rack in
        let R : Rules = rules_at rack in
        let is = ap (λ (l : List ℕ). change R s (brought (code_of x.kind) x.a x.b l)) lent in
        let made_now : now ≡ write (change R s next).state = made.0 ∙ ap (λ (d : Changed). write d.state) is in
        let line : List ℕ = answer_line (change R s next).answer in
        let p = put_as _ line (ap (λ (d : Changed). answer_line d.answer) is) made.1 in
        let (ok, b, same) = sounded-read now (change R s next).state made_now (low_keeps s (sounded-valid g.sounded) next) in
        let few : m ≤ answer_room = omega (arith, p.count, answer-most _ (valid-figures s (sounded-valid g.sounded) next lines-split.0)) in
        let rest : List ℕ → List Change = changes_of (drop (k + 1) heads) in
        let d : drop x.count (drop w words) ≡ drop (w + x.count) words = drop-drop x.count w words in
        record {
          within = words-within;
          kept = subst (λ (l : List ℕ). Kept (drop (k + 1) heads) l (rest l)) d kept-split.2;
          lines = subst (λ (l : List ℕ). All LineChange (rest l)) d lines-split.1;
          sounded = ok;
          leaves =
              g.leaves
              ∙ ap (λ (l : List Line). after R s (changes_of l (drop w words))) e
              ∙ (λ i. after (rules (sym same i)) (sym b i) (rest (d i)));
          done = g.done ++ line;
          wrote = put_then g.wrote p done-within;
          whole =
              g.whole
              ∙ ap (λ (l : List Line). g.done ++ changes_text R s (changes_of l (drop w words))) e
              ∙ sym (append_assoc g.done line (changes_text R (change R s next).state later))
              ∙ (λ i. (g.done ++ line) ++ changes_text (rules (sym same i)) (sym b i) (rest (d i)));
          room = omega (arith, g.room, ap length e, few);
        }

  -- nothing is left
  rest-none : length heads ≤ k → changes_of (drop k heads) (drop w words) ≡ []
  rest-none h = ap (λ (l : List Line). changes_of l (drop w words)) (drop_of_length-le heads h)

  -- the lines after those of the changes were written
  module _ {last : List ℕ} {m : ℕ} (p : Put (ending_text (read low rack)) (part at out) last m) where
    pub end-within : at + m ≤ length out₀
    end-within = omega (arith, g.room, p.count, ending-fits (read low rack) (sounded-valid g.sounded))

    pub going_end : length heads ≤ k → Played (changes_of heads words) rack₀ rack out₀ (back at out last) (at + m)
    unfolding after changes_text ending_text
    going_end h =
        let e = rest-none h in
        let whole = g.whole ∙ ap (λ (l : List Change). g.done ++ changes_text (rules_at rack) (read low rack) l) e in
        record {
          leaves = g.sounded.written ∙ ap write (sym (g.leaves ∙ ap (after (rules_at rack) (read low rack)) e));
          prints = put_as _ _ (sym whole) (put_then g.wrote p done-within);
        }
