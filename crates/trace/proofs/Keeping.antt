-- Changes that are kept: the first of them, one change more, and which changes they are. Assumes nothing.
use mathlib.Core.Path.{◌≡◌, refl, sym, ap, ◌∙◌, subst}
use mathlib.Core.List.{List, [], ◌∷◌, ◌++◌}
use Prim.Native.Nat.{ℕ, ◌+◌, ◌*◌, ◌≤◌, ◌<◌}
use native.Mathlib.Omega.{arith}
use lib.ListN.{length, take, drop, set, length-append, length-take, length-drop, take-append-drop}
use lib.Seq.{length-take-le}
use Rattle.std.proofs.lemmas.List.{drop-take, drop-drop, take-append-le}
use Rattle.model.specs.Change.{Change}
use Rattle.model.specs.Trace.{word_text, change_line, LineChange}
use Rattle.text.specs.Reading.{Found}
use Rattle.text.proofs.Decimals.{length-pos}
use Rattle.text.proofs.Texts.{texts-least}
use Rattle.calls.specs.Terms.{code_of}
use Rattle.lines.specs.declared.Line.{Line}
use Rattle.lines.specs.Clauses.{change_of}
use Rattle.trace.specs.Check.{Kept}
use Rattle.trace.proofs.Whole.{code-least}

-- how many words the changes have
abbrev pub total : List Change → ℕ
total [] = 0
total (c ∷ cs) = length c.words + total cs

pub total-more : (cs : List Change) (c : Change) → total (cs ++ (c ∷ [])) ≡ total cs + length c.words
total-more [] c = omega arith
total-more (d ∷ cs) c = omega (arith, total-more cs c)

-- a head whose words are there tells how many the change has
pub head-count : (words : List ℕ) (x : Line) (c : Change) → x.count ≤ length words → c ≡ change_of words x → length c.words ≡ x.count
head-count words x c few e = ap (λ (d : Change). length d.words) e ∙ length-take-le x.count words few

-- the first of them, and those after it
pub record First (heads : List Line) (words : List ℕ) (c : Change) (cs : List Change) : Type 0 where
  pub head : Line
  pub others : List Line
  pub is : heads ≡ head ∷ others
  pub few : head.count ≤ length words
  pub change : c ≡ change_of words head
  pub then : Kept others (drop head.count words) cs

pub kept-first : (heads : List Line) (words : List ℕ) (c : Change) (cs : List Change) → Kept heads words (c ∷ cs) → First heads words c cs
kept-first [] words c cs k = absurd k
kept-first (x ∷ heads) words c cs k = record { head = x; others = heads; is = refl; few = k.0; change = k.1; then = k.2 }

take-short : (n t : ℕ) (l : List ℕ) → n ≤ length l → take n l ≡ take n (take (n + t) l)
take-short n t l h =
    ap (take n) (sym (take-append-drop (n + t) l)) ∙ take-append-le n (take (n + t) l) (drop (n + t) l) (omega (arith, length-take (n + t) l))

-- one change more, whose head is stored and whose words stand after those before
pub kept_more : (heads : List Line) (words after : List ℕ) (cs : List Change) (x : Line) → Kept heads words cs → length cs < length heads
    → length after ≡ length words → take (total cs) after ≡ take (total cs) words → x.count ≤ length (drop (total cs) after)
    → Kept (set heads (length cs) x) after (cs ++ (change_of (drop (total cs) after) x ∷ []))
kept_more [] words after [] x k room long same few = absurd (omega (arith, room))
kept_more [] words after (c ∷ cs) x k room long same few = absurd (omega (arith, room))
kept_more (y ∷ heads) words after [] x k room long same few = (few, refl, tt)
kept_more (y ∷ heads) words after (c ∷ cs) x k room long same few =
    let n = y.count in
    let t = total cs in
    let e : total (c ∷ cs) ≡ n + t = ap (λ (m : ℕ). m + t) (head-count words y c k.0 k.1) in
    let s : take (n + t) after ≡ take (n + t) words = subst (λ (m : ℕ). take m after ≡ take m words) e same in
    let own : take n words ≡ take n after =
    take-short n t words k.0 ∙ ap (take n) (sym s) ∙ sym (take-short n t after (omega (arith, k.0, long))) in
    let rest : take t (drop n after) ≡ take t (drop n words) = sym (drop-take n t after) ∙ ap (drop n) s ∙ drop-take n t words in
    let d : drop (total (c ∷ cs)) after ≡ drop t (drop n after) = ap (λ (m : ℕ). drop m after) e ∙ sym (drop-drop t n after) in
    let l : length (drop n after) ≡ length (drop n words) = omega (arith, long, length-drop n after, length-drop n words) in
    let more = kept_more heads (drop n words) (drop n after) cs x k.2 (omega arith) l rest (subst (λ (u : List ℕ). x.count ≤ length u) d few) in (
      omega arith,
      k.1 ∙ ap (λ (u : List ℕ). record { code = code_of y.kind; a = y.a; b = y.b; words = u }) own,
      subst (λ (u : List ℕ). Kept (set heads (length cs) x) (drop n after) (cs ++ (change_of u x ∷ []))) (sym d) more,
    )

-- a change's line has 20 bytes and two for each word
word-least : (w : ℕ) → 2 ≤ length (word_text w)
unfolding word_text
word-least w = omega (arith, length-pos w)

pub line-least : (c : Change) → 20 + 2 * length c.words ≤ length (change_line c)
unfolding change_line
line-least c = simp length-append (omega (arith, code-least c.code, length-pos c.a, length-pos c.b, texts-least word_text 2 word-least c.words))

pub longer : {s : List ℕ} {at : ℕ} {c : Change} {next : ℕ} → Found change_line LineChange s at c next → at + 20 + 2 * length c.words ≤ next
longer {s} {at} {c} {next} f = omega (arith, f.within, line-least c, simp (length-append, length-drop) at (ap length f.stands))

-- as many changes kept in the same places are the same
pub kept_same : (heads : List Line) (words : List ℕ) (cs ds : List Change) → length cs ≡ length ds → Kept heads words cs → Kept heads words ds → cs ≡ ds
kept_same heads words [] [] l k m = refl
kept_same heads words [] (d ∷ ds) l k m = absurd (omega (arith, l))
kept_same heads words (c ∷ cs) [] l k m = absurd (omega (arith, l))
kept_same [] words (c ∷ cs) (d ∷ ds) l k m = absurd k
kept_same (x ∷ heads) words (c ∷ cs) (d ∷ ds) l k m =
    let first = k.1 ∙ sym m.1 in
    let others = kept_same heads (drop x.count words) cs ds (omega (arith, l)) k.2 m.2 in
    λ i. first i ∷ others i
