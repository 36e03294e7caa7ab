-- Laws of the lines of a text: a printed line is one line, and the first line of a text at which no good line stands doesn't fit.
-- Assumes nothing.
use Prim.Native.Nat.{ℕ, suc, ◌<◌}
use mathlib.Core.Path.{◌≡◌, refl, sym, ap, ◌∙◌, subst}
use mathlib.Core.Logic.{inl, inr}
use mathlib.Core.Bool.{Bool, true, false}
use mathlib.Core.List.{List, [], ◌∷◌, ◌++◌, append_assoc}
use native.Mathlib.Omega.{arith}
use lib.ListN.{length}
use borrow.Author.Tests.{ne_eqb}
use Rattle.model.specs.Lists.{All}
use Rattle.model.specs.Text.{bytes, decimal, texts}
use Rattle.model.specs.Change.{Change}
use Rattle.model.specs.Trace.{Settings, short, long, settings_text, rack_line, code_text, word_text, change_line, LineChange, on_first, lines_of, FirstBadChange, FirstBad}
use Rattle.model.proofs.Tests.{eq?}
use Rattle.text.specs.Number.{is_digit}
use Rattle.text.proofs.Decimals.{Digits, none, more, decimal-digits}
use Rattle.lines.specs.Pieces.{first_line, FitFirst}
use Rattle.lines.proofs.Laws.{code-text}

-- A line: no line feed but the one at its end.

abbrev NoFeed : List ℕ → Type 0
NoFeed [] = Unit
NoFeed (b ∷ t) = (b ≡ 10 → ⊥) × NoFeed t

no-feed-append : (p q : List ℕ) → NoFeed p → NoFeed q → NoFeed (p ++ q)
no-feed-append [] q f g = g
no-feed-append (b ∷ p) q f g = (f.0, no-feed-append p q f.1 g)

no-feed-digits : {d : List ℕ} → Digits d → NoFeed d
unfolding is_digit
no-feed-digits none = tt
no-feed-digits (more {b = b} h r) =
    ((λ e. let z : ◌≡◌ {A = Bool} true false = sym h ∙ ap is_digit e in let y : ◌≡◌ {A = ℕ} 0 1 = cc in omega arith), no-feed-digits r)

no-feed-decimal : (n : ℕ) → NoFeed (decimal n)
no-feed-decimal n = no-feed-digits (decimal-digits n)

pub record OneLine (l : List ℕ) : Type 0 where
  body : List ℕ
  clean : NoFeed body
  whole : l ≡ body ++ (10 ∷ [])

one_more : (p : List ℕ) {l : List ℕ} → NoFeed p → OneLine l → OneLine (p ++ l)
one_more p f o = record {
  body = p ++ o.body;
  clean = no-feed-append p o.body f o.clean;
  whole = ap (λ (u : List ℕ). p ++ u) o.whole ∙ sym (append_assoc p o.body (10 ∷ []));
}

one_end : OneLine (bytes "))\n")
one_end = record { body = 41 ∷ 41 ∷ []; clean = omega arith; whole = refl }

settings-clean : (x : Settings) → NoFeed (settings_text x)
unfolding settings_text
settings-clean short = tt
settings-clean (long growth top) =
    let top-on = decimal top ++ bytes ")" in
    let growth-on = decimal growth ++ (bytes ") (top " ++ top-on) in
    let before : NoFeed (bytes " (growth ") = omega arith in
    let between : NoFeed (bytes ") (top ") = omega arith in
    let end : NoFeed (bytes ")") = omega arith in
    no-feed-append (bytes " (growth ") growth-on before
    (no-feed-append (decimal growth) (bytes ") (top " ++ top-on) (no-feed-decimal growth)
    (no-feed-append (bytes ") (top ") top-on between (no-feed-append (decimal top) (bytes ")") (no-feed-decimal top) end)))

pub rack-line : (n : ℕ) (x : Settings) → OneLine (rack_line n x)
unfolding rack_line
rack-line n x =
    one_more (bytes "(rack (boards ") (omega arith)
    (one_more (decimal n) (no-feed-decimal n)
    (one_more (bytes ")") (omega arith)
    (one_more (settings_text x) (settings-clean x) (record { body = 41 ∷ []; clean = omega arith; whole = refl }))))

code-clean : (code : ℕ) → NoFeed (code_text code)
code-clean code = elim (code-text code) [ inl e ↦ subst NoFeed (sym e) (omega arith) | inr e ↦ subst NoFeed (sym e) (omega arith) ]

words-clean : (ws : List ℕ) → NoFeed (texts word_text ws)
unfolding texts word_text
words-clean [] = tt
words-clean (w ∷ ws) = (omega arith, no-feed-append (decimal w) (texts word_text ws) (no-feed-decimal w) (words-clean ws))

pub change-line : (c : Change) → OneLine (change_line c)
unfolding change_line
change-line c =
    one_more (code_text c.code) (code-clean c.code)
    (one_more (decimal c.a) (no-feed-decimal c.a)
    (one_more (bytes " ") (omega arith)
    (one_more (decimal c.b) (no-feed-decimal c.b)
    (one_more (bytes ") (draws") (omega arith) (one_more (texts word_text c.words) (words-clean c.words) one_end)))))

-- The lines of a text.

pub lines-feed : (t : List ℕ) → lines_of (10 ∷ t) ≡ (10 ∷ []) ∷ lines_of t
unfolding lines_of
lines-feed t = refl

pub lines_other : (b : ℕ) (t : List ℕ) → (b ≡ 10 → ⊥) → lines_of (b ∷ t) ≡ on_first b (lines_of t)
unfolding lines_of
lines_other b t h = rw (ne_eqb b 10 h, lines_of)

body-then : (q rest : List ℕ) → NoFeed q → lines_of ((q ++ (10 ∷ [])) ++ rest) ≡ (q ++ (10 ∷ [])) ∷ lines_of rest
unfolding on_first
body-then [] rest f = lines-feed rest
body-then (b ∷ q) rest f = lines_other b ((q ++ (10 ∷ [])) ++ rest) f.0 ∙ ap (on_first b) (body-then q rest f.1)

-- a line and then a text
pub line-then : {l : List ℕ} (rest : List ℕ) → OneLine l → lines_of (l ++ rest) ≡ l ∷ lines_of rest
line-then rest o =
    ap (λ (l : List ℕ). lines_of (l ++ rest)) o.whole ∙ body-then o.body rest o.clean ∙ ap (λ (l : List ℕ). l ∷ lines_of rest) (sym o.whole)

-- a text starts with its first line
abbrev FirstAt : List ℕ → List (List ℕ) → Type 0
FirstAt t [] = t ≡ []
FirstAt t (l ∷ ls) = (rest : List ℕ) × (t ≡ l ++ rest)

first_on : (b : ℕ) (t : List ℕ) (ls : List (List ℕ)) → FirstAt t ls → FirstAt (b ∷ t) (on_first b ls)
unfolding on_first
first_on b t [] s = (t, refl)
first_on b t (l ∷ ls) s = (s.0, ap (λ (u : List ℕ). b ∷ u) s.1)

first-at : (t : List ℕ) → FirstAt t (lines_of t)
first-at [] = unfold lines_of in refl
first-at (b ∷ t) =
    let ih = first-at t in
    elim (eq? b 10) [
      | inl e ↦ subst (FirstAt (b ∷ t)) (sym (ap (λ (x : ℕ). lines_of (x ∷ t)) e ∙ lines-feed t)) (t, ap (λ (x : ℕ). x ∷ t) e)
      | inr h ↦ subst (FirstAt (b ∷ t)) (sym (lines_other b t h)) (first_on b t (lines_of t) ih)
    ]

-- The first line that does not fit.

-- some text is there, and no rack line stands at its start: line 1 does not fit
pub bad-rack : (s : List ℕ) → 0 < length s
    → ((x : ℕ × Settings) (rest : List ℕ) → FitFirst x → s ≡ first_line x ++ rest → ⊥) → FirstBad (lines_of s) 1
bad-rack s some absent = go (lines_of s) (first-at s)
  where
    go : (ls : List (List ℕ)) → FirstAt s ls → FirstBad ls 1
    go [] h = absurd (omega (arith, ap length h))
    go (l ∷ ls) h = unfold FirstBad in (λ k. absent (k.0, k.1) h.0 (k.2, k.3) (h.1 ∙ ap (λ (u : List ℕ). u ++ h.0) k.4))

-- no change's line stands at the start of t
abbrev NoChange : List ℕ → Type 0
NoChange t = (c : Change) (rest : List ℕ) → LineChange c → t ≡ change_line c ++ rest → ⊥

-- after good changes, no change stands at the start of what is left, which is not empty
bad-here : (t : List ℕ) → 0 < length t → NoChange t → FirstBadChange (lines_of t) 0
bad-here t some absent = go (lines_of t) (first-at t)
  where
    go : (ls : List (List ℕ)) → FirstAt t ls → FirstBadChange ls 0
    go [] h = absurd (omega (arith, ap length h))
    go (l ∷ ls) h = unfold FirstBadChange in (λ k. absent k.0 h.0 k.1 (h.1 ∙ ap (λ (u : List ℕ). u ++ h.0) k.2))

bad-after : (cs : List Change) (t : List ℕ) → All LineChange cs → 0 < length t → NoChange t → FirstBadChange (lines_of (texts change_line cs ++ t)) (length cs)
unfolding texts FirstBadChange
bad-after [] t g some absent = bad-here t some absent
bad-after (c ∷ cs) t g some absent =
    let e : lines_of ((change_line c ++ texts change_line cs) ++ t) ≡ change_line c ∷ lines_of (texts change_line cs ++ t) =
    ap lines_of (append_assoc (change_line c) (texts change_line cs) t) ∙ line-then (texts change_line cs ++ t) (change-line c) in
    subst (λ (ls : List (List ℕ)). FirstBadChange ls (suc (length cs))) (sym e) ((c, g.0, refl), bad-after cs t g.1 some absent)

pub bad-change : (s : List ℕ) (x : ℕ × Settings) (cs : List Change) (t : List ℕ) → FitFirst x → All LineChange cs
    → s ≡ first_line x ++ (texts change_line cs ++ t) → 0 < length t → NoChange t → FirstBad (lines_of s) (suc (suc (length cs)))
unfolding FirstBad
bad-change s x cs t fit g e some absent =
    let l : lines_of s ≡ first_line x ∷ lines_of (texts change_line cs ++ t) = ap lines_of e ∙ line-then (texts change_line cs ++ t) (rack-line x.0 x.1) in
    subst (λ (ls : List (List ℕ)). FirstBad ls (suc (suc (length cs)))) (sym l) ((x.0, x.1, fit.0, fit.1, refl), bad-after cs t g some absent)
