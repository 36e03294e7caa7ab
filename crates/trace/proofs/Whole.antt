-- Laws of a whole trace: how its text grows by a line, that a text holds one trace alone, and that a text that fits has no line that
-- doesn't, and a blank one neither. Assumes nothing.
use Prim.Native.Nat.{ℕ, zero, suc, ◌≤◌, ◌<◌}
use mathlib.Core.Path.{◌≡◌, refl, sym, ap, ◌∙◌, subst}
use mathlib.Core.Logic.{inl, inr}
use mathlib.Core.List.{List, [], ◌∷◌, ◌++◌, append_assoc}
use native.Mathlib.Omega.{arith}
use native.Mathlib.Numerals.{add-one}
use lib.ListN.{length, length-append}
use Rattle.model.specs.Lists.{All}
use Rattle.model.specs.Text.{texts}
use Rattle.model.specs.Change.{Change}
use Rattle.model.specs.Trace.{Trace, Holds, trace_text, rack_line, code_text, change_line, LineChange, on_first, lines_of, FirstBadChange, FirstBad}
use Rattle.model.proofs.Tests.{eq?}
use Rattle.text.proofs.Decimals.{length-pos}
use Rattle.text.proofs.Texts.{texts-snoc}
use Rattle.lines.proofs.Laws.{code-text, rack-sole, change-sole}
use Rattle.trace.proofs.Lines.{line-then, rack-line, change-line, lines-feed, lines_other}

-- One line more.

pub trace-more : (s first : List ℕ) (cs : List Change) (c : Change) (t u : List ℕ) → s ≡ first ++ (texts change_line cs ++ t)
    → t ≡ change_line c ++ u → s ≡ first ++ (texts change_line (cs ++ (c ∷ [])) ++ u)
trace-more s first cs c t u e h =
    e
    ∙ ap (λ (v : List ℕ). first ++ (texts change_line cs ++ v)) h
    ∙ ap (λ (v : List ℕ). first ++ v) (
    sym (append_assoc (texts change_line cs) (change_line c) u) ∙ ap (λ (v : List ℕ). v ++ u) (sym (texts-snoc change_line cs c))
    )

-- A text holds one trace alone.

-- a change's line takes at least 20 bytes
pub code-least : (code : ℕ) → 6 ≤ length (code_text code)
code-least code = elim (code-text code) [ inl e ↦ omega (arith, ap length e) | inr e ↦ omega (arith, ap length e) ]

pub change-least : (c : Change) → 20 ≤ length (change_line c)
unfolding change_line
change-least c = simp length-append (omega (arith, code-least c.code, length-pos c.a, length-pos c.b))

no_change : (c : Change) (r : List ℕ) → [] ≡ change_line c ++ r → ⊥
no_change c r e = omega (arith, change-least c, simp length-append at (ap length e))

changes-same : (xs ys : List Change) → All LineChange xs → All LineChange ys → texts change_line xs ≡ texts change_line ys → xs ≡ ys
unfolding texts
changes-same [] [] g h e = refl
changes-same [] (y ∷ ys) g h e = absurd (no_change y (texts change_line ys) e)
changes-same (x ∷ xs) [] g h e = absurd (no_change x (texts change_line xs) (sym e))
changes-same (x ∷ xs) (y ∷ ys) g h e =
    let (p, q) = change-sole.same (record { good = g.0; stands = refl }) (record { good = h.0; stands = e }) in
    let r = changes-same xs ys g.1 h.1 q in
    λ i. p i ∷ r i

-- "the trace": at most one is held
pub trace-same : (text : List ℕ) (x y : Trace) → Holds text x → Holds text y → x ≡ y
unfolding trace_text
trace-same text x y g h =
    let (p, q) = rack-sole.same {x = (x.n, x.settings)} {y = (y.n, y.settings)}
    (record { good = (g.n-fits, g.settings-fit); stands = g.printed })
    (record { good = (h.n-fits, h.settings-fit); stands = h.printed }) in
    let r = changes-same x.changes y.changes g.changes-fit h.changes-fit q in
    λ i. record { n = (p i).0; settings = (p i).1; changes = r i }

-- A text fits, or one line is its first that does not.

changes-fit : (cs : List Change) (k : ℕ) → All LineChange cs → FirstBadChange (lines_of (texts change_line cs)) k → ⊥
unfolding texts lines_of FirstBadChange
changes-fit [] k g b = b
changes-fit (c ∷ cs) zero g b = rw (line-then (texts change_line cs) (change-line c)) at b (c, g.0, refl)
changes-fit (c ∷ cs) (suc k) g b = changes-fit cs k g.1 (rw (line-then (texts change_line cs) (change-line c)) at b).1

-- no line of a text that fits is bad
pub trace-fits : (text : List ℕ) (t : Trace) (k : ℕ) → Holds text t → FirstBad (lines_of text) k → ⊥
unfolding trace_text
trace-fits text t k g b =
    let lines = ap lines_of g.printed ∙ line-then (texts change_line t.changes) (rack-line t.n t.settings) in
    go k (subst (λ (ls : List (List ℕ)). FirstBad ls k) lines b)
  where
    go : (k : ℕ) → FirstBad (rack_line t.n t.settings ∷ lines_of (texts change_line t.changes)) k → ⊥
    go zero h = unfold FirstBad in h
    go (suc zero) h = unfold FirstBad in h (t.n, t.settings, g.n-fits, g.settings-fit, refl)
    go (suc (suc k)) h = unfold FirstBad in changes-fit t.changes k g.changes-fit h.1

bad-change-same : (ls : List (List ℕ)) (j k : ℕ) → FirstBadChange ls j → FirstBadChange ls k → j ≡ k
unfolding FirstBadChange
bad-change-same [] j k a b = absurd a
bad-change-same (l ∷ ls) zero zero a b = refl
bad-change-same (l ∷ ls) zero (suc k) a b = absurd (a b.0)
bad-change-same (l ∷ ls) (suc j) zero a b = absurd (b a.0)
bad-change-same (l ∷ ls) (suc j) (suc k) a b = ap suc (bad-change-same ls j k a.1 b.1)

-- and the first bad line is one line alone
pub first-bad-same : (ls : List (List ℕ)) (j k : ℕ) → FirstBad ls j → FirstBad ls k → j ≡ k
unfolding FirstBad
first-bad-same [] j k a b = absurd a
first-bad-same (l ∷ ls) zero k a b = absurd a
first-bad-same (l ∷ ls) (suc zero) zero a b = absurd b
first-bad-same (l ∷ ls) (suc zero) (suc zero) a b = refl
first-bad-same (l ∷ ls) (suc zero) (suc (suc k)) a b = absurd (a b.0)
first-bad-same (l ∷ ls) (suc (suc j)) zero a b = absurd b
first-bad-same (l ∷ ls) (suc (suc j)) (suc zero) a b = absurd (b a.0)
first-bad-same (l ∷ ls) (suc (suc j)) (suc (suc k)) a b = ap (λ (m : ℕ). suc (suc m)) (bad-change-same ls j k a.1 b.1)

-- a text has at least as many bytes as its first bad line's number, so that 32 bits hold it where they hold the text's length
lines-few : (t : List ℕ) → length (lines_of t) ≤ length t
lines-few [] = unfold lines_of in omega arith
lines-few (b ∷ t) = elim (eq? b 10) [
  | inl e ↦ omega (arith, ap (λ (x : ℕ). length (lines_of (x ∷ t))) e, ap length (lines-feed t), lines-few t)
  | inr h ↦ omega (arith, ap length (lines_other b t h), first-length b (lines_of t), lines-few t)
]
  where
    first-length : (b : ℕ) (ls : List (List ℕ)) → length (on_first b ls) ≤ suc (length ls)
    first-length b [] = unfold on_first in omega arith
    first-length b (l ∷ ls) = unfold on_first in omega arith

bad-change-within : (ls : List (List ℕ)) (k : ℕ) → FirstBadChange ls k → k < length ls
unfolding FirstBadChange
bad-change-within [] k h = absurd h
bad-change-within (l ∷ ls) zero h = omega arith
bad-change-within (l ∷ ls) (suc k) h = omega (arith, bad-change-within ls k h.1)

pub first-bad-within : (text : List ℕ) (k : ℕ) → FirstBad (lines_of text) k → (1 ≤ k) × (k ≤ length text)
first-bad-within text k h = go (lines_of text) k (lines-few text) h
  where
    go : (ls : List (List ℕ)) (k : ℕ) → length ls ≤ length text → FirstBad ls k → (1 ≤ k) × (k ≤ length text)
    go [] k few h = unfold FirstBad in absurd h
    go (l ∷ ls) zero few h = unfold FirstBad in absurd h
    go (l ∷ ls) (suc zero) few h = (omega arith, omega arith)
    go (l ∷ ls) (suc (suc k)) few h = unfold FirstBad in (omega arith, omega (arith, bad-change-within ls k h.1))

-- A blank text holds no trace, and has no line that doesn't fit.

pub blank-no-trace : (text : List ℕ) (t : Trace) → text ≡ [] → Holds text t → ⊥
unfolding trace_text rack_line
blank-no-trace text t e h = omega (arith, ap length (sym e ∙ h.printed))

pub blank-no-bad : (text : List ℕ) (k : ℕ) → text ≡ [] → FirstBad (lines_of text) k → ⊥
blank-no-bad text k e b = omega (arith, ap length e, first-bad-within text k b)

pub length-snoc : {A : Type 0} (xs : List A) (x : A) → length (xs ++ (x ∷ [])) ≡ suc (length xs)
length-snoc xs x = length-append xs (x ∷ []) ∙ add-one (length xs)
