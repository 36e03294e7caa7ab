-- Every text is blank, or fits, or has a first line that doesn't: whether a line fits is decided by trying every value that a line may hold.
-- Assumes nothing.
use Prim.Native.Nat.{ℕ, zero, suc, ◌≤◌}
use mathlib.Core.Path.{◌≡◌, refl, sym, ap, ◌∙◌, subst}
use mathlib.Core.Logic.{◌⊎◌, inl, inr}
use mathlib.Core.List.{List, [], ◌∷◌, ◌++◌}
use native.Mathlib.Omega.{arith}
use lib.ListN.{length}
use Rattle.model.specs.Lists.{All}
use Rattle.model.specs.Text.{largest, texts}
use Rattle.model.specs.Change.{Change}
use Rattle.model.specs.Trace.{Settings, short, long, growth_of, top_of, SettingsFit, Trace, Holds, trace_text, rack_line, change_line, LineChange, on_first, lines_of, IsRackLine, IsChangeLine, FirstBadChange, FirstBad}
use Rattle.model.proofs.Tests.{eq?}
use Rattle.trace.proofs.Lines.{lines-feed, lines_other}

-- P holds, or it doesn't
abbrev Decided : Type 0 → Type 0
Decided P = P ⊎ (P → ⊥)

lists? : (l r : List ℕ) → Decided (l ≡ r)
lists? [] [] = inl refl
lists? [] (y ∷ r) = inr (λ e. omega (arith, ap length e))
lists? (x ∷ l) [] = inr (λ e. omega (arith, ap length e))
lists? (x ∷ l) (y ∷ r) = elim (eq? x y) [
  | inr h ↦ inr (λ e. h (cc))
  | inl p ↦ elim (lists? l r) [ inl q ↦ inl (λ i. p i ∷ q i) | inr h ↦ inr (λ e. h (cc)) ]
]

-- Trying every value.

-- a number of at most m, and a list of at most k such numbers
abbrev SomeNumber : ℕ → (ℕ → Type 0) → Type 0
SomeNumber m P = (x : ℕ) × (x ≤ m) × P x

abbrev SomeList : ℕ → ℕ → (List ℕ → Type 0) → Type 0
SomeList m k P = (l : List ℕ) × (length l ≤ k) × All (λ (x : ℕ). x ≤ m) l × P l

number? : (m : ℕ) (P : ℕ → Type 0) → ((x : ℕ) → Decided (P x)) → Decided (SomeNumber m P)
number? zero P d = elim (d 0) [
  | inl p ↦ inl (0, omega arith, p)
  | inr h ↦ inr (λ q. let e : q.0 ≡ 0 = omega (arith, q.1) in h (subst P e q.2))
]
number? (suc m) P d = elim (d (suc m)) [
  | inl p ↦ inl (suc m, omega arith, p)
  | inr h ↦ elim (number? m P d) [
    | inl q ↦ inl (q.0, omega (arith, q.1), q.2)
    | inr g ↦ inr (λ q. elim (eq? q.0 (suc m)) [ inl e ↦ h (subst P e q.2) | inr e ↦ g (q.0, omega (arith, q.1), q.2) ])
  ]
]

no-list : (m : ℕ) (P : List ℕ → Type 0) → (P [] → ⊥) → (l : List ℕ) → length l ≤ 0 → P l → ⊥
no-list m P h [] b p = h p
no-list m P h (x ∷ l) b p = omega arith

no_longer : (m k : ℕ) (P : List ℕ → Type 0) → (P [] → ⊥) → (SomeNumber m (λ (x : ℕ). SomeList m k (λ (l : List ℕ). P (x ∷ l))) → ⊥)
    → (l : List ℕ) → length l ≤ suc k → All (λ (x : ℕ). x ≤ m) l → P l → ⊥
no_longer m k P h g [] b a p = h p
no_longer m k P h g (x ∷ l) b a p = g (x, a.0, (l, omega arith, a.1, p))

list? : (m k : ℕ) (P : List ℕ → Type 0) → ((l : List ℕ) → Decided (P l)) → Decided (SomeList m k P)
list? m zero P d = elim (d []) [ inl p ↦ inl ([], omega arith, tt, p) | inr h ↦ inr (λ q. no-list m P h q.0 q.1 q.3) ]
list? m (suc k) P d = elim (d []) [
  | inl p ↦ inl ([], omega arith, tt, p)
  | inr h ↦ elim (number? m (λ (x : ℕ). SomeList m k (λ (l : List ℕ). P (x ∷ l))) (λ x. list? m k (λ (l : List ℕ). P (x ∷ l)) (λ l. d (x ∷ l)))) [
    | inl q ↦ inl (q.0 ∷ q.2.0, omega (arith, q.2.1), (q.1, q.2.2), q.2.3)
    | inr g ↦ inr (λ q. no_longer m k P h g q.0 q.1 q.2 q.3)
  ]
]

-- A line.

-- l is line 1 in its short form, and in its long one
abbrev ShortLine : List ℕ → Type 0
ShortLine l = SomeNumber largest (λ (n : ℕ). l ≡ rack_line n short)

abbrev LongLine : List ℕ → Type 0
LongLine l = SomeNumber largest (λ (n : ℕ). SomeNumber largest (λ (growth : ℕ). SomeNumber largest (λ (top : ℕ). l ≡ rack_line n (long growth top))))

short? : (l : List ℕ) → Decided (ShortLine l)
short? l = number? largest (λ (n : ℕ). l ≡ rack_line n short) (λ n. lists? l (rack_line n short))

long? : (l : List ℕ) → Decided (LongLine l)
long? l =
    number? largest (λ (n : ℕ). SomeNumber largest (λ (growth : ℕ). SomeNumber largest (λ (top : ℕ). l ≡ rack_line n (long growth top))))
    (λ n. number? largest (λ (growth : ℕ). SomeNumber largest (λ (top : ℕ). l ≡ rack_line n (long growth top)))
    (λ growth. number? largest (λ (top : ℕ). l ≡ rack_line n (long growth top)) (λ top. lists? l (rack_line n (long growth top)))))

no-rack : (l : List ℕ) → (ShortLine l → ⊥) → (LongLine l → ⊥) → (n : ℕ) (x : Settings) → n ≤ largest → SettingsFit x → l ≡ rack_line n x → ⊥
unfolding growth_of top_of
no-rack l f g n short p q e = f (n, p, e)
no-rack l f g n (long growth top) p q e = g (n, p, (growth, q.0, (top, q.1, e)))

rack? : (l : List ℕ) → Decided (IsRackLine l)
unfolding growth_of top_of
rack? l = elim (short? l) [
  | inl (n, p, e) ↦ inl (n, short, p, (omega arith, omega arith), e)
  | inr f ↦ elim (long? l) [
    | inl (n, p, (growth, q, (top, r, e))) ↦ inl (n, long growth top, p, (q, r), e)
    | inr g ↦ inr (λ k. no-rack l f g k.0 k.1 k.2 k.3 k.4)
  ]
]

abbrev of : ℕ → ℕ → ℕ → List ℕ → Change
of code a b words = record { code = code; a = a; b = b; words = words }

-- a change of that code has the line l
abbrev Coded : List ℕ → ℕ → Type 0
Coded l code = SomeNumber largest (λ (a : ℕ). SomeNumber largest (λ (b : ℕ). SomeList largest 128 (λ (ws : List ℕ). l ≡ change_line (of code a b ws))))

coded? : (l : List ℕ) (code : ℕ) → Decided (Coded l code)
coded? l code =
    number? largest (λ (a : ℕ). SomeNumber largest (λ (b : ℕ). SomeList largest 128 (λ (ws : List ℕ). l ≡ change_line (of code a b ws))))
    (λ a. number? largest (λ (b : ℕ). SomeList largest 128 (λ (ws : List ℕ). l ≡ change_line (of code a b ws)))
    (λ b. list? largest 128 (λ (ws : List ℕ). l ≡ change_line (of code a b ws)) (λ ws. lists? l (change_line (of code a b ws)))))

coded-line : (l : List ℕ) (code : ℕ) → (code ≡ 1) ⊎ (code ≡ 2) → Coded l code → IsChangeLine l
coded-line l code i (a, p, (b, q, (ws, few, fit, e))) = (of code a b ws, record { codes = i; a-fits = p; b-fits = q; few = few; words-fit = fit }, e)

line-coded : (l : List ℕ) (code : ℕ) (k : IsChangeLine l) → k.0.code ≡ code → Coded l code
line-coded l code (c, g, e) p =
    (c.a, g.a-fits, (c.b, g.b-fits, (c.words, g.few, g.words-fit, e ∙ ap (λ (x : ℕ). change_line (of x c.a c.b c.words)) p)))

change? : (l : List ℕ) → Decided (IsChangeLine l)
change? l = elim (coded? l 1) [
  | inl p ↦ inl (coded-line l 1 (inl refl) p)
  | inr h ↦ elim (coded? l 2) [
    | inl p ↦ inl (coded-line l 2 (inr refl) p)
    | inr g ↦ inr (λ k. elim k.1.codes [ inl e ↦ h (line-coded l 1 k e) | inr e ↦ g (line-coded l 2 k e) ])
  ]
]

-- A text.

abbrev itself : List ℕ → List ℕ
itself l = l

on-first : (b : ℕ) (ls : List (List ℕ)) → texts itself (on_first b ls) ≡ b ∷ texts itself ls
unfolding on_first texts
on-first b [] = refl
on-first b (l ∷ ls) = refl

-- its lines, one after the other, are the text
joined : (t : List ℕ) → texts itself (lines_of t) ≡ t
unfolding texts
joined [] = unfold lines_of in refl
joined (b ∷ t) = elim (eq? b 10) [
  | inl e ↦
      ap (λ (x : ℕ). texts itself (lines_of (x ∷ t))) e ∙ ap (texts itself) (lines-feed t)
      ∙ ap (λ (u : List ℕ). 10 ∷ u) (joined t) ∙ ap (λ (x : ℕ). x ∷ t) (sym e)
  | inr h ↦ ap (texts itself) (lines_other b t h) ∙ on-first b (lines_of t) ∙ ap (λ (u : List ℕ). b ∷ u) (joined t)
]

-- further lines all hold changes, or one is the first that doesn't
changes? : (ls : List (List ℕ)) → ((cs : List Change) × All LineChange cs × (texts itself ls ≡ texts change_line cs)) ⊎ ((k : ℕ) × FirstBadChange ls k)
unfolding texts FirstBadChange
changes? [] = inl ([], tt, refl)
changes? (l ∷ ls) = elim (change? l) [
  | inr h ↦ inr (0, h)
  | inl g ↦ elim (changes? ls) [
    | inr b ↦ inr (suc b.0, (g, b.1))
    | inl q ↦ inl (g.0 ∷ q.0, (g.1, q.1), (λ i. g.2 i ++ q.2 i))
  ]
]

-- what a text may be: blank, of no bytes; a trace; or one with "the first line that doesn't fit"
pub data Kind (text : List ℕ) : Type 0 where
  blank-text : text ≡ [] → Kind text
  trace-text : (t : Trace) → Holds text t → Kind text
  bad-text : (k : ℕ) → FirstBad (lines_of text) k → Kind text

-- each text is one of these (and one alone: `blank-no-trace`, `blank-no-bad`, `trace-fits`)
pub kind-of : (text : List ℕ) → Kind text
kind-of text = go (lines_of text) refl (joined text)
  where
    bad : (ls : List (List ℕ)) → lines_of text ≡ ls → (k : ℕ) → FirstBad ls k → Kind text
    bad ls is k b = bad-text k (subst (λ (x : List (List ℕ)). FirstBad x k) (sym is) b)

    go : (ls : List (List ℕ)) → lines_of text ≡ ls → texts itself ls ≡ text → Kind text
    go [] is e = unfold texts in blank-text (sym e)
    go (l ∷ ls) is e = unfold FirstBad texts trace_text in elim (rack? l) [
      | inr h ↦ bad (l ∷ ls) is 1 h
      | inl g ↦ elim (changes? ls) [
        | inr b ↦ bad (l ∷ ls) is (suc (suc b.0)) (g, b.1)
        | inl q ↦
            let printed = sym e ∙ (λ i. g.4 i ++ q.2 i) in
            trace-text (record { n = g.0; settings = g.1; changes = q.0 })
            (record { n-fits = g.2; settings-fit = g.3; changes-fit = q.1; printed = printed })
      ]
    ]
