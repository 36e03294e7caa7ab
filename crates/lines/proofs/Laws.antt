-- Laws of the lines of a trace: the pieces that each is made of, and that a line is the line of one value alone. Assumes nothing.
use Prim.Native.Nat.{ℕ}
use mathlib.Core.Path.{◌≡◌, refl, sym, ap, ◌∙◌}
use mathlib.Core.Logic.{◌⊎◌, inl, inr}
use mathlib.Core.Bool.{false}
use mathlib.Core.List.{List, [], ◌∷◌, ◌++◌, append_assoc, append_cancel_left}
use native.Mathlib.Omega.{arith}
use lib.ListN.{get_or}
use Rattle.model.specs.Lists.{All}
use Rattle.model.specs.Text.{bytes, decimal, texts}
use Rattle.model.specs.Moves.{Ends}
use Rattle.model.specs.Change.{Change}
use Rattle.model.specs.Trace.{Settings, short, long, growth_of, top_of, settings_text, SettingsFit, rack_line, code_text, word_text, change_line, LineChange}
use Rattle.model.proofs.Tests.{eq?, eqb_no}
use Rattle.text.specs.Number.{is_digit, NoDigit, NumberThen}
use Rattle.text.proofs.Decimals.{same_number, same_rest}
use Rattle.lines.proofs.Pieces.{Between, Printed, Then, Sole, Form, between-sole, then-sole, form-sole}
use Rattle.lines.specs.Pieces.{first_line, FitFirst, rack_end, long_end, FitLong, IsCode, ends_text, FitEnds, words_text, Fit, FitWords}

-- a space and a closing bracket are no digits: what they begin goes on no number
space-no-digit : is_digit 32 ≡ false
unfolding is_digit
space-no-digit = refl

close-no-digit : is_digit 41 ≡ false
unfolding is_digit
close-no-digit = refl

-- Line 1.

-- the end of the long line: two numbers
pub long-form : Form long_end FitLong (Then (Between (bytes ") (growth ") (bytes ") (top ")) (Between [] (bytes "))\n"))) (λ x. x)
unfolding long_end
long-form = record {
  split = λ x {t} {u} fit e. record {
    rest = decimal x.1 ++ (bytes "))\n" ++ u);
    first = record {
      rest = decimal x.0 ++ (bytes ") (top " ++ (decimal x.1 ++ (bytes "))\n" ++ u)));
      before = e ∙ simp append_assoc;
      number = record { written = refl; ends = close-no-digit; small = fit.0 };
    };
    second = record { rest = _; before = refl; number = record { written = refl; ends = close-no-digit; small = fit.1 } };
  };
  joined = λ x {t} {u} k.
      let e : t ≡ bytes ") (growth " ++ (decimal x.0 ++ (bytes ") (top " ++ (decimal x.1 ++ (bytes "))\n" ++ u)))) = cc in
      ((k.first.number.small, k.second.number.small), e ∙ simp append_assoc);
}

long-sole : Sole (Printed long_end FitLong)
long-sole = form-sole long-form (λ y. y) (λ _. refl) (then-sole between-sole between-sole)

-- the end of each form of line 1
pub end_short : (u : List ℕ) → rack_end short ++ u ≡ bytes "))\n" ++ u
unfolding rack_end settings_text
end_short u = refl

pub end-long : (growth top : ℕ) (u : List ℕ) → rack_end (long growth top) ++ u ≡ long_end (growth, top) ++ u
unfolding rack_end settings_text long_end
end-long growth top u = simp append_assoc

-- where neither stands, no end does
pub end_none : {t : List ℕ} → ((u : List ℕ) → t ≡ bytes "))\n" ++ u → ⊥) → ((x : ℕ × ℕ) (u : List ℕ) → FitLong x → t ≡ long_end x ++ u → ⊥)
    → (x : Settings) (u : List ℕ) → SettingsFit x → t ≡ rack_end x ++ u → ⊥
unfolding growth_of top_of
end_none f g short u fit e = f u (e ∙ end_short u)
end_none f g (long growth top) u fit e = g (growth, top) u fit (e ∙ end-long growth top u)

-- the second byte tells the forms apart
short-long : (growth top : ℕ) (r u : List ℕ) → rack_end short ++ r ≡ rack_end (long growth top) ++ u → ⊥
unfolding rack_end settings_text
short-long growth top r u e = let z : ◌≡◌ {A = ℕ} 41 32 = cc in omega arith

end_same : (x y : Settings) (r u : List ℕ) → SettingsFit x → SettingsFit y → rack_end x ++ r ≡ rack_end y ++ u → (x ≡ y) × (r ≡ u)
unfolding growth_of top_of
end_same short short r u f g e = (refl, append_cancel_left (rack_end short) r u e)
end_same short (long growth top) r u f g e = absurd (short-long growth top r u e)
end_same (long growth top) short r u f g e = absurd (short-long growth top u r (sym e))
end_same (long growth top) (long growth' top') r u f g e =
    let (p, q) = long-sole.same (record { good = f; stands = end-long growth top r })
    (record { good = g; stands = e ∙ end-long growth' top' u }) in
    ((λ i. long (p i).0 (p i).1), q)

end-sole : Sole (Printed rack_end SettingsFit)
end-sole = record { same = λ {t} {x} {y} {u} {v} h k. end_same x y u v h.good k.good (sym h.stands ∙ k.stands) }

-- N, and the end
rack-pieces : (n : ℕ) (x : Settings) (u : List ℕ) → rack_line n x ++ u ≡ bytes "(rack (boards " ++ (decimal n ++ (rack_end x ++ u))
unfolding rack_line rack_end
rack-pieces n x u = simp append_assoc

end-no-digit : (x : Settings) (u : List ℕ) → NoDigit (rack_end x ++ u)
unfolding rack_end
end-no-digit x u = close-no-digit

pub rack-form : Form first_line FitFirst (Then (Between (bytes "(rack (boards ") []) (Printed rack_end SettingsFit)) (λ x. x)
rack-form = record {
  split = λ x {t} {u} fit e. record {
    rest = rack_end x.1 ++ u;
    first = record {
      rest = decimal x.0 ++ (rack_end x.1 ++ u);
      before = e ∙ rack-pieces x.0 x.1 u;
      number = record { written = refl; ends = end-no-digit x.1 u; small = fit.0 };
    };
    second = record { good = fit.1; stands = refl };
  };
  joined = λ x {t} {u} k.
      let e : t ≡ bytes "(rack (boards " ++ (decimal x.0 ++ (rack_end x.1 ++ u)) = cc in
      ((k.first.number.small, k.second.good), e ∙ sym (rack-pieces x.0 x.1 u));
}

pub rack-sole : Sole (Printed first_line FitFirst)
rack-sole = form-sole rack-form (λ y. y) (λ _. refl) (then-sole between-sole end-sole)

-- The two vertices.

pub ends-form : Form ends_text FitEnds (Then (Between [] (bytes " ")) (Between [] (bytes ") (draws"))) (λ x. (x.a, x.b))
unfolding ends_text
ends-form = record {
  split = λ x {t} {u} fit e. record {
    rest = decimal x.b ++ (bytes ") (draws" ++ u);
    first = record { rest = t; before = refl; number = record { written = e ∙ simp append_assoc; ends = space-no-digit; small = fit.0 } };
    second = record { rest = _; before = refl; number = record { written = refl; ends = close-no-digit; small = fit.1 } };
  };
  joined = λ x {t} {u} k.
      let e : t ≡ decimal x.a ++ (bytes " " ++ (decimal x.b ++ (bytes ") (draws" ++ u))) = cc in
      ((k.first.number.small, k.second.number.small), e ∙ simp append_assoc);
}

pub ends-sole : Sole (Printed ends_text FitEnds)
ends-sole = form-sole ends-form (λ y. record { a = y.0; b = y.1 }) (λ _. refl) (then-sole between-sole between-sole)

-- The code.

code-add : (code : ℕ) → code ≡ 1 → code_text code ≡ bytes "(add ("
unfolding code_text
code-add code p = ap code_text p

code-drop : (code : ℕ) → code ≡ 2 → code_text code ≡ bytes "(drop ("
unfolding code_text
code-drop code p = ap code_text p

-- of any code, one of the two texts
pub code-text : (code : ℕ) → (code_text code ≡ bytes "(add (") ⊎ (code_text code ≡ bytes "(drop (")
unfolding code_text
code-text code = elim (eq? code 1) [ inl p ↦ inl (code-add code p) | inr p ↦ inr (rw (eqb_no code 1 p, code_text)) ]

-- where neither text stands, no code does
pub code-none : {t : List ℕ} (code : ℕ) (r : List ℕ) → IsCode code → ((u : List ℕ) → t ≡ bytes "(add (" ++ u → ⊥)
    → ((u : List ℕ) → t ≡ bytes "(drop (" ++ u → ⊥) → t ≡ code_text code ++ r → ⊥
code-none code r (inl p) f g e = f r (e ∙ ap (λ (l : List ℕ). l ++ r) (code-add code p))
code-none code r (inr p) f g e = g r (e ∙ ap (λ (l : List ℕ). l ++ r) (code-drop code p))

add-drop : (r u : List ℕ) → bytes "(add (" ++ r ≡ bytes "(drop (" ++ u → ⊥
add-drop r u e = let z : ◌≡◌ {A = ℕ} 97 100 = cc in omega arith

same_code : (k l : ℕ) (r u : List ℕ) → k ≡ l → code_text k ++ r ≡ code_text l ++ u → (k ≡ l) × (r ≡ u)
same_code k l r u p e = (p, append_cancel_left (code_text l) r u (ap (λ (x : ℕ). code_text x ++ r) (sym p) ∙ e))

-- two codes with the same text are the same, and so is what follows
code_same : (k l : ℕ) (r u : List ℕ) → IsCode k → IsCode l → code_text k ++ r ≡ code_text l ++ u → (k ≡ l) × (r ≡ u)
code_same k l r u (inl p) (inl q) e = same_code k l r u (p ∙ sym q) e
code_same k l r u (inl p) (inr q) e = absurd (add-drop r u (rw (code-add k p, code-drop l q) at e))
code_same k l r u (inr p) (inl q) e = absurd (add-drop u r (rw (code-add l q, code-drop k p) at (sym e)))
code_same k l r u (inr p) (inr q) e = same_code k l r u (p ∙ sym q) e

pub code-sole : Sole (Printed code_text IsCode)
code-sole = record { same = λ {t} {x} {y} {u} {v} h k. code_same x y u v h.good k.good (sym h.stands ∙ k.stands) }

-- The words.

tail : {x y : ℕ} {p q : List ℕ} → x ∷ p ≡ y ∷ q → p ≡ q
tail f = cc

words-no-digit : (v rest : List ℕ) → NoDigit (words_text v ++ rest)
unfolding texts word_text words_text
words-no-digit [] rest = close-no-digit
words-no-digit (x ∷ xs) rest = space-no-digit

words-cons : (w : ℕ) (v rest : List ℕ) → words_text (w ∷ v) ++ rest ≡ 32 ∷ (decimal w ++ (words_text v ++ rest))
unfolding texts word_text words_text
words-cons w v rest = simp append_assoc

word-then : {t : List ℕ} (w : ℕ) (v rest : List ℕ) → Fit w → t ≡ decimal w ++ (words_text v ++ rest) → NumberThen t w (words_text v ++ rest)
word-then w v rest fit e = record { written = e; ends = words-no-digit v rest; small = fit }

-- where a space stands, a word stands after it
pub words-word : (v rest t : List ℕ) → All Fit v → 32 ∷ t ≡ words_text v ++ rest
    → (w : ℕ) × (v' : List ℕ) × (v ≡ w ∷ v') × NumberThen t w (words_text v' ++ rest)
unfolding texts word_text words_text
words-word [] rest t s e = let z : ◌≡◌ {A = ℕ} 32 41 = cc in absurd (omega arith)
words-word (w ∷ v) rest t s e = (w, v, refl, word-then w v rest s.0 (tail (e ∙ words-cons w v rest)))

-- where none stands, the words are at their end
pub words-end : (v rest t : List ℕ) → (get_or t 0 0 ≡ 32 → ⊥) → t ≡ words_text v ++ rest → t ≡ bytes "))\n" ++ rest
unfolding texts word_text words_text
words-end [] rest t h e = e
words-end (w ∷ v) rest t h e = absurd (h (ap (λ (l : List ℕ). get_or l 0 0) e))

-- two lists of words with the same text are the same, and so is what follows
words_same : (v w r u : List ℕ) → All Fit v → All Fit w → words_text v ++ r ≡ words_text w ++ u → (v ≡ w) × (r ≡ u)
unfolding texts word_text words_text
words_same [] [] r u s z e = (refl, append_cancel_left (bytes "))\n") r u e)
words_same [] (y ∷ w) r u s z e = let q : ◌≡◌ {A = ℕ} 41 32 = cc in absurd (omega arith)
words_same (x ∷ v) [] r u s z e = let q : ◌≡◌ {A = ℕ} 32 41 = cc in absurd (omega arith)
words_same (x ∷ v) (y ∷ w) r u s z e =
    let h = word-then x v r s.0 refl in
    let k = word-then y w u z.0 (tail (sym (words-cons x v r) ∙ e ∙ words-cons y w u)) in
    let (p, q) = words_same v w r u s.1 z.1 (same_rest h k) in
    ((λ i. same_number h k i ∷ p i), q)

words-sole : Sole (Printed words_text FitWords)
words-sole = record { same = λ {t} {x} {y} {u} {v} h k. words_same x y u v h.good.1 k.good.1 (sym h.stands ∙ k.stands) }

-- The line of a change.

abbrev ends : Change → Ends
ends c = record { a = c.a; b = c.b }

pieces : (c : Change) (u : List ℕ) → change_line c ++ u ≡ code_text c.code ++ (ends_text (ends c) ++ (words_text c.words ++ u))
unfolding change_line ends_text words_text
pieces c u = simp append_assoc

pub change-form : Form change_line LineChange (Then (Printed code_text IsCode) (Then (Printed ends_text FitEnds) (Printed words_text FitWords)))
    (λ c. (c.code, (ends c, c.words)))
change-form = record {
  split = λ c {t} {u} g e. record {
    rest = ends_text (ends c) ++ (words_text c.words ++ u);
    first = record { good = g.codes; stands = e ∙ pieces c u };
    second = record {
      rest = words_text c.words ++ u;
      first = record { good = (g.a-fits, g.b-fits); stands = refl };
      second = record { good = (g.few, g.words-fit); stands = refl };
    };
  };
  joined = λ c {t} {u} k.
      let (v, w) : FitEnds (ends c) × FitWords c.words = (k.second.first.good, k.second.second.good) in
      let e : t ≡ code_text c.code ++ (ends_text (ends c) ++ (words_text c.words ++ u)) = cc in
      (record { codes = k.first.good; a-fits = v.0; b-fits = v.1; few = w.0; words-fit = w.1 }, e ∙ sym (pieces c u));
}

pub change-sole : Sole (Printed change_line LineChange)
change-sole =
    form-sole change-form (λ y. record { code = y.0; a = y.1.0.a; b = y.1.0.b; words = y.1.1 }) (λ _. refl)
    (then-sole code-sole (then-sole ends-sole words-sole))
