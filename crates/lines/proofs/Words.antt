-- The reading of a change's words: what is known after some of them have been read, and how that grows by a word, ends or is refused.
-- Assumes nothing.
use Prim.Native.Nat.{ℕ, ◌+◌, ◌≤◌, ◌<◌}
use mathlib.Core.Path.{◌≡◌, refl, sym, ap, ◌∙◌, subst}
use mathlib.Core.Logic.{inl, inr}
use Rattle.std.specs.Prelude.{Option, None, Some}
use mathlib.Core.List.{List, [], ◌∷◌, ◌++◌, append_assoc}
use native.Mathlib.Omega.{arith}
use native.Mathlib.Numerals.{add-one}
use lib.ListN.{length, get_or, take, drop, set, length-append, drop_of_length-le}
use lib.Seq.{take-suc-set, length-take-le}
use Rattle.model.specs.Lists.{All}
use Rattle.model.specs.Text.{bytes, texts}
use Rattle.model.specs.Trace.{word_text}
use Rattle.model.proofs.Tests.{le?, eq?}
use Rattle.text.specs.Number.{NumberThen}
use Rattle.text.specs.Reading.{Found, Absent}
use Rattle.text.proofs.Decimals.{same_number, same_rest}
use Rattle.text.proofs.Standing.{drop_more, front-of-drop}
use Rattle.text.proofs.Texts.{texts-snoc, all_snoc, all-last}
use Rattle.lines.specs.Pieces.{words_text, Fit, FitWords}
use Rattle.lines.specs.Clauses.{LineEndAt, WordsAt}
use Rattle.lines.proofs.Laws.{words-word, words-end}

-- the words `got` stand from `at` up to i, and every text of words that stands at `at` starts with them
pub record GotWords (s : List ℕ) (at : ℕ) (got : List ℕ) (i : ℕ) : Type 0 where
  pub small : All Fit got
  pub stands : drop at s ≡ texts word_text got ++ drop i s
  pub forced : (ws rest : List ℕ) → FitWords ws → drop at s ≡ words_text ws ++ rest → (v : List ℕ) × (ws ≡ got ++ v) × (drop i s ≡ words_text v ++ rest)

pub got-start : (s : List ℕ) (at : ℕ) → GotWords s at [] at
unfolding texts word_text
got-start s at = record { small = tt; stands = refl; forced = λ ws rest g e. (ws, refl, e) }

-- past the end stands no space
pub past_end : (s : List ℕ) (i : ℕ) → length s ≤ i → get_or s i 0 ≡ 32 → ⊥
past_end s i h e =
    let z : 0 ≡ get_or s i 0 = sym (ap (λ (l : List ℕ). get_or l 0 0) (drop_of_length-le s h)) ∙ front-of-drop s i in
    omega arith

-- the text at a space
at-space : (s : List ℕ) (i : ℕ) → get_or s i 0 ≡ 32 → drop i s ≡ 32 ∷ drop (i + 1) s
at-space s i b = elim (le? (length s) i) [ inl p ↦ absurd (past_end s i p b) | inr p ↦ drop_more s i p ∙ ap (λ (x : ℕ). x ∷ drop (i + 1) s) b ]

not-space : (s : List ℕ) (i : ℕ) → (get_or s i 0 ≡ 32 → ⊥) → get_or (drop i s) 0 0 ≡ 32 → ⊥
not-space s i h e = h (sym (front-of-drop s i) ∙ e)

module _ {s : List ℕ} {at : ℕ} {got : List ℕ} {i : ℕ} (p : GotWords s at got i) where
  -- at a space, any text of words that stands there goes on with a word
  word-forced : get_or s i 0 ≡ 32 → (ws rest : List ℕ) → FitWords ws → drop at s ≡ words_text ws ++ rest
      → (x : ℕ) × (v : List ℕ) × (ws ≡ got ++ (x ∷ v)) × NumberThen (drop (i + 1) s) x (words_text v ++ rest)
  word-forced b ws rest g e =
      let (v, q, f) = p.forced ws rest g e in
      let (x, v', r, n) = words-word v rest (drop (i + 1) s) (all-last Fit got v (subst (All Fit) q g.1)) (sym (at-space s i b) ∙ f) in
      (x, v', q ∙ ap (λ (l : List ℕ). got ++ l) r, n)

  got_word : {w : ℕ} (next : ℕ) → get_or s i 0 ≡ 32 → NumberThen (drop (i + 1) s) w (drop next s) → GotWords s at (got ++ (w ∷ [])) next
  unfolding word_text
  got_word {w} next b k =
      record {
        small = all_snoc Fit got w p.small k.small;
        stands =
            p.stands
            ∙ ap (λ (l : List ℕ). texts word_text got ++ l) (at-space s i b ∙ ap (λ (l : List ℕ). 32 ∷ l) k.written)
            ∙ sym (append_assoc (texts word_text got) (word_text w) (drop next s))
            ∙ ap (λ (l : List ℕ). l ++ drop next s) (sym (texts-snoc word_text got w));
        forced = λ ws rest g e.
            let (x, v, q, n) = word-forced b ws rest g e in
            (v, q ∙ ap (λ (y : ℕ). got ++ (y ∷ v)) (sym (same_number k n)) ∙ sym (append_assoc got (w ∷ []) v), same_rest k n);
      }

  -- a space with no number after it
  pub got-refused : get_or s i 0 ≡ 32 → ((n : ℕ) (u : List ℕ) → NumberThen (drop (i + 1) s) n u → ⊥) → Absent words_text FitWords s at
  got-refused b no_number ws rest g e = let (x, v, q, n) = word-forced b ws rest g e in no_number x _ n

  -- a word too many
  got-full : length got ≡ 128 → get_or s i 0 ≡ 32 → Absent words_text FitWords s at
  got-full full b ws rest g e =
      let (x, v, q, n) = word-forced b ws rest g e in
      omega (arith, g.0, simp length-append at (ap length q))

  -- the end
  got-found : (next : ℕ) → length got ≤ 128 → next ≤ length s → drop i s ≡ bytes "))\n" ++ drop next s → Found words_text FitWords s at got next
  unfolding words_text
  got-found next few within l =
      record {
        within = within;
        good = (few, p.small);
        stands = p.stands ∙ ap (λ (u : List ℕ). texts word_text got ++ u) l ∙ sym (append_assoc (texts word_text got) (bytes "))\n") (drop next s));
      }

  -- neither a space nor the end
  got_other : (get_or s i 0 ≡ 32 → ⊥) → ((u : List ℕ) → drop i s ≡ bytes "))\n" ++ u → ⊥) → Absent words_text FitWords s at
  got_other other no_end ws rest g e =
      let (v, q, f) = p.forced ws rest g e in
      no_end rest (words-end v rest (drop i s) (not-space s i other) f)

-- the end was looked for where no word can stand, or none more
pub got-end : {s : List ℕ} {at i : ℕ} (words : List ℕ) (count : ℕ) (r : Option (ℕ × ℕ)) → GotWords s at (take count words) i → count ≤ 128
    → count ≤ length words → (get_or s i 0 ≡ 32 → count ≡ 128) → LineEndAt s i count r → WordsAt s at words r
got-end {s} {at} words count (Some (k, next)) p few room full (same, found) =
    let l = length-take-le count words room in
    subst (λ (n : ℕ). WordsAt s at words (Some (n, next))) (sym same) (few, got-found p next (omega arith) found.0 found.1)
got-end {s} {i = i} words count None p few room full no_end =
    let l = length-take-le count words room in (
      tt,
      elim (eq? (get_or s i 0) 32) [ inl b ↦ let h = full b in got-full p (omega arith) b | inr b ↦ got_other p b no_end ],
    )

-- a word that is stored after those before
pub got-stored : {s : List ℕ} {at i w : ℕ} (words : List ℕ) (count next : ℕ) → GotWords s at (take count words) i → count < length words
    → get_or s i 0 ≡ 32 → NumberThen (drop (i + 1) s) w (drop next s) → GotWords s at (take (count + 1) (set words count w)) next
got-stored {s} {at} {w = w} words count next p h b k =
    let e : take (count + 1) (set words count w) ≡ take count words ++ (w ∷ []) =
    ap (λ (n : ℕ). take n (set words count w)) (add-one count) ∙ take-suc-set words count w h in
    subst (λ (g : List ℕ). GotWords s at g next) (sym e) (got_word p next b k)
