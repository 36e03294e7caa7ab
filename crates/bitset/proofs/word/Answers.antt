-- `bitset::word` meets its contract: the bytes joined are the word. Assumes nothing.
use Rattle.std.proofs.Common.{◌≡◌, refl, ap, ℕ, zero, suc, ◌+◌, ◌<◌, List, [], ◌∷◌, get_or, arith}
use Rattle.bitset.proofs.Words.{word-rest}
use Rattle.bitset.proofs.word.Goals as goal

-- eight bytes of a row, named one by one
abbrev eight : List ℕ → ℕ → List ℕ
eight row i = get_or row i 0 ∷ (get_or row (i + 1) 0 ∷ (get_or row (i + 2) 0 ∷ (get_or row (i + 3) 0
    ∷ (get_or row (i + 4) 0 ∷ (get_or row (i + 5) 0 ∷ (get_or row (i + 6) 0 ∷ (get_or row (i + 7) 0 ∷ [])))))))

eight-of : (row : List ℕ) (i a : ℕ) → a < 8 → get_or (eight row i) a 0 ≡ get_or row (i + a) 0
eight-of row i zero h = ap (λ (k : ℕ). get_or row k 0) (omega arith)
eight-of row i (suc zero) h = refl
eight-of row i (suc (suc zero)) h = refl
eight-of row i (suc (suc (suc zero))) h = refl
eight-of row i (suc (suc (suc (suc zero)))) h = refl
eight-of row i (suc (suc (suc (suc (suc zero))))) h = refl
eight-of row i (suc (suc (suc (suc (suc (suc zero)))))) h = refl
eight-of row i (suc (suc (suc (suc (suc (suc (suc zero))))))) h = refl
eight-of row i (suc (suc (suc (suc (suc (suc (suc (suc a)))))))) h = absurd (omega arith)

pub returns : goal.returns
returns c = let row = c.args.row.now in
    word-rest row (eight row c.args.i) c.args.i c.from_le_bytes.result (λ a. (c.type_inv.row a).fits) (eight-of row c.args.i) c.from_le_bytes.ensures
