-- Every record fits its space: of a trace of 1 to 256 vertices, of either form of line 1, with any settings in their ranges. Assumes nothing.
use mathlib.Core.Path.{◌≡◌, refl, sym, ap, ◌∙◌, subst}
use mathlib.Core.Logic.{inl, inr}
use mathlib.Core.Bool.{Bool, true, false, ◌&&◌, ◌||◌, not}
use Prim.Native.Nat.{ℕ, zero, suc, ◌*◌, ◌≤◌, ◌<◌}
use native.Mathlib.Nat.{mul-le-mul_left, mul-le-mul_right}
use native.Mathlib.Omega.{arith}
use lib.Dec.{T, eqb, ltb}
use lib.ListN.{length}
use Rattle.model.specs.Shape.{Shape, GoodShape, low}
use Rattle.model.specs.State.{Kind, rules, GoodKind, State, edge, pairs, empty}
use Rattle.model.specs.Valid.{Valid}
use Rattle.model.specs.Lists.{All}
use Rattle.model.specs.Trace.{LineChange, Trace, trace_text}
use Rattle.model.specs.Change.{Change, Answer, Changed, early, number, runs_out, change, refused}
use Rattle.model.specs.Record.{kind_of, record_text}
use Rattle.model.specs.Run.{longest, space_length}
use Rattle.model.specs.Sound.{size_good, settings_good}
use Rattle.model.specs.Calls.{asked_number}
use Rattle.model.proofs.Tests.{eq?}
use Rattle.model.proofs.Shapes.{low-good, thr-pos, thr-one}
use Rattle.model.proofs.Facts.{size_good-says, settings_good-says}
use Rattle.model.proofs.Counting.{count-bound}
use Rattle.model.proofs.Limits.{mate-inside}
use Rattle.theory.proofs.ChangeStep as steps
use Rattle.theory.proofs.Numbers.{number-early, number-told}
use Rattle.theory.proofs.Matching.{empty-valid}
use Rattle.text.proofs.Answers.{Figures}
use Rattle.trace.proofs.Bound.{Bounded, Small, record-fits}

-- a refused change's number is at most 12
pick : (b : Bool) (x y : ℕ) → x ≤ 12 → y ≤ 12 → elim b as (λ z. ℕ) [ true ↦ x | false ↦ y ] ≤ 12
pick true x y h k = h
pick false x y h k = k

early-few : (n : ℕ) (there : ℕ → ℕ → Bool) (c : Change) → early n there c ≤ 12
unfolding early
early-few n there c =
    pick (eqb c.code 1 || eqb c.code 2) _ 7
    (pick (ltb c.a n && ltb c.b n) _ 8
    (pick (eqb c.a c.b) 9 _ (omega arith)
    (pick (eqb c.code 1 && there c.a c.b) 10 _ (omega arith)
    (pick (eqb c.code 2 && not (there c.a c.b)) 11 0 (omega arith) (omega arith)))) (omega arith)) (omega arith)

number-few : (n : ℕ) (there : ℕ → ℕ → Bool) (out : Bool) (c : Change) → number n there out c ≤ 12
number-few n there out c = go (early n there c) refl
  where
    go : (k : ℕ) → early n there c ≡ k → number n there out c ≤ 12
    go zero e = rw (number-told n there out c e) (pick out 12 0 (omega arith) (omega arith))
    go (suc k) e = omega (arith, number-early n there out c k e, early-few n there c)

-- a valid state of a kind of document 01's rack, whose settings are in their ranges
pub record LowValid (K : Kind) (s : State) : Type 0 where
  pub shape : K.shape ≡ low
  pub good : GoodKind K
  pub kind : s.kind ≡ K
  pub valid : Valid (rules K) s

-- the rack that is asked for, where neither 5 nor 13 fits
neither : (a b : Bool) → ◌≡◌ {A = ℕ} (elim a [ false ↦ 5 | true ↦ elim b [ false ↦ 13 | true ↦ 0 ] ]) 0 → T a × T b
neither true true e = (tt, tt)
neither true false e = absurd (omega arith)
neither false b e = absurd (omega arith)

pub asked-valid : (K : Kind) (n : ℕ) → K.shape ≡ low → asked_number K n ≡ 0 → LowValid K (empty K n)
unfolding asked_number empty
asked-valid K n shape e =
    let (size, settings) = neither (size_good K.shape n) (settings_good K) e in
    let (one, few) = (size_good-says K.shape n).fact size in
    let good : GoodKind K = record { shape = subst GoodShape (sym shape) low-good; range = (settings_good-says K).fact settings } in
    record { shape = shape; good = good; kind = refl; valid = empty-valid (rules K) K (thr-pos good) n one few }

module _ {K : Kind} (s : State) (ok : LowValid K s) where
  low-few : s.n ≤ low.most
  low-few = omega (arith, ok.valid.few, ap (λ (L : Kind). L.shape.most) ok.kind, ap (λ (S : Shape). S.most) ok.shape)

  low-top : K.top < low.levels
  low-top = omega (arith, ok.good.range.room, ap (λ (S : Shape). S.levels) ok.shape)

  pub valid-small : Small s
  valid-small = record {
    few = low-few;
    mates = λ v b. elim (eq? (s.mate v) v) [
      | inl e ↦ omega (arith, low-few)
      | inr d ↦ omega (arith, low-few, mate-inside ok.valid v d)
    ];
    ranks = λ v b. omega (arith, ok.valid.ranks v, low-top);
  }

  module _ (c : Change) where
    abbrev d : Changed
    d = change (rules K) s c

    step : steps.Step (rules K) s c d
    step = steps.change-step (rules K) (thr-one K) (thr-pos ok.good) s ok.valid c

    -- a change leaves one again
    pub low_keeps : LowValid K d.state
    low_keeps = record { shape = ok.shape; good = ok.good; kind = step.kind ∙ ok.kind; valid = step.valid }

    -- a change of a trace uses no word that is not lent, and so at most 128
    pub draws-few : length c.words ≤ 128 → d.answer.draws ≤ 128
    draws-few few = omega (arith, step.draws-lent)

    -- its falls are at most one for each vertex and level
    falls-most : d.answer.falls ≤ low.most * low.levels
    falls-most = omega (arith, step.falls-few, mul-le-mul_right (suc K.top) low-few, mul-le-mul_left low.most low-top)

    pub valid-figures : LineChange c → Figures d.answer
    unfolding refused pairs
    valid-figures line = record {
      number_fits = omega (arith, step.number, number-few s.n (edge s) (runs_out (rules K) s c) c);
      draws-fit = omega (arith, draws-few line.few);
      falls-fit = omega (arith, falls-most);
      pairs-fit = elim (eq? d.answer.number 0) [
        | inl e ↦ omega (arith, step.pairs-held e, count-bound (λ v. ltb v (d.state.mate v)) d.state.n, step.size, low-few)
        | inr e ↦ omega (arith, ap (λ (x : Answer). x.pairs) (step.refused-keeps e).1)
      ];
    }

pub bounded : (K : Kind) → Bounded (rules K) (LowValid K)
bounded K = record { keeps = λ s c ok. low_keeps s ok c; figures = λ s c ok. valid-figures s ok c; small = valid-small }

pub record-fits-low : (t : Trace) → asked_number (kind_of t) t.n ≡ 0 → All LineChange t.changes → length (trace_text t) ≤ longest
    → length (record_text t) ≤ space_length
unfolding kind_of
record-fits-low t asked lines short =
    record-fits t (LowValid (kind_of t)) (bounded (kind_of t)) (asked-valid (kind_of t) t.n refl asked) lines short
