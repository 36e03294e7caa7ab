-- `changes::change` meets its contract. Assumes nothing.
use mathlib.Core.Path.{◌≡◌, refl, sym, ap, ◌∙◌, subst}
use mathlib.Core.Logic.{◌≢◌}
use Prim.Native.Nat.{ℕ, ◌≤◌, ◌<◌}
use native.Mathlib.Omega.{arith}
use lib.ListN.{length}
use Rattle.std.proofs.lemmas.Result.{err_from_is_err_and}
use Rattle.model.specs.Shape.{low}
use Rattle.model.specs.State.{edge}
use Rattle.model.specs.Bytes.{rules_at, read}
use Rattle.model.specs.Change.{Change, early}
use Rattle.calls.specs.Terms.{code_of, number_of}
use Rattle.changes.specs.Sounded.{Acceptable, accepted_run, brought}
use Rattle.changes.specs.Working.{Tried}
use Rattle.changes.proofs.Numbers.{some-number}
use Rattle.changes.proofs.Wholes.{sounded-held}
use Rattle.changes.proofs.Answered.{acceptable, fits-early, fits_out, refused-answer, refused-leaves, accepted-sounded, accepted-answer, accepted-leaves}
use Rattle.changes.proofs.change.Goals.{After-accepted-t, In_ok-kind, Start}
use Rattle.changes.proofs.change.Goals as goal

abbrev given : Start → Change
given d = brought d.args.code d.args.a d.args.b d.args.words.now

pub check-requires : goal.check-requires
check-requires c = sounded-held c.args.rack.now c.requires

-- the words have no say in 7 to 11
pub returns-in_err-kind : goal.returns-in_err-kind
unfolding early
returns-in_err-kind c = let d = (goal.at.returns-in_err-kind c).Start in
    let p = err_from_is_err_and c.from_residual.result c.from_residual.ensures.1 in
    let some : number_of c.in_err-kind.field-0.0 ≢ 0 = some-number c.in_err-kind.field-0.0 in
    let n = fits-early c.requires (given d) _ c.in_err-kind.ensures some in record {
      answers = rw (p.1, p.2) (refused-answer c.requires (given d) some n);
      leaves = refused-leaves c.requires (given d) some n;
    }

-- none of 7 to 11 fits
fits : (c : In_ok-kind) → let s = read low c.args.rack.now in early s.n (edge s) (given (goal.at.In_ok-kind c).Start) ≡ 0
unfolding early
fits c = c.in_ok-kind.ensures.0

-- the change by its kind's code
as_kind : (c : In_ok-kind) → brought (code_of c.in_ok-kind.kind) c.args.a c.args.b c.args.words.now ≡ given (goal.at.In_ok-kind c).Start
as_kind c = ap (λ (k : ℕ). brought k c.args.a c.args.b c.args.words.now) (sym c.in_ok-kind.ensures.1)

pub accepted-t-requires : goal.accepted-t-requires
accepted-t-requires c = record {
  sounded = c.requires;
  acceptable = subst (λ (k : ℕ). Acceptable (read low c.args.rack.now) k c.args.a c.args.b) c.in_ok-kind.ensures.1
      (acceptable _ (given (goal.at.accepted-t-requires c).Start) (fits (goal.at.accepted-t-requires c).In_ok-kind));
}

-- what is left of the moves, and of those of the change as it was given
abbrev Left : After-accepted-t → Change → Type 0
Left c x =
    let a = c.args in
    Tried (accepted_run (rules_at a.rack.now) (read low a.rack.now) x) a.words.now a.rack.now c.accepted-t.new.rack c.accepted-t.result

tried : (c : After-accepted-t) → Left c (given (goal.at.After-accepted-t c).Start)
tried c = subst (Left c) (as_kind (goal.at.After-accepted-t c).In_ok-kind) c.accepted-t.ensures

pub pairs-requires : goal.pairs-requires
pairs-requires c = accepted-sounded c.requires (given (goal.at.pairs-requires c).Start) (fits (goal.at.pairs-requires c).In_ok-kind)
    (tried (goal.at.pairs-requires c).After-accepted-t) (omega (arith, c.if-t-words.true))

pub returns-then-t-words : goal.returns-then-t-words
returns-then-t-words c = let z = fits (goal.at.returns-then-t-words c).In_ok-kind in
    let x = tried (goal.at.returns-then-t-words c).After-accepted-t in
    let few : c.accepted-t.result.draws ≤ length c.args.words.now = omega (arith, c.if-t-words.true) in record {
      answers = accepted-answer c.requires (given (goal.at.returns-then-t-words c).Start) z x few _ refl refl c.pairs.ensures;
      leaves = accepted-leaves c.requires (given (goal.at.returns-then-t-words c).Start) z x few;
    }

pub returns : goal.returns
returns c = let d = (goal.at.returns c).Start in
    let x = tried (goal.at.returns c).After-accepted-t in
    let more : length c.args.words.now < c.accepted-t.result.draws = omega (arith, c.if-t-words.false) in
    let n = fits_out c.requires (given d) (fits (goal.at.returns c).In_ok-kind) x more in
    let some : ◌≢◌ {A = ℕ} 12 0 = λ z. omega arith in record {
      answers = refused-answer c.requires (given d) some n;
      leaves = x.kept more ∙ refused-leaves c.requires (given d) some n;
    }
