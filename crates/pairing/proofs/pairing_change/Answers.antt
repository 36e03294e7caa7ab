-- `pairing::pairing_change` meets its contract: the answer's figures one by one, 0 where it was turned back. Assumes nothing.
use mathlib.Core.Path.{◌≡◌, refl, ap, ◌∙◌}
use Rattle.std.specs.Prelude.{Result, Ok, Err}
use Rattle.std.specs.Result.{result_unwrap_or}
use Rattle.model.specs.Shape.{low}
use Rattle.model.specs.Change.{Answer, refused}
use Rattle.model.specs.Calls.{change_bytes}
use Rattle.calls.specs.declared.Figures.{Figures}
use Rattle.calls.specs.declared.Refusal.{Refusal}
use Rattle.calls.specs.Terms.{outcome, told}
use Rattle.changes.specs.Sounded.{brought}
use Rattle.pairing.proofs.pairing_change.Goals.{After-change-answer}
use Rattle.pairing.proofs.pairing_change.Goals as goal

-- the answer by what the code takes out of it
abbrev taken : Result Figures Refusal → Answer
taken r = let x = result_unwrap_or r (record { draws = 0; falls = 0; pairs = 0 }) in
    record { number = outcome r; draws = x.draws; falls = x.falls; pairs = x.pairs }

taken-told : (r : Result Figures Refusal) → taken r ≡ told r
unfolding refused
taken-told (Ok x) = refl
taken-told (Err why) = refl

same : (c : After-change-answer) → taken c.change-answer.result ≡ (change_bytes low c.args.rack.now (brought c.args.code c.args.a c.args.b c.args.words.now)).answer
same c = taken-told c.change-answer.result ∙ c.change-answer.ensures.answers

pub returns : goal.returns
returns c = let e = same (goal.at.returns c).After-change-answer in
    let u = c.unwrap_or-figures.ensures in
    record {
      number = c.number.ensures ∙ ap (λ (x : Answer). x.number) e;
      draws = ap (λ (x : Figures). x.draws) u ∙ ap (λ (x : Answer). x.draws) e;
      falls = ap (λ (x : Figures). x.falls) u ∙ ap (λ (x : Answer). x.falls) e;
      pairs = ap (λ (x : Figures). x.pairs) u ∙ ap (λ (x : Answer). x.pairs) e;
      leaves = c.change-answer.ensures.leaves;
    }
