-- `audit::mated` meets its contract. Assumes nothing.
use mathlib.Core.Path.{◌≡◌, sym, ◌∙◌, subst}
use mathlib.Core.Bool.{◌||◌}
use native.Mathlib.Omega.{arith}
use lib.Dec.{T, eqb}
use Rattle.std.specs.Prelude.{Some}
use Rattle.std.specs.Option.{option_eq}
use Rattle.std.proofs.lemmas.Bool.{not-false}
use Rattle.model.specs.Shape.{low}
use Rattle.model.specs.Bytes.{mate_at, owns_at}
use Rattle.model.proofs.Facts.{Says, self_says}
use Rattle.layout.proofs.Said.{said, says-no, says-by, says_is}
use Rattle.audit.proofs.Linked.{linked-inside, linked-reads, names-says}
use Rattle.audit.proofs.mated.Goals.{After-mate}
use Rattle.audit.proofs.mated.Goals as goal

pub returns-then-n-w : goal.returns-then-n-w
returns-then-n-w c = let bs = c.args.rack.now in
    says-no (λ g. omega (arith, linked-inside low bs c.args.v c.args.w g.linked, c.if-n-w.true, c.requires.n_value))

-- whether the mate of w is v, by the entry
back : (c : After-mate) → Says (option_eq eqb c.mate.result (Some c.args.v)) (mate_at low c.args.rack.now c.args.w ≡ c.args.v)
back c = names-says c.mate.result c.args.v (omega (arith, c.requires.v_lt_n, c.requires.n_le_most)) c.mate.ensures

pub returns : goal.returns
returns c = let bs = c.args.rack.now in
    let v = c.args.v in
    let w = c.args.w in
    let e = linked-reads low bs v w (omega (arith, c.requires.v_lt_n, c.requires.n_value)) (omega (arith, c.if-n-w.false, c.requires.n_value)) in
    says-by
    (λ t. record {
      back = said (back (goal.at.returns c).After-mate) (not-false _ (sym c.ne.ensures ∙ c.if-ne.false));
      linked = subst T (sym e) t;
      level = sym c.rank.ensures ∙ c.if-rank.false ∙ c.rank-2.ensures;
    })
    (λ g. subst T e g.linked)
    (says_is c.linked.ensures (self_says (owns_at low bs v w || owns_at low bs w v)))
