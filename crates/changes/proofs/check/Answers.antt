-- `changes::check` meets its contract. Assumes nothing.
use mathlib.Core.Path.{◌≡◌, sym, ap, ◌∙◌}
use mathlib.Core.Logic.{◌≢◌}
use mathlib.Core.List.{[]}
use Prim.Native.Nat.{ℕ, ◌<◌}
use native.Mathlib.Omega.{arith}
use Rattle.std.proofs.lemmas.Result.{err_from_is_err_and}
use Rattle.model.specs.Shape.{low}
use Rattle.model.specs.State.{State, edge}
use Rattle.model.specs.Bytes.{read}
use Rattle.model.specs.Change.{Change}
use Rattle.moves.proofs.Held.{held_small, held-size}
use Rattle.calls.specs.Terms.{code_of, number_of}
use Rattle.changes.specs.Sounded.{brought, ends_number, link_number}
use Rattle.changes.proofs.Numbers.{ends-are, early-code, early-ends, early-link, some-number, edge-held}
use Rattle.changes.proofs.check.Goals.{After-linked-there, After-size, In_ok-check_ends, In_ok-kind, Start}
use Rattle.changes.proofs.check.Goals as goal

-- the state, and the change that is given
abbrev state : Start → State
state d = read low d.args.rack.now

abbrev given : Start → Change
given d = brought d.args.code d.args.a d.args.b []

numbered : (c : After-size) →
    let d = (goal.at.After-size c).Start in
    ends_number c.size.result d.args.a d.args.b ≡ ends_number (state d).n d.args.a d.args.b
numbered c = ap (λ (n : ℕ). ends_number n c.args.a c.args.b) (c.size.ensures ∙ held-size c.requires)

-- no number fits what is named: two different vertices
none-named : (c : In_ok-check_ends) → let d = (goal.at.In_ok-check_ends c).Start in ◌≡◌ {A = ℕ} 0 (ends_number (state d).n d.args.a d.args.b)
none-named c = c.in_ok-check_ends.ensures ∙ numbered (goal.at.In_ok-check_ends c).After-size

ends : (c : In_ok-check_ends) →
    let d = (goal.at.In_ok-check_ends c).Start in (d.args.a < (state d).n) × (d.args.b < (state d).n) × (d.args.a ≢ d.args.b)
ends c = ends-are _ _ _ (sym (none-named c))

-- the kind that the code stands for
kind-is : (c : In_ok-kind) → c.args.code ≡ code_of c.in_ok-kind.kind
kind-is c = omega (arith, c.in_ok-kind.ensures)

pub returns-in_err-kind : goal.returns-in_err-kind
returns-in_err-kind c = let d = (goal.at.returns-in_err-kind c).Start in
    let p = err_from_is_err_and c.from_residual.result c.from_residual.ensures.1 in
    rw (p.1, p.2)
    (early-code (state d).n (edge (state d)) (given d) (λ kind e. c.in_err-kind.ensures.0 kind (omega (arith, e)))
    ∙ sym (ap number_of c.in_err-kind.ensures.1))

pub returns-in_err-check_ends : goal.returns-in_err-check_ends
returns-in_err-check_ends c = let d = (goal.at.returns-in_err-check_ends c).Start in
    let p = err_from_is_err_and c.from_residual-in_err-check_ends.result c.from_residual-in_err-check_ends.ensures.1 in
    rw (p.1, p.2)
    (early-ends (state d).n (edge (state d)) (given d) _ (kind-is (goal.at.returns-in_err-check_ends c).In_ok-kind) _
    (c.in_err-check_ends.ensures ∙ numbered (goal.at.returns-in_err-check_ends c).After-size) (some-number _))

pub linked-there-requires : goal.linked-there-requires
linked-there-requires c = let e = ends c in
    record { v_lt_most = held_small c.requires _ e.0; w_lt_most = held_small c.requires _ e.1 }

-- whether the edge is there
there : (c : After-linked-there) → let d = (goal.at.After-linked-there c).Start in c.linked-there.result ≡ edge (state d) d.args.a d.args.b
there c = c.linked-there.ensures ∙ edge-held c.requires _ _ (ends (goal.at.After-linked-there c).In_ok-check_ends)

pub returns-in_err-check_link : goal.returns-in_err-check_link
returns-in_err-check_link c = let d = (goal.at.returns-in_err-check_link c).Start in
    let p = err_from_is_err_and c.from_residual-in_err-check_link.result c.from_residual-in_err-check_link.ensures.1 in
    rw (p.1, p.2)
    (early-link (state d).n (edge (state d)) (given d) c.in_ok-kind.kind (kind-is (goal.at.returns-in_err-check_link c).In_ok-kind)
    (none-named (goal.at.returns-in_err-check_link c).In_ok-check_ends)
    ∙ sym (c.in_err-check_link.ensures ∙ ap (link_number c.in_ok-kind.kind) (there (goal.at.returns-in_err-check_link c).After-linked-there)))

pub returns : goal.returns
returns c = let d = (goal.at.returns c).Start in
    let is = kind-is (goal.at.returns c).In_ok-kind in (
      early-link (state d).n (edge (state d)) (given d) c.in_ok-kind.kind is (none-named (goal.at.returns c).In_ok-check_ends)
          ∙ sym (c.in_ok-check_link.ensures ∙ ap (link_number c.in_ok-kind.kind) (there (goal.at.returns c).After-linked-there)),
      is,
    )
