-- The law of pens: what is added after what was added before is added as one text. Assumes nothing.
use Rattle.std.proofs.Common.{subst, Option, [], refl, sym, add-zero, ◌≡◌, ℕ, ◌+◌, ◌-◌, ◌≤◌, List, ◌++◌, length, ap, ◌∙◌, arith, length-append}
use borrow.Rule.Slice.PartMut.{put_mid}
use Rattle.model.specs.Text.{over, decimal}
use Rattle.model.specs.Trace.{settings_text}
use Rattle.text.specs.Writing.{Put}
use Rattle.text.proofs.Over.{over_none, part, put-at, over-over, length_over}
use Rattle.calls.specs.declared.Settings.{Settings}
use Rattle.calls.specs.Terms.{named_by}
use Rattle.record.specs.Pen.{Adds}
use Rattle.record.specs.declared.pen.Pen.{Pen}

-- one text after another
infixr 40 ◌then◌
pub ◌then◌ : {p q : List ℕ} {a b c : Pen} → Adds p a b → Adds q b c → Adds (p ++ q) a c
◌then◌ {p} {q} {a} {b} {c} f g =
    let joined = length-append p q in
    record {
      same_bytes = g.same_bytes ∙ f.same_bytes;
      fits = omega (arith, f.moves, f.kept, g.fits, joined);
      moves = omega (arith, f.moves, g.moves, joined);
      kept = g.kept ∙ f.kept;
      wrote =
          g.wrote ∙ ap (λ (k : ℕ). over k q b.out.now) f.moves
          ∙ ap (over (a.at + length p) q) f.wrote
          ∙ over-over a.at p q a.out.now f.fits;
    }

-- nothing
pub added-none : {a : Pen} → a.at + 0 ≤ length a.out.now → Adds [] a a
unfolding over
added-none {a} fits =
    record { same_bytes = refl; fits = fits; moves = sym (add-zero a.at); kept = refl; wrote = sym (over_none a.at a.out.now) }

-- a figure, said of an equal number
pub figure-as : {x y : ℕ} {a b : Pen} → x ≡ y → Adds (decimal x) a b → Adds (decimal y) a b
figure-as {x} {y} {a} {b} e h = subst (λ (z : ℕ). Adds (decimal z) a b) e h

-- the settings of line 1, said of equal ones
pub settings-as : {x y : Option Settings} {a b : Pen} → Adds (settings_text (named_by x)) a b → x ≡ y → Adds (settings_text (named_by y)) a b
settings-as {x} {y} {a} {b} h e = subst (λ (z : Option Settings). Adds (settings_text (named_by z)) a b) e h

-- what a writer wrote at the start of the rest of the bytes
pub added : {p last : List ℕ} {k : ℕ} {a b : Pen} → Put p (part a.at a.out.now) last k → a.at + length p ≤ length a.out.now
    → b.out.ghost_name ≡ a.out.ghost_name → b.at ≡ a.at + k → b.out.now ≡ put_mid a.at (length a.out.now - a.at) a.out.now last → Adds p a b
added {p} {last} {k} {a} {b} w fits same moves is =
    let wrote = is ∙ put-at a.at a.out.now w in
    record {
      same_bytes = same;
      fits = fits;
      moves = omega (arith, w.count, moves);
      kept = ap length wrote ∙ length_over a.at p a.out.now fits;
      wrote = wrote;
    }

-- what a pen wrote in all, if it had written nothing
pub put-of : {p last : List ℕ} {a b : Pen} → a.at ≡ 0 → Adds p a b → last ≡ b.out.now → Put p a.out.now last b.at
put-of {p} {last} {a} {b} s f e =
    record { count = omega (arith, f.moves); wrote = e ∙ f.wrote ∙ ap (λ (k : ℕ). over k p a.out.now) s }
