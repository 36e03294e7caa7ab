-- `moves::part` meets its contract. The entry of v's mate tells whether v is free. Assumes nothing.
use mathlib.Core.Path.{◌≡◌, refl, sym, ap, ap₂, ◌∙◌}
use mathlib.Core.Logic.{◌≢◌}
use mathlib.Core.List.{List}
use Prim.Native.Nat.{ℕ, ◌<◌}
use native.Mathlib.Omega.{arith}
use Rattle.model.specs.Shape.{low}
use Rattle.model.specs.Bytes.{no_mate, mate_at, mate_entry, read, write}
use Rattle.model.specs.Moves.{part}
use Rattle.model.proofs.Limits.{mate_entry-mate}
use Rattle.layout.specs.Setters.{set_mate}
use Rattle.moves.specs.Proper.{Held}
use Rattle.moves.proofs.Held.{held-few, held-mate, held_small}
use Rattle.moves.proofs.Pairs.{entry_free, entry-mate, part_free, part-image}
use Rattle.moves.proofs.part.Goals as goal

-- what the entry that was read says of v, and what the bytes are after both entries are set
module _ {bs : List ℕ} (h : Held low bs) {v : ℕ} (l : v < (read low bs).n) {m : ℕ} (e : m ≡ mate_at low bs v) where
  entry : m ≡ mate_entry (read low bs) v
  entry = e ∙ held-mate h v (held_small h v l)

  stays : m ≡ no_mate → bs ≡ write (part v (read low bs))
  stays q = h.written ∙ part_free (read low bs) h.proper v l (entry_free (read low bs) h.proper v l (sym entry ∙ q))

  named : m ≢ no_mate → m ≡ (read low bs).mate v
  named d = entry ∙ mate_entry-mate (read low bs) v (entry-mate (read low bs) h.proper v l (λ q. d (entry ∙ q)))

  within : m ≢ no_mate → m < low.most
  within d = omega (arith, named d, h.proper.mates v l, held-few h)

  parts : m ≢ no_mate → set_mate low (set_mate low bs m no_mate) v no_mate ≡ write (part v (read low bs))
  unfolding read
  parts d = ap₂ (λ (b : List ℕ) (x : ℕ). set_mate low (set_mate low b x no_mate) v no_mate) h.written (named d) ∙ part-image
      (read low bs) h.proper v l

pub returns-in_default : goal.returns-in_default
returns-in_default c = stays c.requires.held c.requires.v_bound refl c.in_default.ensures

pub set_mate-requires : goal.set_mate-requires
set_mate-requires c = record {
  v_lt_most = within c.requires.held c.requires.v_bound c.in-Some.ensures.0 c.in-Some.ensures.1;
}

pub returns : goal.returns
returns c = c.set_mate-2.ensures ∙ ap (λ (bs : List ℕ). set_mate low bs c.args.v no_mate) c.set_mate.ensures
    ∙ parts c.requires.held c.requires.v_bound c.in-Some.ensures.0 c.in-Some.ensures.1
