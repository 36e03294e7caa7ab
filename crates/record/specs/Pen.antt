-- What a pen writes. Assumes nothing.
use Rattle.std.specs.Prelude.{◌≡◌, ℕ, ◌+◌, ◌≤◌, List, length}
use Rattle.model.specs.Text.{over}
use Rattle.record.specs.declared.pen.Pen.{Pen}

-- no figure of 32 bits has more digits
abbrev pub figure_room : ℕ
figure_room = 10

-- the pen wrote p straight after what it had written, and holds the same bytes on
pub record Adds (p : List ℕ) (old new : Pen) : Type 0 where
  pub same_bytes : new.out.ghost_name ≡ old.out.ghost_name
  pub fits : old.at + length p ≤ length old.out.now
  pub moves : new.at ≡ old.at + length p
  pub kept : length new.out.now ≡ length old.out.now
  pub wrote : new.out.now ≡ over old.at p old.out.now
