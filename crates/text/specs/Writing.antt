-- What a writer did with the bytes that it was lent. Assumes nothing.
use Rattle.std.specs.Prelude.{◌≡◌, ℕ, List, length}
use Rattle.model.specs.Text.{over}

-- it wrote p at the start of them, the others keep their values, and it answered r, how much it wrote
pub record Put (p old new : List ℕ) (r : ℕ) : Type 0 where
  pub count : r ≡ length p
  pub wrote : new ≡ over 0 p old
