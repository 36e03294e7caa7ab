-- `bitset::remove` meets its contract. Assumes nothing.
use Rattle.bitset.specs.Row.{removed}
use Rattle.bitset.proofs.Digits.{mask}
use Rattle.bitset.proofs.Laws.{from_byte, from-bit}
use Rattle.bitset.proofs.remove.Goals as goal

pub returns : goal.returns
unfolding removed
returns c = rw (mask, from_byte, from-bit)
