-- `bitset::insert` meets its contract. Assumes nothing.
use Rattle.bitset.specs.Row.{inserted}
use Rattle.bitset.proofs.Digits.{mask}
use Rattle.bitset.proofs.Laws.{from_byte, from-bit}
use Rattle.bitset.proofs.insert.Goals as goal

pub returns : goal.returns
unfolding inserted
returns c = rw (mask, from_byte, from-bit)
