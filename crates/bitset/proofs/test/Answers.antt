-- `bitset::test` meets its contract. Assumes nothing.
use borrow.Author.Rules.{rules}
use Rattle.model.specs.Parts.{bit_of}
use Rattle.bitset.specs.Row.{member}
use Rattle.bitset.proofs.test.Goals as goal

pub returns : goal.returns
unfolding member bit_of
returns c = search rules
