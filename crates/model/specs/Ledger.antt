-- Document 01, "The link book": the edges after a list of changes, kept from what the changes bring and the first rack alone.
-- No move stands here. Assumes nothing.
use Rattle.std.specs.Prelude.{Bool, true, false, List, [], ◌∷◌, ℕ, zero, suc, eqb}
use Rattle.model.specs.Shape.{Shape}
use Rattle.model.specs.State.{Rules, State, edge, edge_count}
use Rattle.model.specs.Bytes.{read}
use Rattle.model.specs.Change.{Change, number, runs_out, with_edge, without_edge}

-- "It holds n and a set of links"
pub record Ledger : Type 0 where
  pub n : ℕ
  pub there : ℕ → ℕ → Bool

-- how many links it holds: "A-B and B-A are one link."
unfoldable pub links : Ledger → ℕ
links l = edge_count l.n l.there

-- "both taken from the first rack: v-w is a link if bit w of row v or bit v of row w is set"
unfoldable pub ledger_of : Shape → List ℕ → Ledger
ledger_of S bs = record { n = (read S bs).n; there = edge (read S bs) }

-- W-206: "The link book, which holds no levels, is told of each change that 7 to 11 don't fit whether the change as defined, on the rack
-- before it, runs out of words": a change, and what the ledger is told with it. Of a change that one of 7 to 11 fits, it does not look at that.
pub record Told : Type 0 where
  pub change : Change
  pub out : Bool

-- what it is told of a change of the rack s: "it isn't told the core's answer"
abbrev pub tell : Rules → State → Change → Told
tell R s c = record { change = c; out = runs_out R s c }

-- "For each change it goes through 7 to 12 in order; [..] The first that fits is the change's number"; "If none fits, its number is 0"
unfoldable pub ledger_number : Ledger → Told → ℕ
ledger_number l t = number l.n l.there t.out t.change

-- "an add puts its link in, a drop takes it out"; "and the set stays" where a number fits
unfoldable pub entered : Ledger → Told → Ledger
entered l t = let c = t.change in elim (ledger_number l t) [
  | suc k ↦ l
  | zero ↦ elim (eqb c.code 1) [
    | true ↦ record { n = l.n; there = with_edge l.there c.a c.b }
    | false ↦ record { n = l.n; there = without_edge l.there c.a c.b }
  ]
]

-- the ledger after a list of changes
unfoldable pub entered_all : Ledger → List Told → Ledger
entered_all l [] = l
entered_all l (t ∷ ts) = entered_all (entered l t) ts
