-- Demand 3 of a run: what the record of a text that is taken says, line by line, and what the rack then holds, by the link book (the edge
-- ledger) that is kept from the text's changes alone, told of each whether it runs out of words; and of a blank paper, that there is neither. The
-- theorem is `demand-three-of-run` (proofs/RunDemand.antt). Assumes nothing.
use Rattle.std.specs.Prelude.{◌≡◌, true, false, List, [], ◌∷◌, ◌++◌, ℕ, ◌-◌}
use Rattle.model.specs.Counting.{each}
use Rattle.model.specs.Shape.{low}
use Rattle.model.specs.Bytes.{growth_at, top_at, rank_at, write}
use Rattle.model.specs.Change.{Change, Answer}
use Rattle.model.specs.Calls.{ChangedBytes, change_bytes}
use Rattle.model.specs.Ledger.{Ledger, Told, links, ledger_number, entered, entered_all}
use Rattle.model.specs.Trace.{Trace, growth_of, top_of, Holds, rack_line}
use Rattle.model.specs.Record.{answer_line, mean, end_text, rack_of, blank_record}
use Rattle.theory.specs.Demand.{last_rack, told_of, told_all, is_pair, pairs_of, Facts, Demand}
use Rattle.theory.specs.Crowding.{Crowding}
use Rattle.record.specs.Line.{pair_text}

-- the fresh rack that the trace t asks for: "A rack is made with growth g [..] and top level t", those of its line 1
abbrev pub fresh_rack : Trace → List ℕ
fresh_rack t = write (rack_of t)

-- the ledger of a fresh rack of n vertices: no link is there
unfoldable pub fresh_ledger : ℕ → Ledger
fresh_ledger n = record { n = n; there = λ v w. false }

-- What a change's line has to say by the ledger l, which is told t, where d is what its call did: the number is the ledger's, and the pairs are
-- the ledger's links whose ends name each other just after it. The draws and the falls are those of the moves.
unfoldable pub answer_by : Ledger → Told → ChangedBytes → Answer
answer_by l t d = record {
  number = ledger_number l t;
  draws = d.answer.draws;
  falls = d.answer.falls;
  pairs = pairs_of low (entered l t) d.rack;
}

-- "one line for each change", by the ledger l, from the rack bs on
unfoldable pub changes_by : Ledger → List ℕ → List Change → List ℕ
changes_by l bs [] = []
changes_by l bs (c ∷ cs) =
    let t = told_of low bs c in
    let d = change_bytes low bs c in
    answer_line (answer_by l t d) ++ changes_by (entered l t) d.rack cs

-- "then the pairs by rising lower board": a line for each link of the ledger whose ends name each other as mates, and no other line
unfoldable pub pairs_by : Ledger → List ℕ → List ℕ
pairs_by l bs = each l.n (λ v. each l.n (λ w. elim (is_pair low l bs v w) [ true ↦ pair_text v w (rank_at bs v - 1) | false ↦ [] ]))

-- "then the pairs by rising lower board, then the end line", by the ledger and the last rack: the mean is that of the ledger's links
unfoldable pub ending_by : Ledger → List ℕ → List ℕ
ending_by l bs = pairs_by l bs ++ end_text (pairs_of low l bs) (mean (links l) l.n)

-- the ledger after all the changes of the trace t
unfoldable pub last_ledger : Trace → Ledger
last_ledger t = entered_all (fresh_ledger t.n) (told_all low (fresh_rack t) t.changes)

-- A run of the trace t that left the rack `last` and the record `text`: from a fresh rack with the settings of its line 1, with a ledger that
-- starts with no link, sees the changes alone, and is told of each whether it runs out of words.
pub record RunDemand (t : Trace) (last text : List ℕ) : Type 0 where
  -- demand 3 of its changes, each of them and the last rack
  pub demand : Demand low (fresh_ledger t.n) (fresh_rack t) t.changes
  -- the rack left is the last one of that list, so the facts are of its bytes, with the ledger's links
  pub left : last ≡ last_rack low (fresh_rack t) t.changes
  pub facts : Facts low (last_ledger t) last
  -- its settings are those of line 1: W-207: "with g and t for 4 and 3"
  pub settings : (growth_at last ≡ growth_of t.settings) × (top_at last ≡ top_of t.settings)
  -- and what the figures of the mean say of these links
  pub crowded : Crowding (last_ledger t)
  -- the record is the one that the ledger asks for, to the byte
  pub says : text ≡ rack_line t.n t.settings ++ (changes_by (fresh_ledger t.n) (fresh_rack t) t.changes ++ ending_by (last_ledger t) last)

-- What is so of every run that answers 0, lent the rack `rack`: of a blank paper, that "no rack was set", no change made and no pair held, and
-- "the rack buffer keeps its bytes"; of any other text, what demand 3 says of the trace that it holds.
pub data RunDemanded (rack text last printed : List ℕ) : Type 0 where
  of-blank : text ≡ [] → last ≡ rack → printed ≡ blank_record → RunDemanded rack text last printed
  of-trace : (t : Trace) → Holds text t → RunDemand t last printed → RunDemanded rack text last printed
