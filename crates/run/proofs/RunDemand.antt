-- Demand 3 of a run: whatever text a run takes, its record and the rack that it leaves are as the link book (the edge ledger) says, since
-- `run::run` meets its contract. The statement is `RunDemanded`, with `RunDemand` (specs/RunDemand.antt). Assumes nothing.
use mathlib.Core.Path.{◌≡◌, refl, sym, ap, ◌∙◌, subst}
use mathlib.Core.Logic.{◌≢◌, inl, inr}
use mathlib.Core.Bool.{true, false}
use mathlib.Core.List.{List, [], ◌∷◌, ◌++◌, append_assoc}
use Prim.Native.Nat.{ℕ, ◌+◌, ◌-◌, ◌<◌}
use native.Mathlib.Omega.{arith}
use lib.Dec.{T, ltb, eqb, ltb→lt, eqb→eq, lt→ltb}
use lib.ListN.{length, take, drop}
use lib.Seq.{take_at}
use Rattle.std.specs.Prelude.{Result}
use Rattle.model.specs.Counting.{each}
use Rattle.model.specs.Shape.{Shape, low}
use Rattle.model.specs.State.{Rules, Kind, rules, State, empty, edge, edges, pairs}
use Rattle.model.specs.Bytes.{growth_at, top_at, rank_at, mate_at, read, write}
use Rattle.model.specs.Text.{bytes, decimal, over}
use Rattle.model.specs.Change.{Change, Changed, change}
use Rattle.model.specs.Calls.{asked_number, ChangedBytes, change_bytes}
use Rattle.model.specs.Ledger.{Ledger, Told, links, ledger_number, entered, entered_all}
use Rattle.model.specs.Trace.{Trace, rack_line}
use Rattle.model.specs.Record.{answer_line, pair_line, pair_lines, mean, end_text, end_line, after, changes_text, kind_of, rack_of, last_of, record_text, blank_record}
use Rattle.model.specs.Run.{Ran, rack-length, text-long, space-short, blank, bad-line, bad-asked, ran, RunAnswer as AnswerOf}
use Rattle.model.proofs.Tests.{eq?, le?, true-T, and_intro, and_left, and_right, eqb_yes}
use Rattle.model.proofs.Fields.{growth-write, top-write}
use Rattle.model.proofs.Chunks.{each-ext, each_none, each-only}
use Rattle.model.proofs.Lists.{listed-texts}
use Rattle.theory.specs.Demand.{last_rack, told_of, told_all, is_pair, pairs_of, Mates, Call, Calls, Facts, Demand}
use Rattle.theory.proofs.ChangeStep.{ledger}
use Rattle.theory.proofs.OnBytes.{Rack, call-leaves, pairs_of_lem}
use Rattle.theory.proofs.LastRack.{last-facts}
use Rattle.theory.proofs.ListTheorem.{next-ledger, from-valid}
use Rattle.theory.proofs.Crowding.{crowding}
use Rattle.text.proofs.Answers.{refused-line}
use Rattle.calls.specs.declared.Refusal.{Refusal}
use Rattle.record.specs.Line.{pair_text}
use Rattle.changes.specs.Sounded.{Sounded}
use Rattle.changes.proofs.Wholes.{sounded-held}
use Rattle.moves.proofs.Held.{held-few}
use Rattle.trace.proofs.RecordFits.{LowValid, asked-valid, low_keeps}
use Rattle.run.specs.Recording.{pair_part, told}
use Rattle.run.specs.RunDemand.{fresh_rack, fresh_ledger, last_ledger, answer_by, changes_by, pairs_by, ending_by, RunDemand, RunDemanded, of-blank, of-trace}
use Rattle.run.proofs.Pairs.{shown, left_out, part_free, part-upper, part-line}
use Rattle.run.proofs.Turns.{rack-of-low, sounded-read}

-- A change's line is the ledger's: refused, it shows the number alone, and accepted, its pairs are the ledger's.
line-by : {l : Ledger} {bs : List ℕ} {c : Change} {d : ChangedBytes} → Call low l bs c d
    → answer_line d.answer ≡ answer_line (answer_by l (told_of low bs c) d)
unfolding answer_by
line-by {l} {bs} {c} {d} h = elim (eq? (ledger_number l (told_of low bs c)) 0) [
  | inl e ↦
      let number : d.answer.number ≡ (answer_by l (told_of low bs c) d).number = omega (arith, h.number) in
      let pairs : d.answer.pairs ≡ (answer_by l (told_of low bs c) d).pairs = omega (arith, h.accepted-pairs e) in
      λ i. answer_line (record { number = number i; draws = d.answer.draws; falls = d.answer.falls; pairs = pairs i })
  | inr e ↦
      refused-line d.answer (λ z. e (sym h.number ∙ z))
      ∙ ap (λ (k : ℕ). bytes "(refused " ++ (decimal k ++ bytes ")\n")) h.number
      ∙ sym (refused-line (answer_by l (told_of low bs c) d) e)
]

-- The lines of the pairs, vertex by vertex, in a sound rack of which the facts hold.
module _ (l : Ledger) (bs : List ℕ) (ok : Sounded low bs) (F : Facts low l bs) where
  size_is : (read low bs).n ≡ l.n
  size_is = unfold read in F.size

  -- the line of the edge v-w, if it is a pair
  abbrev line : ℕ → ℕ → List ℕ
  line v w = elim (is_pair low l bs v w) [ true ↦ pair_text v w (rank_at bs v - 1) | false ↦ [] ]

  -- a pair of v is v's mate, above v
  mate-of : (v w : ℕ) → T (is_pair low l bs v w) → (v < w) × (mate_at low bs v ≡ w)
  mate-of v w t = (
    ltb→lt v w (and_left (ltb v w) _ t),
    eqb→eq (mate_at low bs v) w (and_left (eqb (mate_at low bs v) w) _ (and_right (l.there v w) _ (and_right (ltb v w) _ t))),
  )

  none : (v w : ℕ) → (T (is_pair low l bs v w) → ⊥) → line v w ≡ []
  none v w h = left_out (is_pair low l bs v w) _ h

  -- v's mate, above v, is a pair of v
  pair_of : (v : ℕ) → v < l.n → mate_at low bs v ≢ 65535 → v < mate_at low bs v → T (is_pair low l bs v (mate_at low bs v))
  pair_of v b d h =
      let m : ℕ = mate_at low bs v in
      let M : Mates low l bs v m = F.mates v b d in
      and_intro (ltb v m) _ (lt→ltb v m h)
      (and_intro (l.there v m) _ M.linked
      (and_intro (eqb m m) _ (true-T (eqb_yes m m refl)) (true-T (eqb_yes (mate_at low bs m) v M.back))))

  lines_of : (v : ℕ) → v < l.n → pair_part (read low bs) v ≡ each l.n (line v)
  lines_of v b =
      let c : v < (read low bs).n = omega (arith, size_is) in
      elim (eq? (mate_at low bs v) 65535) [
        | inl e ↦ part_free ok c e
            ∙ sym (each_none (line v) l.n (λ w k. none v w (λ t. omega (arith, (mate-of v w t).1, size_is, held-few (sounded-held bs ok)))))
        | inr d ↦ elim (le? (mate_at low bs v) v) [
          | inl h ↦ part-upper ok c h ∙ sym (each_none (line v) l.n (λ w k. none v w (λ t. omega (arith, mate-of v w t))))
          | inr h ↦
              let t = pair_of v b d h in
              part-line ok c d h
              ∙ sym (shown (is_pair low l bs v (mate_at low bs v)) _ t)
              ∙ sym (each-only (line v) (mate_at low bs v) l.n (F.inside v (mate_at low bs v) (F.mates v b d).linked).1
              (λ w k ne. none v w (λ u. ne (sym (mate-of v w u).1))))
        ]
      ]

  pairs-by : pair_lines (read low bs) ≡ pairs_by l bs
  unfolding pair_lines pairs_by pair_part
  pairs-by =
      listed-texts (pair_line (read low bs)) (λ v. ltb v ((read low bs).mate v)) (read low bs).n
      ∙ each-ext _ _ (read low bs).n (λ v b. lines_of v (omega (arith, size_is)))
      ∙ ap (λ (k : ℕ). each k (λ v. each l.n (line v))) size_is

-- The record of a list of changes, from the bytes of a valid state, with its own ledger.

-- what `theory` says of it by its own kind, at the shape and the rules that it has
module _ {K : Kind} (s : State) (ok : LowValid K s) where
  rack : Rack s
  rack = rack-of-low s ok

  at_low : (P : Shape → Rules → Type 0) → P s.kind.shape (rules s.kind) → P low (rules K)
  at_low P h = subst (λ (S : Shape). P S (rules K)) ok.shape (subst (λ (L : Kind). P L.shape (rules L)) ok.kind h)

  facts-of : Facts low (ledger s) (write s)
  facts-of = at_low (λ S R. Facts S (ledger s) (write s)) (last-facts s rack)

  pairs-low : pairs s ≡ pairs_of low (ledger s) (write s)
  pairs-low = at_low (λ S R. pairs s ≡ pairs_of S (ledger s) (write s)) (pairs_of_lem s rack)

  -- what a change of it answers, the bytes that it leaves, and its new pairs
  abbrev leaves : Rules → Change → ChangedBytes
  leaves R c = let d = change R s c in record { answer = d.answer; rack = write d.state; news = d.news }

  leaves-low : (c : Change) → change_bytes low (write s) c ≡ leaves (rules K) c
  leaves-low c = at_low (λ S R. change_bytes S (write s) c ≡ leaves R c) (call-leaves s rack c)

  next_low : (c : Change) → ledger (change (rules K) s c).state ≡ entered (ledger s) (told_of low (write s) c)
  next_low c = at_low (λ S R. ledger (change R s c).state ≡ entered (ledger s) (told_of S (write s) c)) (sym (next-ledger s rack c))

  demand-of : (cs : List Change) → Demand low (ledger s) (write s) cs
  demand-of cs = at_low (λ S R. Demand S (ledger s) (write s) cs) (from-valid s rack cs)

ending-by : {K : Kind} (s : State) → LowValid K s → pair_lines s ++ end_line s ≡ ending_by (ledger s) (write s)
unfolding ending_by edges links
ending-by s ok =
    let p : pair_lines s ≡ pairs_by (ledger s) (write s) =
    let r = sounded-read (write s) s refl ok in
    ap pair_lines (sym r.1) ∙ pairs-by (ledger s) (write s) r.0 (facts-of s ok) in
    let e : end_line s ≡ end_text (pairs_of low (ledger s) (write s)) (mean (links (ledger s)) s.n) =
    ap (λ (k : ℕ). end_text k (mean (edges s) s.n)) (pairs-low s ok) in
    λ i. p i ++ e i

last-by : {K : Kind} (s : State) → LowValid K s → (cs : List Change) → write (after (rules K) s cs) ≡ last_rack low (write s) cs
unfolding after last_rack
last-by s ok [] = refl
last-by {K} s ok (c ∷ cs) =
    last-by (change (rules K) s c).state (low_keeps s ok c) cs
    ∙ ap (λ (x : ChangedBytes). last_rack low x.rack cs) (sym (leaves-low s ok c))

-- the rack after the changes is still of that kind, and so its bytes hold the same settings
kept_low : {K : Kind} (s : State) → LowValid K s → (cs : List Change) → LowValid K (after (rules K) s cs)
unfolding after
kept_low s ok [] = ok
kept_low {K} s ok (c ∷ cs) = kept_low (change (rules K) s c).state (low_keeps s ok c) cs

settings-of : {K : Kind} (s : State) → LowValid K s → (growth_at (write s) ≡ K.growth) × (top_at (write s) ≡ K.top)
settings-of s ok =
    let good = (rack-of-low s ok).kind.shape in
    (growth-write s good ∙ ap (λ (L : Kind). L.growth) ok.kind, top-write s good ∙ ap (λ (L : Kind). L.top) ok.kind)

changes-by : {K : Kind} (s : State) → LowValid K s → (cs : List Change)
    → changes_text (rules K) s cs
    ≡ changes_by (ledger s) (write s) cs ++ ending_by (entered_all (ledger s) (told_all low (write s) cs)) (last_rack low (write s) cs)
unfolding changes_text changes_by entered_all told_all last_rack Calls
changes-by s ok [] = ending-by s ok
changes-by {K} s ok (c ∷ cs) =
    let d : Changed = change (rules K) s c in
    let x : ChangedBytes = change_bytes low (write s) c in
    let t : Told = told_of low (write s) c in
    let e : ledger d.state ≡ entered (ledger s) t = next_low s ok c in
    let f : write d.state ≡ x.rack = ap (λ (y : ChangedBytes). y.rack) (sym (leaves-low s ok c)) in
    let now : answer_line d.answer ≡ answer_line (answer_by (ledger s) t x) =
    ap (λ (y : ChangedBytes). answer_line y.answer) (sym (leaves-low s ok c)) ∙ line-by (demand-of s ok (c ∷ [])).calls.0 in
    let later : changes_text (rules K) d.state cs
    ≡ changes_by (entered (ledger s) t) x.rack cs ++ ending_by (entered_all (entered (ledger s) t) (told_all low x.rack cs)) (last_rack low x.rack cs) =
    changes-by d.state (low_keeps s ok c) cs
    ∙ (λ i. changes_by (e i) (f i) cs ++ ending_by (entered_all (e i) (told_all low (f i) cs)) (last_rack low (f i) cs)) in
    (λ i. now i ++ later i) ∙ sym (append_assoc (answer_line (answer_by (ledger s) t x)) (changes_by (entered (ledger s) t) x.rack cs) _)

-- A trace that is taken, run from the fresh rack that its line 1 asks for.
run-demand : (t : Trace) → asked_number (kind_of t) t.n ≡ 0 → RunDemand t (write (last_of t)) (record_text t)
unfolding record_text last_ledger fresh_ledger empty edge kind_of
run-demand t e =
    let ok : LowValid (kind_of t) (rack_of t) = asked-valid (kind_of t) t.n refl e in
    let D : Demand low (fresh_ledger t.n) (fresh_rack t) t.changes = demand-of (rack_of t) ok t.changes in
    let left = last-by (rack_of t) ok t.changes in
    let book : Ledger = last_ledger t in
    let first : List ℕ = rack_line t.n t.settings in
    let lines : List ℕ = changes_by (fresh_ledger t.n) (fresh_rack t) t.changes in
    record {
      demand = D;
      left = left;
      facts = subst (Facts low book) (sym left) D.last;
      settings = settings-of (last_of t) (kept_low (rack_of t) ok t.changes);
      crowded = crowding book (last_rack low (fresh_rack t) t.changes) D.last;
      says =
          ap (λ (x : List ℕ). first ++ x) (changes-by (rack_of t) ok t.changes)
          ∙ ap (λ (x : List ℕ). first ++ (lines ++ ending_by book x)) (sym left);
    }

-- what stands at the start of the space after a run
front : (p space : List ℕ) → take (length p) (over 0 p space) ≡ p
unfolding over
front p space = take_at p (drop (0 + length p) space) (length p) refl

of-ran : {rack text space last new : List ℕ} {a : AnswerOf} → Ran rack text space a last new → a.number ≡ 0
    → RunDemanded rack text last (take a.length new)
of-ran (rack-length z) e = absurd (omega arith)
of-ran (text-long z s) e = absurd (omega arith)
of-ran (space-short z s w) e = absurd (omega arith)
of-ran {space = space} (blank z t w) e = of-blank t refl (front blank_record space)
of-ran (bad-line z s w b) e = absurd (omega arith)
of-ran (bad-asked z s w h d) e = absurd (d e)
of-ran {space = space} (ran {t} z s w h g) e =
    of-trace t h (subst (RunDemand t (write (last_of t))) (sym (front (record_text t) space)) (run-demand t g))

-- Whatever bytes `run::run` was lent: if it answers 0, the text is blank, and the rack stays and the record says no pair; or the text holds a
-- trace, and the record that it tells of, and the rack, are as demand 3 says of that trace.
pub demand-three-of-run : {rack text space last new : List ℕ} (a : AnswerOf) → Ran rack text space a last new → a.number ≡ 0
    → RunDemanded rack text last (take a.length new)
demand-three-of-run a h e = of-ran h e
