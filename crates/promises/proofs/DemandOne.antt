-- Demand 1 holds: each call's refusals are those of document 01's table, and a refusal leaves what was lent. Assumes nothing.
use mathlib.Core.Path.{◌≡◌, refl, sym, ap, subst, ◌∙◌}
use mathlib.Core.Bool.{Bool, true, false}
use mathlib.Core.Logic.{inl, inr}
use mathlib.Core.List.{List, [], ◌∷◌, ◌++◌}
use Prim.Native.Nat.{ℕ, ◌+◌, ◌*◌, ◌^◌, ◌≤◌, ◌<◌}
use native.Mathlib.Omega.{arith}
use native.Mathlib.Decide.{ℕ_discrete, dec_le}
use lib.Dec.{ltb}
use lib.ListN.{length, take, drop, length-replicate}
use borrow.Author.Tests.{ltb-true, ltb-false, le-leb, lt-leb, eq-eqb, ne_eqb, lt-ltb, le-ltb}
use Rattle.rows.specs.Limits.{recipe_rows, listing_rows}
use Rattle.matching.specs.Refusals.{tables_check}
use Rattle.matching.specs.Answer.{include_check, Answers}
use Rattle.matching.specs.Judge.{Judged}
use Rattle.std.specs.Prelude.{Ok, Err}
use Rattle.matching.specs.declared.Answer.TheVariants as answer
use Rattle.matching.proofs.Refusals.{told, told_if, told_first}
use Rattle.parcels.specs.Numbers.{number}
use Rattle.parcels.specs.Refusals.{number_of, place_of}
use Rattle.parcels.specs.Read.{depths_at, depths_in, labels_in, filled}
use Rattle.parcels.specs.Write.{length_of, write_of, written_by}
use Rattle.parcels.specs.Parcel.{parcel_of}
use Rattle.parcels.specs.declared.Limit.TheVariants.{Recipe, Listing}
use Rattle.parcels.proofs.LittleEndian.{numbers_length}
use Rattle.parcels.proofs.Accepting.{accepted}
use Rattle.journal.specs.Lent.{Lent, struck, undone}
use Rattle.journal.specs.Refusals as journal
use Rattle.journal.specs.Outcome.{Outcome, Meets}
use Rattle.host.specs.Line.{line, refused_word}
use Rattle.host.specs.Refusals.{said_number, said_place}
use Rattle.host.specs.Outcome.{zeros, recipe_read, listing_read, outcome_of, RefusedAs, FromTables, FromListing, FromRecipe}
use Rattle.host.specs.Host.{line_of, answer_bytes, Answered, Entered}
use Rattle.host.proofs.Longest.{line_fits}
use Rattle.host.proofs.LongInput.{line_front}
use Rattle.promises.specs.Table.{Given, At, TablesRows, ReadRows, IncludeTable, JudgeTable, WriteTable, EntryTable, Fine}
use Rattle.promises.specs.Calls.{Inclusion, Judgement, ReadAnswer, WriteAnswer}
use Rattle.promises.specs.DemandOne.{Seen, answered, refused, of_answer, of_judgement, of_read, of_write, of_call, ByTable, IsRefused, Shows, SeenLine, DemandOne}
use Rattle.promises.proofs.ByTable.{never, fine, given, passed}
use Rattle.promises.proofs.TableRows.{seen_table, tables_rows, include_rows, seen_verdict, strike_rows, undo_rows}
use Rattle.promises.proofs.ReadRows.{seen_read, read_rows}

-- the inclusion call and the judge: what their check tells is what they answer
told_answer : (rd rl td tl m : List ℕ) (r : Inclusion) (n : List ℕ) → Answers rd rl td tl m r n → told seen_table answered (include_check rd rl td tl m) ≡ of_answer r
told_answer rd rl td tl m (Ok (answer.Included c)) n a = ap (told seen_table answered) a.0
told_answer rd rl td tl m (Ok (answer.Absent c)) n a = ap (told seen_table answered) a.0
told_answer rd rl td tl m (Err x) n a = ap (told seen_table answered) a.0

map_kept : (rd rl td tl m : List ℕ) (r : Inclusion) (n : List ℕ) → Answers rd rl td tl m r n → IsRefused (of_answer r) → n ≡ m
map_kept rd rl td tl m (Ok (answer.Included c)) n a (k, (p, e)) = never (cc)
map_kept rd rl td tl m (Ok (answer.Absent c)) n a (k, (p, e)) = never (cc)
map_kept rd rl td tl m (Err x) n a f = a.1

told_judgement : (rd rl td tl : List ℕ) (r : Judgement) → Judged rd rl td tl r → told seen_table answered (tables_check rd rl td tl) ≡ of_judgement r
told_judgement rd rl td tl (Ok true) j = ap (told seen_table answered) j.0
told_judgement rd rl td tl (Ok false) j = ap (told seen_table answered) j.0
told_judgement rd rl td tl (Err x) j = ap (told seen_table answered) j

-- the reader
read_seen : (a : ReadAnswer) → seen_read a answered ≡ of_read a
read_seen (Ok rows) = refl
read_seen (Err x) = refl

rows_kept : (a : ReadAnswer) (rows : ℕ → List ℕ) (slots : List ℕ) → IsRefused (of_read a) → filled a rows slots ≡ slots
rows_kept (Ok given) rows slots (k, (p, e)) = never (cc)
rows_kept (Err x) rows slots f = refl

-- the writer
write_rows : (depths labels bytes : List ℕ) → ByTable (WriteTable depths labels bytes) (of_write (write_of depths labels bytes))
unfolding write_of
write_rows depths labels bytes =
    go (ℕ_discrete (length depths) (length labels)) (dec_le (length labels) listing_rows) (dec_le (length_of (length labels)) (length bytes))
  where
    go : Dec (length depths ≡ length labels) → Dec (length labels ≤ listing_rows) → Dec (length_of (length labels) ≤ length bytes)
        → ByTable (WriteTable depths labels bytes) (of_write (write_of depths labels bytes))
    go (no s) f h = rw (ne_eqb _ _ s) (given 0 (refl, s) (λ q x. x.0))
    go (yes s) (no f) h = rw (eq-eqb _ _ s, lt-leb (length labels) listing_rows (omega arith)) (passed (λ q x. x.1 s) (given 0 (refl, omega arith) (λ q x. x.0)))
    go (yes s) (yes f) (no h) =
        rw (eq-eqb _ _ s, le-leb _ _ f, lt-leb (length_of (length labels)) (length bytes) (omega arith))
        (passed (λ q x. x.1 s) (passed (λ q x. omega (arith, x.1)) (given 0 (refl, omega arith) (λ q x. x.0))))
    go (yes s) (yes f) (yes h) =
        rw (eq-eqb _ _ s, le-leb _ _ f, le-leb _ _ h)
        (passed (λ q x. x.1 s) (passed (λ q x. omega (arith, x.1)) (passed (λ q x. omega (arith, x.1)) fine)))

bytes_kept : (a : WriteAnswer) (parcel bytes : List ℕ) → IsRefused (of_write a) → written_by a parcel bytes ≡ bytes
bytes_kept (Ok n) parcel bytes (k, (p, e)) = never (cc)
bytes_kept (Err x) parcel bytes f = refl

-- strike and undo
module _ {Table : ℕ → ℕ → Type 0} (after before : Lent) (o : Outcome) where
  by_verdict : (v : journal.Verdict) → ByTable Table (seen_verdict v answered) → Meets o (journal.answered v after) (journal.settled v after before)
      → ByTable Table (of_call o.answer)
      × (IsRefused (of_call o.answer) → (o.depths ≡ before.depths) × (o.labels ≡ before.labels) × (o.journal ≡ before.journal))
  by_verdict (Ok u) t m = (rw m.answer t, λ f. let e = f.1.1 in let a = m.answer in never (cc))
  by_verdict (Err why) t m = (rw m.answer t, λ f. (m.depths, m.labels, m.journal))

-- the C entry
zeros_length : (n : ℕ) → length (zeros n) ≡ n
unfolding zeros
zeros_length n = length-replicate n 0

-- of an input's two parcels: the recipe's count and the place after it, the listing's count and the place after it
module _ (input : List ℕ) where
  abbrev n : ℕ
  n = number 4 input

  abbrev start : ℕ
  start = 20 + 6 * n

  abbrev k : ℕ
  k = number 4 (drop start input)

  abbrev end : ℕ
  end = start + (20 + 6 * k)

  abbrev Question : ℕ → ℕ → Type 0
  Question = TablesRows (depths_in input 0 n) (labels_in input 0 n) (depths_in input start k) (labels_in input start k) Fine

  abbrev AfterListing : ℕ → ℕ → Type 0
  AfterListing = Given 15 (At end (end < length input)) Question

  abbrev AfterRecipe : ℕ → ℕ → Type 0
  AfterRecipe = ReadRows input start Listing listing_rows listing_rows AfterListing

  module _ (before : List ℕ) (r : ℕ) (after : List ℕ) (a : Answered input before r after) where
    -- what is seen, by a table, with its line
    abbrev Settled : (ℕ → ℕ → Type 0) → Type 0
    Settled Table = (seen : Seen) × ByTable Table seen × SeenLine seen input n k before r after

    shown : Shows (line_of a.line.outcome a.line.map) before r after
    shown =
        let e = a.line.line in
        record { count = a.count ∙ ap length e; stored = a.stored ∙ ap (λ (x : List ℕ). x ++ drop (length x) before) e }

    refusal_shown : {x : _} → RefusedAs x a.line.outcome a.line.map → Shows (line refused_word (said_number x ∷ said_place x ∷ [])) before r after
    refusal_shown f = rw f.0 at shown

    rows_recipe : length (depths_in input 0 n) ≡ n
    rows_recipe = numbers_length 2 n (drop (depths_at 0 n) input)

    -- the inclusion answer: 10 is never given, for there are 256 slots
    question : n ≤ recipe_rows → (x : Inclusion)
        → Answers (depths_in input 0 n) (labels_in input 0 n) (depths_in input start k) (labels_in input start k) (zeros recipe_rows) x a.line.map
        → a.line.outcome ≡ outcome_of (length (depths_in input 0 n)) x → Settled Question
    question h x q e = (of_answer x, subst (ByTable Question) (sym same ∙ told_answer _ _ _ _ _ x _ q) (tables_rows _ _ _ _ answered fine), shows x q (rw (e, rows_recipe) at shown))
      where
        same : told seen_table answered (include_check (depths_in input 0 n) (labels_in input 0 n) (depths_in input start k) (labels_in input start k) (zeros recipe_rows))
            ≡ told seen_table answered (tables_check (depths_in input 0 n) (labels_in input 0 n) (depths_in input start k) (labels_in input start k))
        same = rw (told_first, told_if, le-ltb (length (zeros recipe_rows)) (length (depths_in input 0 n)) (omega (arith, zeros_length recipe_rows, rows_recipe)))

        shows : (x : Inclusion)
            → Answers (depths_in input 0 n) (labels_in input 0 n) (depths_in input start k) (labels_in input start k) (zeros recipe_rows) x a.line.map
            → Shows (line_of (outcome_of n x) a.line.map) before r after → SeenLine (of_answer x) input n k before r after
        shows (Ok (answer.Included c)) q s = (Ok (answer.Included c), (a.line.map, q, inl (c, refl), s))
        shows (Ok (answer.Absent c)) q s = (Ok (answer.Absent c), (a.line.map, q, inr (c, refl), s))
        shows (Err y) q s = s

    -- 15, or the inclusion answer
    after_listing : n ≤ recipe_rows → (b : Bool) → ltb end (length input) ≡ b
        → FromTables (depths_in input 0 n) (labels_in input 0 n) (depths_in input start k) (labels_in input start k) end b a.line.outcome a.line.map
        → Settled AfterListing
    after_listing h true e f = (refused 15 end, given end (refl, ltb-true end (length input) e) (λ q x. x.0), refusal_shown f)
    after_listing h false e f =
        let s = question h f.0 f.1 f.2 in (s.0, passed (λ q x. omega (arith, x.1, ltb-false end (length input) e)) s.1, s.2)

    after_recipe : n ≤ recipe_rows → (x : ReadAnswer) → listing_read input start ≡ x
        → FromListing input (depths_in input 0 n) (labels_in input 0 n) start x a.line.outcome a.line.map → Settled AfterRecipe
    after_recipe h (Err x) e f = (
      refused (number_of x) (place_of x),
      rw (e, zeros_length listing_rows) at (read_rows input start Listing (zeros listing_rows) (zeros listing_rows) {Below = AfterListing} answered (λ m p d. never (cc))),
      refusal_shown f,
    )
    after_recipe h (Ok rows) e f =
        let m = rows.count in
        let p = rows.next in
        let c = (accepted input start Listing (zeros listing_rows) (zeros listing_rows) m p e).claimed in
        let i : m ≡ k = sym c.first in
        let j : p ≡ end = c.place ∙ ap (λ (x : ℕ). start + (20 + 6 * x)) i in
        let s = after_listing h (ltb end (length input)) refl (rw (j, i) at f) in
        (s.0, rw (e, zeros_length listing_rows) at (read_rows input start Listing (zeros listing_rows) (zeros listing_rows) s.0 (λ _ _ _. s.1)), s.2)

    at_first : (x : ReadAnswer) → recipe_read input ≡ x → FromRecipe input x a.line.outcome a.line.map → Settled (EntryTable input)
    at_first (Err x) e f = (
      refused (number_of x) (place_of x),
      rw (e, zeros_length recipe_rows) at (read_rows input 0 Recipe (zeros recipe_rows) (zeros recipe_rows) {Below = AfterRecipe} answered (λ m p d. never (cc))),
      refusal_shown f,
    )
    at_first (Ok rows) e f =
        let m = rows.count in
        let p = rows.next in
        let c = (accepted input 0 Recipe (zeros recipe_rows) (zeros recipe_rows) m p e).claimed in
        let i : m ≡ n = sym c.first in
        let j : p ≡ start = omega (arith, c.place) in
        let s = after_recipe (omega (arith, c.high)) (listing_read input start) refl (rw (j, i) at f) in
        (s.0, rw (e, zeros_length recipe_rows) at (read_rows input 0 Recipe (zeros recipe_rows) (zeros recipe_rows) s.0 (λ _ _ _. s.1)), s.2)

pub demand_one : DemandOne
demand_one =
    record {
      include = λ rd rl td tl m r n a.
          (subst (ByTable (IncludeTable rd rl td tl m)) (told_answer rd rl td tl m r n a) (include_rows rd rl td tl m), map_kept rd rl td tl m r n a);
      judge = λ rd rl td tl r j. subst (ByTable (JudgeTable rd rl td tl)) (told_judgement rd rl td tl r j) (tables_rows rd rl td tl answered fine);
      read = λ bytes start limit depths labels r nd nl k. (
        rw (k.answer, ← read_seen) (read_rows bytes start limit depths labels answered (λ _ _ _. fine)),
        λ f. (k.depths_after ∙ rows_kept r (depths_in bytes start) depths f, k.labels_after ∙ rows_kept r (labels_in bytes start) labels f),
      );
      write = λ depths labels bytes r new k. (
        rw k.answer (write_rows depths labels bytes),
        λ f. k.bytes_after ∙ bytes_kept (write_of depths labels bytes) (parcel_of depths labels) bytes (rw k.answer at f),
      );
      strike = λ s row o m. by_verdict (struck s row) s o (journal.strike_verdict s row) (strike_rows s row) m;
      undo = λ s o m. by_verdict (undone s) s o (journal.undo_verdict s) (undo_rows s) m;
      entry_short = λ input before r after e h. rw (lt-ltb (length before) answer_bytes h) at e.by_room;
      entry = λ input before r after e h.
          let a = rw (le-ltb (length before) answer_bytes h) at e.by_room in at_first input before r after a (recipe_read input) refl a.line.said.by_reading;
      entry_fits = λ input before r after size e. at_most input before r after size (ltb (length before) answer_bytes) e.by_room;
      entry_front = λ input before r after long e. record { by_room = whole input before r after long (ltb (length before) answer_bytes) e.by_room };
    }
  where
    at_most : (input before : List ℕ) (r : ℕ) (after : List ℕ) → length input < 2 ^ 64 → (b : Bool) → Entered b input before r after → r ≤ answer_bytes
    at_most input before r after size true f = omega (arith, f.0)
    at_most input before r after size false f = omega (arith, f.count, line_fits input size f.bytes f.line)

    whole : (input before : List ℕ) (r : ℕ) (after : List ℕ) → 26153 ≤ length input → (b : Bool) → Entered b (take 26153 input) before r after
        → Entered b input before r after
    whole input before r after long true f = f
    whole input before r after long false f =
        record { bytes = f.bytes; line = line_front input f.bytes long f.line; count = f.count; stored = f.stored }
