-- Demand 1: "Every public call takes every input, ends, and refuses a bad table, a cut parcel or too little room by number and place. A
-- refusal changes nothing that was lent (the C entry alone writes its refusal line)."
-- That a call ends, and takes every input, is what a proved contract with no `requires` means: the prover admits no function that may not end,
-- and OneOutcome has that no call asks anything of its caller. What is lent as `&`, and not as `&mut`, no call can write. Assumes nothing.
use Rattle.std.specs.Prelude.{◌≡◌, ◌↔◌, ◌⊎◌, Ok, Err, List, [], ◌∷◌, ◌++◌, ℕ, ◌+◌, ◌*◌, ◌^◌, ◌≤◌, ◌<◌, length, take, drop}
use Rattle.rows.specs.Limits.{recipe_rows}
use Rattle.matching.specs.Refusals.{refusal_number, refusal_place}
use Rattle.matching.specs.Answer.{Answers}
use Rattle.matching.specs.Judge.{Judged}
use Rattle.parcels.specs.Numbers.{number}
use Rattle.parcels.specs.Refusals.{number_of, place_of}
use Rattle.parcels.specs.Read.{depths_in, labels_in}
use Rattle.parcels.specs.declared.Limit.{Limit}
use Rattle.journal.specs.Lent.{Lent}
use Rattle.journal.specs.Refusals as journal
use Rattle.journal.specs.Outcome.{Outcome, MeetsStrike, MeetsUndo}
use Rattle.host.specs.Line.{line, refused_word}
use Rattle.host.specs.Outcome.{zeros, outcome_of}
use Rattle.host.specs.Host.{line_of, answer_bytes, Entry}
use Rattle.promises.specs.Table.{JudgeTable, IncludeTable, ReadTable, WriteTable, StrikeTable, UndoTable, EntryTable}
use Rattle.promises.specs.Calls.{Inclusion, Judgement, ReadAnswer, WriteAnswer, Reads, Writes}
use Rattle.promises.specs.DemandTwo.{Yes, No}

-- what is seen of an answer: that it is one, or the number and place of a refusal
pub data Seen : Type 0 where
  answered : Seen
  refused : ℕ → ℕ → Seen

abbrev pub of_answer : Inclusion → Seen
of_answer (Ok answer) = answered
of_answer (Err x) = refused (refusal_number x) (refusal_place x)

abbrev pub of_judgement : Judgement → Seen
of_judgement (Ok included) = answered
of_judgement (Err x) = refused (refusal_number x) (refusal_place x)

abbrev pub of_read : ReadAnswer → Seen
of_read (Ok rows) = answered
of_read (Err x) = refused (number_of x) (place_of x)

abbrev pub of_write : WriteAnswer → Seen
of_write (Ok n) = answered
of_write (Err x) = refused (number_of x) (place_of x)

abbrev pub of_call : journal.Answer → Seen
of_call (Ok counts) = answered
of_call (Err x) = refused (journal.number x) (journal.place x)

-- a number is given at a place exactly where the table gives it
abbrev pub ByTable : (ℕ → ℕ → Type 0) → Seen → Type 0
ByTable Table seen = (number place : ℕ) → Table number place ↔ (seen ≡ refused number place)

abbrev pub IsRefused : Seen → Type 0
IsRefused seen = (number : ℕ) × ((place : ℕ) × (seen ≡ refused number place))

-- a line stands at the front of the answer buffer, its length comes back, and the bytes after it stay
pub record Shows (bytes before : List ℕ) (r : ℕ) (after : List ℕ) : Type 0 where
  pub count : r ≡ length bytes
  pub stored : after ≡ bytes ++ drop (length bytes) before

-- the line of the inclusion answer about the recipe of n rows and the listing of k rows in the input
abbrev pub AnswerLine : List ℕ → ℕ → ℕ → List ℕ → ℕ → List ℕ → Type 0
AnswerLine input n k before r after =
    (a : Inclusion) × ((map : List ℕ)
    × Answers (depths_in input 0 n) (labels_in input 0 n) (depths_in input (20 + 6 * n) k) (labels_in input (20 + 6 * n) k) (zeros recipe_rows) a map
    × (Yes a ⊎ No a) × Shows (line_of (outcome_of n a) map) before r after)

-- what the C entry shows: the refusal's line, or the answer's
abbrev pub SeenLine : Seen → List ℕ → ℕ → ℕ → List ℕ → ℕ → List ℕ → Type 0
SeenLine (refused number place) input n k before r after = Shows (line refused_word (number ∷ place ∷ [])) before r after
SeenLine answered input n k before r after = AnswerLine input n k before r after

pub record DemandOne : Type 0 where
  -- the inclusion call: refused exactly as 1 to 10 say, and then the map slice is as it was
  pub include : (rd rl td tl m : List ℕ) (r : Inclusion) (n : List ℕ) → Answers rd rl td tl m r n
      → ByTable (IncludeTable rd rl td tl m) (of_answer r) × (IsRefused (of_answer r) → n ≡ m)
  -- the plain judge: refused exactly as 1 to 9 say; it is lent nothing that it could write
  pub judge : (rd rl td tl : List ℕ) (r : Judgement) → Judged rd rl td tl r → ByTable (JudgeTable rd rl td tl) (of_judgement r)
  -- the reader: refused exactly as 11 to 14, 16 and 18 say, and then both row slices are as they were
  pub read : (bytes : List ℕ) (start : ℕ) (limit : Limit) (depths labels : List ℕ) (r : ReadAnswer) (new_depths new_labels : List ℕ)
      → Reads bytes start limit depths labels r new_depths new_labels
      → ByTable (ReadTable bytes start limit depths labels) (of_read r)
      × (IsRefused (of_read r) → (new_depths ≡ depths) × (new_labels ≡ labels))
  -- the writer: refused exactly as 6, 7 and 17 say, and then the lent bytes are as they were
  pub write : (depths labels bytes : List ℕ) (r : WriteAnswer) (new_bytes : List ℕ) → Writes depths labels bytes r new_bytes
      → ByTable (WriteTable depths labels bytes) (of_write r) × (IsRefused (of_write r) → new_bytes ≡ bytes)
  -- strike: refused exactly as 21 to 26 say, and then table and journal are as they were
  pub strike : (s : Lent) (row : ℕ) (o : Outcome) → MeetsStrike s row o
      → ByTable (StrikeTable s row) (of_call o.answer)
      × (IsRefused (of_call o.answer) → (o.depths ≡ s.depths) × (o.labels ≡ s.labels) × (o.journal ≡ s.journal))
  -- undo: refused exactly as 21 to 24 and 27 to 29 say, and then table and journal are as they were
  pub undo : (s : Lent) (o : Outcome) → MeetsUndo s o
      → ByTable (UndoTable s) (of_call o.answer)
      × (IsRefused (of_call o.answer) → (o.depths ≡ s.depths) × (o.labels ≡ s.labels) × (o.journal ≡ s.journal))
  -- the C entry, number 19: an answer buffer under 1,295 bytes gets 0, and nothing is written
  pub entry_short : (input before : List ℕ) (r : ℕ) (after : List ℕ) → Entry input before r after → length before < answer_bytes → (r ≡ 0) × (after ≡ before)
  -- else refused exactly as the reader's numbers for both parcels, then 15, then 1 to 9 say: the refusal's line alone is written, and the bytes
  -- after it stay; what is not refused gets the line of its yes or no
  pub entry : (input before : List ℕ) (r : ℕ) (after : List ℕ) → Entry input before r after → answer_bytes ≤ length before
      → (seen : Seen) × ByTable (EntryTable input) seen
      × SeenLine seen input (number 4 input) (number 4 (drop (20 + 6 * number 4 input) input)) before r after
  -- a line has at most 1,295 bytes, so it fits every buffer that is long enough
  pub entry_fits : (input before : List ℕ) (r : ℕ) (after : List ℕ) → length input < 2 ^ 64 → Entry input before r after → r ≤ answer_bytes
  -- no byte behind the first 26,153 changes the outcome: the program reads no more
  pub entry_front : (input before : List ℕ) (r : ℕ) (after : List ℕ) → 26153 ≤ length input → Entry (take 26153 input) before r after
      → Entry input before r after
