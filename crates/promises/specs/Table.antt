-- Document 01, "Numbers of refusal": the table, a row below another in the order of each call. Assumes nothing.
use Rattle.std.specs.Prelude.{◌≡◌, List, ℕ, ◌+◌, ◌*◌, ◌%◌, ◌<◌, ◌≤◌, length, drop}
use Rattle.rows.specs.Limits.{recipe_rows, listing_rows}
use Rattle.rows.specs.FirstBad.{BadStepAt, TooDeepAt}
use Rattle.parcels.specs.Numbers.{number}
use Rattle.parcels.specs.Parcel.{words}
use Rattle.parcels.specs.Sums.{none, added_all}
use Rattle.parcels.specs.Read.{most_rows, depths_in, labels_in}
use Rattle.parcels.specs.declared.Limit.{Limit}
use Rattle.parcels.specs.declared.Limit.TheVariants.{Recipe, Listing}
use Rattle.journal.specs.Entry.{room, Undoable}
use Rattle.journal.specs.Lent.{Lent, used_depths, used_labels, newest}
use Rattle.journal.specs.Refusals.{journal_words}

-- a row of the table over the rows below it: the number, and at which place it is given; a row below counts only where this one is not given
pub data Given (number : ℕ) (When : ℕ → Type 0) (Below : ℕ → ℕ → Type 0) : ℕ → ℕ → Type 0 where
  this : {place : ℕ} → When place → Given number When Below number place
  below : {other place : ℕ} → ((q : ℕ) → When q → ⊥) → Below other place → Given number When Below other place

-- given at one place only, when a fact holds
abbrev pub At : ℕ → Type 0 → ℕ → Type 0
At place Fact q = (q ≡ place) × Fact

-- the end of the table: not refused
abbrev pub Fine : ℕ → ℕ → Type 0
Fine number place = ⊥

-- the tables of a question: 1 to 9. The first bad row of a table is bad for its step (judged first in a row) or for its depth
abbrev pub TablesRows : List ℕ → List ℕ → List ℕ → List ℕ → (ℕ → ℕ → Type 0) → ℕ → ℕ → Type 0
TablesRows rd rl td tl Below =
    Given 1 (At 0 (length rd ≡ length rl → ⊥))
    (Given 2 (At 0 (length rd ≡ 0))
    (Given 3 (At 0 (recipe_rows < length rd))
    (Given 4 (BadStepAt rd)
    (Given 5 (TooDeepAt rd)
    (Given 6 (At 0 (length td ≡ length tl → ⊥))
    (Given 7 (At 0 (listing_rows < length td))
    (Given 8 (BadStepAt td)
    (Given 9 (TooDeepAt td) Below))))))))

-- the judge: 1 to 9
abbrev pub JudgeTable : List ℕ → List ℕ → List ℕ → List ℕ → ℕ → ℕ → Type 0
JudgeTable rd rl td tl = TablesRows rd rl td tl Fine

-- the inclusion call: 1 to 10
abbrev pub IncludeTable : List ℕ → List ℕ → List ℕ → List ℕ → List ℕ → ℕ → ℕ → Type 0
IncludeTable rd rl td tl m = TablesRows rd rl td tl (Given 10 (At 0 (length m < length rd)) Fine)

-- a section of the parcel: its count for being whole, then for its value, then its fields for being whole
abbrev pub SectionRows : List ℕ → ℕ → ℕ → ℕ → Type 0 → (ℕ → ℕ → Type 0) → ℕ → ℕ → Type 0
SectionRows bytes start width wrongNumber Wrong Below =
    Given 11 (At (length bytes) (length bytes < start + 4))
    (Given wrongNumber (At start Wrong)
    (Given 11 (At (length bytes) (length bytes < start + 4 + width * number 4 (drop start bytes))) Below))

-- the two sums at a place of the input, which are those of its words
abbrev pub SumsRows : List ℕ → ℕ → ℕ → ℕ → (ℕ → ℕ → Type 0) → ℕ → ℕ → Type 0
SumsRows bytes start n place Below =
    Given 14 (At place (number 4 (drop place bytes) ≡ (added_all none (words n (labels_in bytes start n) (depths_in bytes start n))).first → ⊥))
    (Given 14 (At place (number 4 (drop (place + 4) bytes) ≡ (added_all none (words n (labels_in bytes start n) (depths_in bytes start n))).second → ⊥)) Below)

-- lent row slices of so many slots
abbrev pub RoomRows : ℕ → ℕ → ℕ → (ℕ → ℕ → Type 0) → ℕ → ℕ → Type 0
RoomRows n depths labels Below = Given 18 (At 0 (depths < n)) (Given 18 (At 0 (labels < n)) Below)

-- the reader, where the first count is n and the other two sections start at these places: fields in reading order, both sums before 14, then 18
abbrev pub ReadRowsAt : List ℕ → ℕ → Limit → ℕ → ℕ → ℕ → ℕ → ℕ → (ℕ → ℕ → Type 0) → ℕ → ℕ → Type 0
ReadRowsAt bytes start limit n second third depths labels Below =
    SectionRows bytes start 4 16 (most_rows limit < n)
    (SectionRows bytes second 2 12 (number 4 (drop second bytes) ≡ n → ⊥)
    (SectionRows bytes third 4 13 (number 4 (drop third bytes) ≡ 2 → ⊥)
    (SumsRows bytes start n (third + 4) (RoomRows n depths labels Below))))

-- the reader of the parcel at a place, lent row slices of so many slots: 11 to 14, 16, 18
abbrev pub ReadRows : List ℕ → ℕ → Limit → ℕ → ℕ → (ℕ → ℕ → Type 0) → ℕ → ℕ → Type 0
ReadRows bytes start limit depths labels Below =
    let n = number 4 (drop start bytes) in
    ReadRowsAt bytes start limit n (start + 4 + 4 * n) (start + 4 + 4 * n + 4 + 2 * n) depths labels Below

abbrev pub ReadTable : List ℕ → ℕ → Limit → List ℕ → List ℕ → ℕ → ℕ → Type 0
ReadTable bytes start limit depths labels = ReadRows bytes start limit (length depths) (length labels) Fine

-- the writer: 6, 7, 17
abbrev pub WriteTable : List ℕ → List ℕ → List ℕ → ℕ → ℕ → Type 0
WriteTable depths labels bytes =
    Given 6 (At 0 (length depths ≡ length labels → ⊥))
    (Given 7 (At 0 (listing_rows < length labels)) (Given 17 (At 0 (length bytes < 20 + 6 * length labels)) Fine))

-- what strike and undo are lent: 21 to 24
abbrev pub LentRows : Lent → (ℕ → ℕ → Type 0) → ℕ → ℕ → Type 0
LentRows s Below =
    Given 21 (At 0 (length s.depths ≡ length s.labels → ⊥))
    (Given 21 (At 0 (listing_rows < length s.depths))
    (Given 22 (At 0 (length s.depths < s.rows))
    (Given 23 (BadStepAt (used_depths s))
    (Given 23 (TooDeepAt (used_depths s))
    (Given 24 (At 0 (length s.journal % 4 ≡ 0 → ⊥))
    (Given 24 (At 0 (journal_words < length s.journal)) (Given 24 (At 0 (room s.journal < s.entries)) Below)))))))

-- strike of row r: 21 to 26
abbrev pub StrikeTable : Lent → ℕ → ℕ → ℕ → Type 0
StrikeTable s r =
    LentRows s (Given 25 (At 0 (r < 1)) (Given 25 (At 0 (s.rows < r)) (Given 26 (At 0 (room s.journal ≤ s.entries)) Fine)))

-- undo: 21 to 24, 27 to 29
abbrev pub UndoTable : Lent → ℕ → ℕ → Type 0
UndoTable s =
    LentRows s
    (Given 27 (At 0 (s.entries ≡ 0))
    (Given 28 (At 0 (s.rows ≡ length s.depths)) (Given 29 (At 0 (Undoable (newest s) (used_depths s) (used_labels s) → ⊥)) Fine)))

-- the C entry past number 19, of a recipe of n rows and a listing of k: both parcels in reading order, then 15, then 1 to 9. Number 10 never
-- comes: the entry lends its own map, of 256 slots, and a recipe has no more rows
abbrev pub EntryTableAt : List ℕ → ℕ → ℕ → ℕ → ℕ → Type 0
EntryTableAt input n k =
    ReadRows input 0 Recipe recipe_rows recipe_rows
    (ReadRows input (20 + 6 * n) Listing listing_rows listing_rows
    (Given 15 (At (20 + 6 * n + (20 + 6 * k)) (20 + 6 * n + (20 + 6 * k) < length input))
    (TablesRows (depths_in input 0 n) (labels_in input 0 n) (depths_in input (20 + 6 * n) k) (labels_in input (20 + 6 * n) k) Fine)))

abbrev pub EntryTable : List ℕ → ℕ → ℕ → Type 0
EntryTable input = let n = number 4 input in EntryTableAt input n (number 4 (drop (20 + 6 * n) input))
