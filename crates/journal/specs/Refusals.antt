-- Document 01, "Numbers of refusal", 21 to 29: exactly when, in which order, with which number and place. Assumes nothing.
use Rattle.std.specs.Prelude.{Bool, true, false, Result, Ok, Err, ℕ, ◌%◌, ◌≤◌, ◌<◌, ◌≡◌, leb, ltb, eqb, length, List, ◌∷◌, ◌++◌}
use Rattle.std.specs.Fmt.{decimal}
use Rattle.rows.specs.Limits.{listing_rows}
use Rattle.rows.specs.Rows.{WellFormed}
use Rattle.rows.specs.FirstBad.{first_bad}
use Rattle.rows.specs.declared.BadRow as rows
use Rattle.rows.specs.declared.BadRow.TheVariants.{Step, TooDeep}
use Rattle.journal.specs.declared.Refusal.{Refusal}
use Rattle.journal.specs.declared.Refusal.TheVariants.{TableSlices, RowCount, BadRow, JournalSlice, NoSuchRow, JournalFull, NoEntries, TableFull, NeverStruck}
use Rattle.journal.specs.declared.Counts.{Counts}
use Rattle.journal.specs.Entry.{entry_words, room, may_return}
use Rattle.journal.specs.Lent.{Lent, used_depths, newest, struck, undone}

-- a judgement before anything is written, and what a call answers: the new counts, or the refusal
abbrev pub Verdict : Type 0
Verdict = Result (Unit {0}) Refusal

abbrev pub Answer : Type 0
Answer = Result Counts Refusal

-- the number of a refusal
abbrev pub number : Refusal → ℕ
number TableSlices = 21
number RowCount = 22
number (BadRow v) = 23
number JournalSlice = 24
number NoSuchRow = 25
number JournalFull = 26
number NoEntries = 27
number TableFull = 28
number NeverStruck = 29

-- its place: the first bad row, or 0
abbrev pub place : Refusal → ℕ
place TableSlices = 0
place RowCount = 0
place (BadRow v) = v
place JournalSlice = 0
place NoSuchRow = 0
place JournalFull = 0
place NoEntries = 0
place TableFull = 0
place NeverStruck = 0

-- both as document 01's line has them, in decimal with a space between
abbrev pub number_and_place : Refusal → List ℕ
number_and_place why = decimal (number why) ++ (32 ∷ decimal (place why))

-- the journal's most words
abbrev pub journal_words : ℕ
journal_words = 16384

-- refused unless a test holds; then what comes next
abbrev pub unless : Bool → Refusal → Verdict → Verdict
unless true why next = next
unless false why next = Err why

-- refused at the first bad row, whatever is bad there
abbrev pub of_bad_row : rows.BadRow → Refusal
of_bad_row (Step v) = BadRow v
of_bad_row (TooDeep v) = BadRow v

abbrev pub unless_bad : Result (Unit {0}) rows.BadRow → Verdict → Verdict
unless_bad (Ok u) next = next
unless_bad (Err bad) next = Err (of_bad_row bad)

-- one judgement after another
abbrev pub and_then : Verdict → Verdict → Verdict
and_then (Ok u) next = next
and_then (Err why) next = Err why

-- 24: the journal's words, and more entries counted than fit
unfoldable pub journal_verdict : Lent → Verdict
journal_verdict s =
    unless (eqb (length s.journal % entry_words) 0) JournalSlice
    (unless (leb (length s.journal) journal_words) JournalSlice (unless (leb s.entries (room s.journal)) JournalSlice (Ok tt)))

-- 21 to 24: the table's slices, the row count, the rows, then the journal
unfoldable pub lent_verdict : Lent → Verdict
lent_verdict s =
    unless (eqb (length s.depths) (length s.labels)) TableSlices
    (unless (leb (length s.depths) listing_rows) TableSlices
    (unless (leb s.rows (length s.depths)) RowCount (unless_bad (first_bad (used_depths s)) (journal_verdict s))))

-- a strike of row r: 21 to 26
unfoldable pub strike_verdict : Lent → ℕ → Verdict
strike_verdict s r =
    and_then (lent_verdict s)
    (unless (leb 1 r) NoSuchRow (unless (leb r s.rows) NoSuchRow (unless (ltb s.entries (room s.journal)) JournalFull (Ok tt))))

-- an undo: 21 to 24, 27 to 29
unfoldable pub undo_verdict : Lent → Verdict
undo_verdict s =
    and_then (lent_verdict s)
    (unless (leb 1 s.entries) NoEntries
    (unless (ltb s.rows (length s.depths)) TableFull
    (unless (may_return (used_depths s) (newest s).row (newest s).depth (newest s).below) NeverStruck (Ok tt))))

-- the answer: the new counts, or the refusal
abbrev pub answered : Verdict → Lent → Answer
answered (Ok u) s = Ok (record { rows = s.rows; entries = s.entries })
answered (Err why) s = Err why

-- what the call leaves: a refusal leaves all as it was
abbrev pub settled : Verdict → Lent → Lent → Lent
settled (Ok u) after before = after
settled (Err why) after before = before

-- what a strike of row r answers, and what it leaves
abbrev pub strike_answer : Lent → ℕ → Answer
strike_answer s r = answered (strike_verdict s r) (struck s r)

abbrev pub after_strike : Lent → ℕ → Lent
after_strike s r = settled (strike_verdict s r) (struck s r) s

-- what an undo answers, and what it leaves
abbrev pub undo_answer : Lent → Answer
undo_answer s = answered (undo_verdict s) (undone s)

abbrev pub after_undo : Lent → Lent
after_undo s = settled (undo_verdict s) (undone s) s

-- the lent things are in order: none of 21 to 24
pub record Sound (s : Lent) : Type 0 where
  pub lengths : length s.depths ≡ length s.labels
  pub capacity : length s.depths ≤ listing_rows
  pub fits : s.rows ≤ length s.depths
  pub rows : WellFormed (used_depths s)
  pub words : length s.journal % entry_words ≡ 0
  pub journal : length s.journal ≤ journal_words
  pub entries : s.entries ≤ room s.journal

-- a strike of row r is accepted
pub record Strikable (s : Lent) (r : ℕ) : Type 0 where
  pub sound : Sound s
  pub first : 1 ≤ r
  pub last : r ≤ s.rows
  pub free : s.entries < room s.journal

-- an undo is accepted
pub record Returnable (s : Lent) : Type 0 where
  pub sound : Sound s
  pub some : 1 ≤ s.entries
  pub free : s.rows < length s.depths
  pub returns : may_return (used_depths s) (newest s).row (newest s).depth (newest s).below ≡ true
