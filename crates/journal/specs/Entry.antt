-- The journal's entries and their words. The layout stands here alone. Assumes nothing.
use Rattle.std.specs.Prelude.{◌≡◌, Bool, true, false, Result, Ok, Err, ◌&&◌, List, [], ◌∷◌, ◌++◌, ℕ, zero, suc, ◌+◌, ◌*◌, ◌/◌, leb, ltb, eqb, length, get_or, take, drop}
use Rattle.rows.specs.Limits.{deepest}
use Rattle.rows.specs.Rows.{at, Row, depth, descendants, WellFormed}
use Rattle.rows.specs.FirstBad.{first_bad}
use Rattle.rows.specs.declared.BadRow.{BadRow}
use Rattle.journal.specs.declared.entry.Entry as code
use Rattle.journal.specs.Strike.{strike_depths, without, undo_depths}

-- an entry: the row struck, its label, its depth, and its descendants before the strike
pub record Entry : Type 0 where
  pub row : ℕ
  pub label : ℕ
  pub depth : ℕ
  pub below : ℕ

-- the entry that a strike of row r writes
abbrev pub entry_of : List ℕ → List ℕ → ℕ → Entry
entry_of ds ls r = record { row = r; label = at ls r; depth = depth ds r; below = descendants ds r }

-- how many words an entry has
abbrev pub entry_words : ℕ
entry_words = 4

-- an entry's words in the journal
abbrev pub words : Entry → List ℕ
words e = e.row ∷ e.label ∷ e.depth ∷ e.below ∷ []

-- the words of no entry
abbrev pub no_words : List ℕ
no_words = 0 ∷ 0 ∷ 0 ∷ 0 ∷ []

-- how many entries a journal slice has room for
abbrev pub room : List ℕ → ℕ
room js = length js / entry_words

-- the entry that stands behind k others
abbrev pub entry_at : List ℕ → ℕ → Entry
entry_at js k =
    record {
      row = get_or js (k * entry_words) 0;
      label = get_or js (k * entry_words + 1) 0;
      depth = get_or js (k * entry_words + 2) 0;
      below = get_or js (k * entry_words + 3) 0;
    }

-- an entry as code holds it
abbrev pub noted : code.Entry → Entry
noted e = record { row = e.row; label = e.label; depth = e.depth; below = e.below }

-- the journal slice with an entry's words ws written behind k entries
abbrev pub written : List ℕ → ℕ → List ℕ → List ℕ
written js k ws = take (k * entry_words) js ++ (ws ++ drop (k * entry_words + entry_words) js)

-- us, with labels ws, is a well-formed table that has a row as the entry says, whose strike leaves ds with labels ls
pub record Struck (e : Entry) (ds ls us ws : List ℕ) : Type 0 where
  pub well_formed : WellFormed us
  pub labelled : length ws ≡ length us
  pub row : Row us e.row
  pub says : entry_of us ws e.row ≡ e
  pub depths_left : strike_depths us e.row ≡ ds
  pub labels_left : without ws e.row ≡ ls

-- some well-formed table has a row as the entry says whose strike leaves ds with labels ls
abbrev pub Undoable : Entry → List ℕ → List ℕ → Type 0
Undoable e ds ls = (us : List ℕ) × ((ws : List ℕ) × Struck e ds ls us ws)

-- the check of a table's rows found none bad
abbrev pub is_fine : Result (Unit {0}) BadRow → Bool
is_fine (Ok u) = true
is_fine (Err bad) = false

-- the same as a test: with a row of depth d put back at place r the table is well-formed, and that row has n descendants
unfoldable pub may_return : List ℕ → ℕ → ℕ → ℕ → Bool
may_return ds r d n =
    leb 1 r && (leb r (suc (length ds)) && (is_fine (first_bad (undo_depths ds r d n)) && eqb (descendants (undo_depths ds r d n) r) n))

-- the first n rows may rise under a row of depth d that returns before them, where the first may be as deep as most:
-- none is shallower than d, no step and no depth is too large once they have risen, and the row behind them is not below d
unfoldable pub may_rise : ℕ → ℕ → ℕ → List ℕ → Bool
may_rise most d zero [] = true
may_rise most d zero (e ∷ ds) = leb e d
may_rise most d (suc n) [] = false
may_rise most d (suc n) (e ∷ ds) = leb d e && (ltb e most && (ltb e deepest && may_rise (suc (suc e)) d n ds))
