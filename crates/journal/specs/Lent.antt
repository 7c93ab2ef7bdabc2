-- What the two calls are lent, and what they leave: every slot of the slices. Assumes nothing.
use Rattle.std.specs.Prelude.{List, ◌∷◌, ◌++◌, ℕ, suc, ◌-◌, take, drop}
use Rattle.journal.specs.declared.judge.Lent as code
use Rattle.journal.specs.Strike.{strike_depths, without, undo_depths, put_back}
use Rattle.journal.specs.Entry.{Entry, entry_of, entry_at, words, no_words, written}

-- the table's two slices and its count of rows, the journal's slice and its count of entries
pub record Lent : Type 0 where
  pub depths : List ℕ
  pub labels : List ℕ
  pub rows : ℕ
  pub journal : List ℕ
  pub entries : ℕ

abbrev pub lent : List ℕ → List ℕ → ℕ → List ℕ → ℕ → Lent
lent ds ls n js k = record { depths = ds; labels = ls; rows = n; journal = js; entries = k }

-- the same as code hands it on
abbrev pub lent_of : code.Lent → Lent
lent_of s = lent s.depths.now s.labels.now s.rows s.journal.now s.entries

-- the used rows
abbrev pub used_depths : Lent → List ℕ
used_depths s = take s.rows s.depths

abbrev pub used_labels : Lent → List ℕ
used_labels s = take s.rows s.labels

-- the newest entry
abbrev pub newest : Lent → Entry
newest s = entry_at s.journal (s.entries - 1)

-- an accepted strike of row r: the last used slot becomes 0 in both slices, the entry is written after the last entry
abbrev pub struck : Lent → ℕ → Lent
struck s r =
    lent
    (strike_depths (used_depths s) r ++ (0 ∷ drop s.rows s.depths))
    (without (used_labels s) r ++ (0 ∷ drop s.rows s.labels))
    (s.rows - 1)
    (written s.journal s.entries (words (entry_of (used_depths s) (used_labels s) r)))
    (suc s.entries)

-- an accepted undo: the newest entry's row returns, and the words of the entry become 0
abbrev pub undone : Lent → Lent
undone s =
    lent
    (undo_depths (used_depths s) (newest s).row (newest s).depth (newest s).below ++ drop (suc s.rows) s.depths)
    (put_back (used_labels s) (newest s).row (newest s).label ++ drop (suc s.rows) s.labels)
    (suc s.rows)
    (written s.journal (s.entries - 1) no_words)
    (s.entries - 1)
