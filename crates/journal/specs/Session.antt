-- A session: any list of strikes and undos on what is lent, refused ones included, and the strikes still standing after it. Assumes nothing.
use Rattle.std.specs.Prelude.{◌≡◌, Ok, Err, List, [], ◌∷◌, ◌++◌, ℕ, ◌+◌, ◌*◌, ◌≤◌, length, take, drop, replicate}
use Rattle.rows.specs.Forest.{numbers}
use Rattle.journal.specs.Strike.{strike_depths, without}
use Rattle.journal.specs.Entry.{entry_of, entry_words, words}
use Rattle.journal.specs.Lent.{Lent, used_depths, used_labels}
use Rattle.journal.specs.Refusals.{Verdict, strike_verdict, after_strike, undo_verdict, after_undo}

-- one call
pub data Call : Type 0 where
  strike_row : ℕ → Call
  undo_last : Call

-- what a list of calls leaves, the first call first
abbrev pub run : List Call → Lent → Lent
run [] s = s
run (strike_row r ∷ cs) s = run cs (after_strike s r)
run (undo_last ∷ cs) s = run cs (after_undo s)

abbrev pub accepted : {A : Type 0} → Verdict → A → A → A
accepted (Ok u) new old = new
accepted (Err why) new old = old

abbrev pub older : List ℕ → List ℕ
older [] = []
older (r ∷ st) = st

-- the strikes still standing, the newest first: the accepted ones that are not undone, behind those that stood before
abbrev pub standing : List Call → Lent → List ℕ → List ℕ
standing [] s st = st
standing (strike_row r ∷ cs) s st = standing cs (after_strike s r) (accepted (strike_verdict s r) (r ∷ st) st)
standing (undo_last ∷ cs) s st = standing cs (after_undo s) (accepted (undo_verdict s) (older st) st)

-- what strikes make of a table's depths, and of what its rows carry: of a list with the newest strike first, the oldest is applied first
abbrev pub replay : List ℕ → List ℕ → List ℕ
replay ds [] = ds
replay ds (r ∷ st) = strike_depths (replay ds st) r

abbrev pub left : {A : Type 0} → List A → List ℕ → List A
left xs [] = xs
left xs (r ∷ st) = without (left xs st) r

-- the rows left of n, by the numbers that they had at first
abbrev pub rows_left : ℕ → List ℕ → List ℕ
rows_left n st = left (numbers 1 n) st

-- the words of the strikes' entries, the oldest first
abbrev pub entries_of : List ℕ → List ℕ → List ℕ → List ℕ
entries_of ds ls [] = []
entries_of ds ls (r ∷ st) = entries_of ds ls st ++ words (entry_of (replay ds st) (left ls st) r)

-- of n rows, each strike names one that there was then
abbrev pub Named : ℕ → List ℕ → Type 0
Named n [] = Unit {0}
Named n (r ∷ st) = (1 ≤ r) × (r + length st ≤ n) × Named n st

-- t is what the strikes st make of s: the table, with a slot of 0 for each row struck and the later slots as they were,
-- and the entries of just those strikes behind the entries that were there
pub record Stands (s : Lent) (st : List ℕ) (t : Lent) : Type 0 where
  pub named : Named s.rows st
  pub rows : t.rows + length st ≡ s.rows
  pub depths : t.depths ≡ replay (used_depths s) st ++ (replicate (length st) 0 ++ drop s.rows s.depths)
  pub labels : t.labels ≡ left (used_labels s) st ++ (replicate (length st) 0 ++ drop s.rows s.labels)
  pub entries : t.entries ≡ s.entries + length st
  pub journal : take (t.entries * entry_words) t.journal ≡ take (s.entries * entry_words) s.journal ++ entries_of (used_depths s) (used_labels s) st
  pub words : length t.journal ≡ length s.journal

-- a list of strikes, with no undo among them
abbrev pub OnlyStrikes : List Call → Type 0
OnlyStrikes [] = Unit {0}
OnlyStrikes (strike_row r ∷ cs) = OnlyStrikes cs
OnlyStrikes (undo_last ∷ cs) = ⊥

-- as many undos as there are strikes
abbrev pub undos : List ℕ → List Call
undos [] = []
undos (r ∷ st) = undo_last ∷ undos st

-- the strikes themselves, the oldest first
abbrev pub strikes : List ℕ → List Call
strikes [] = []
strikes (r ∷ st) = strikes st ++ (strike_row r ∷ [])
