-- An outcome of a call: what comes back, and every lent slice afterwards. Assumes nothing.
use Rattle.std.specs.Prelude.{◌≡◌, Ok, Err, List, ℕ}
use Rattle.journal.specs.Lent.{Lent, lent}
use Rattle.journal.specs.Refusals.{Answer, strike_answer, after_strike, undo_answer, after_undo}

pub record Outcome : Type 0 where
  pub answer : Answer
  pub depths : List ℕ
  pub labels : List ℕ
  pub journal : List ℕ

-- the outcome meets the contract of a call that answers a and leaves t
pub record Meets (o : Outcome) (a : Answer) (t : Lent) : Type 0 where
  pub answer : o.answer ≡ a
  pub depths : o.depths ≡ t.depths
  pub labels : o.labels ≡ t.labels
  pub journal : o.journal ≡ t.journal

-- the contracts of `strike` and `undo`
abbrev pub MeetsStrike : Lent → ℕ → Outcome → Type 0
MeetsStrike s r o = Meets o (strike_answer s r) (after_strike s r)

abbrev pub MeetsUndo : Lent → Outcome → Type 0
MeetsUndo s o = Meets o (undo_answer s) (after_undo s)

-- the counts that the caller goes on with: those handed back, or after a refusal its own
abbrev pub rows_now : Answer → ℕ → ℕ
rows_now (Ok counts) old = counts.rows
rows_now (Err why) old = old

abbrev pub entries_now : Answer → ℕ → ℕ
entries_now (Ok counts) old = counts.entries
entries_now (Err why) old = old

-- what the caller lends to its next call
abbrev pub taken_over : Lent → Outcome → Lent
taken_over s o = lent o.depths o.labels (rows_now o.answer s.rows) o.journal (entries_now o.answer s.entries)
