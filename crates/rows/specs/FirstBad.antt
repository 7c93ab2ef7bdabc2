-- The first bad row of a table: what the refusals 4, 5, 8, 9 and 23 look for. Assumes nothing.
use Rattle.std.specs.Prelude.{true, false, List, [], ◌∷◌, ℕ, zero, suc, ◌-◌, ◌≤◌, ◌<◌, ltb, take, Result, Ok, Err}
use Rattle.rows.specs.Limits.{deepest}
use Rattle.rows.specs.Rows.{depth, Row, WellFormed}
use Rattle.rows.specs.declared.BadRow.{BadRow}
use Rattle.rows.specs.declared.BadRow.TheVariants.{Step, TooDeep}

-- the check of ds, the rows from number v on, of which the first may be as deep as most: row by row, the step before the depth
unfoldable pub check_from : ℕ → ℕ → List ℕ → Result (Unit {0}) BadRow
check_from v most [] = Ok tt
check_from v most (d ∷ ds) =
    elim (ltb most d) [ true ↦ Err (Step v) | false ↦ elim (ltb deepest d) [ true ↦ Err (TooDeep v) | false ↦ check_from (suc v) (suc d) ds ] ]

-- row 1 has depth 0
abbrev pub first_bad : List ℕ → Result (Unit {0}) BadRow
first_bad ds = check_from 1 0 ds

-- the most that row v's depth may be: 0 for row 1, one more than the depth before it for a later row
abbrev pub most_at : List ℕ → ℕ → ℕ
most_at ds zero = 0
most_at ds (suc zero) = 0
most_at ds (suc (suc i)) = suc (depth ds (suc i))

-- v is the first bad row, for its step: row 1 below depth 0, or a later depth over one more than the depth before it
pub record BadStepAt (ds : List ℕ) (v : ℕ) : Type 0 where
  pub row : Row ds v
  pub before : WellFormed (take (v - 1) ds)
  pub step : most_at ds v < depth ds v

-- v is the first bad row, for its depth: its step is good, and its depth exceeds 63
pub record TooDeepAt (ds : List ℕ) (v : ℕ) : Type 0 where
  pub row : Row ds v
  pub before : WellFormed (take (v - 1) ds)
  pub step : depth ds v ≤ most_at ds v
  pub deep : deepest < depth ds v

-- what each finding says of the table
abbrev pub Says : List ℕ → Result (Unit {0}) BadRow → Type 0
Says ds (Ok x) = WellFormed ds
Says ds (Err (Step v)) = BadStepAt ds v
Says ds (Err (TooDeep v)) = TooDeepAt ds v
