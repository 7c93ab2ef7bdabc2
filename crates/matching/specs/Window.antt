-- A window on a table's rows: those behind `first` rows, up to row `end`. Assumes nothing.
use Rattle.std.specs.Prelude.{List, ℕ, suc, ◌≤◌, length}
use Rattle.matching.specs.Placing.{Closed}

-- all of a window's rows are there, and every tree that begins among them ends among them
abbrev pub Whole : List ℕ → ℕ → ℕ → Type 0
Whole td first end = (end ≤ length td) × Closed td (suc first) end
