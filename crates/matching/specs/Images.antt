-- The map while its images are found, row by row. Assumes nothing.
use Rattle.std.specs.Prelude.{◌≡◌, Option, Some, None, List, [], ◌∷◌, ℕ, ◌-◌, ◌≤◌, length, drop, set}
use Rattle.rows.specs.Rows.{at, Row}
use Rattle.rows.specs.Embedding.{Included}
use Rattle.matching.specs.Placing.{Placed}
use Rattle.matching.specs.Path.{Marks, Marked}

-- no recipe row has an image or a mark in the map; slots behind theirs stand as in m₀
pub record Cleared (rd m₀ m : List ℕ) : Type 0 where
  pub size : length m ≡ length m₀
  pub rest : drop (length rd) m ≡ drop (length rd) m₀
  pub none : (c : ℕ) → c ≤ length rd → at m c ≡ 0

-- the map before any row is placed; or, where t is known as the image of row 1, behind that row, with marks for the rows of row 1's chain
abbrev pub Begun : List ℕ → Option ℕ → List ℕ → ℕ → List ℕ → Type 0
Begun rd None m₀ n m = (n ≡ 0) × (m ≡ m₀)
Begun rd (Some t) m₀ n m = (n ≡ 1) × (m' : List ℕ) × Marks rd (1 ∷ []) 1 63 m₀ m' × (m ≡ set m' 0 t)

-- the first n rows of the map m have their images, later rows have none or marks, and slots behind the recipe's rows stand as in m₀
pub record Stage (Fit : ℕ → ℕ → Type 0) (rd td m₀ ls m : List ℕ) (n : ℕ) : Type 0 where
  pub few : n ≤ length rd
  pub placed : Placed Fit rd td m n
  pub marked : Marked Fit rd td ls m n
  pub size : length m ≡ length m₀
  pub rest : drop (length rd) m ≡ drop (length rd) m₀

-- row v is next: all rows before it have their images, the listing includes the recipe, and the map has a slot for each row
pub record NextRow (Fit : ℕ → ℕ → Type 0) (rd td ls m : List ℕ) (v : ℕ) : Type 0 where
  pub row : Row rd v
  pub stage : Stage Fit rd td m ls m (v - 1)
  pub included : Included Fit rd td
  pub room : length rd ≤ length m
