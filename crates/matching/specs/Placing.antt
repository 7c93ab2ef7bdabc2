-- Where the image of a recipe row is sought, once the rows before it have theirs. Assumes nothing.
use Rattle.std.specs.Prelude.{List, ℕ, zero, suc, ◌≤◌}
use Rattle.rows.specs.Rows.{at, Row, depth, last_row, closing}
use Rattle.matching.specs.Family.{parent, left_sibling}
use Rattle.matching.specs.EarliestClose.{Holds, Earliest}

-- the recipe rows 1 to n have their images
abbrev pub Placed : (ℕ → ℕ → Type 0) → List ℕ → List ℕ → List ℕ → ℕ → Type 0
Placed Fit rd td m n = (u : ℕ) → Row rd u → u ≤ n → Earliest Fit rd td m u

-- the last row that is barred to a row with left sibling s and parent p: of the tree at the sibling's image, or the parent's image
abbrev pub barred : List ℕ → List ℕ → ℕ → ℕ → ℕ
barred td m zero p = at m p
barred td m (suc s) p = last_row td (at m (suc s))

-- the window of row v: the rows below the image of its parent and right of the image of its left sibling.
-- Row 0 is the parent of the roots and its own image, so that a first root's window is the whole listing
abbrev pub lowest : List ℕ → List ℕ → List ℕ → ℕ → ℕ
lowest rd td m v = suc (barred td m (left_sibling rd v) (parent rd v))

abbrev pub highest : List ℕ → List ℕ → List ℕ → ℕ → ℕ
highest rd td m v = last_row td (at m (parent rd v))

-- one of the rows lo to hi holds v with all its descendants
abbrev pub HeldIn : (ℕ → ℕ → Type 0) → List ℕ → List ℕ → ℕ → ℕ → ℕ → Type 0
HeldIn Fit rd td v lo hi = (t : ℕ) × (lo ≤ t) × (t ≤ hi) × Holds Fit rd td v t

-- the same, where no row up to that one stands higher than v does in the recipe
abbrev pub HeldDeep : (ℕ → ℕ → Type 0) → List ℕ → List ℕ → ℕ → ℕ → ℕ → Type 0
HeldDeep Fit rd td v lo hi = (t : ℕ) × (lo ≤ t) × (t ≤ hi) × Holds Fit rd td v t × ((y : ℕ) → lo ≤ y → y ≤ t → depth rd v ≤ depth td y)

-- no tree that begins in the rows lo to hi ends behind them
abbrev pub Closed : List ℕ → ℕ → ℕ → Type 0
Closed td lo hi = (t : ℕ) → lo ≤ t → t ≤ hi → last_row td t ≤ hi

-- of the rows lo to hi that obey P, t is the first to close
pub record FirstIn (td : List ℕ) (P : ℕ → Type 0) (lo hi t : ℕ) : Type 0 where
  pub low : lo ≤ t
  pub high : t ≤ hi
  pub holds : P t
  pub first : (y : ℕ) → lo ≤ y → y ≤ hi → P y → closing td t ≤ closing td y
