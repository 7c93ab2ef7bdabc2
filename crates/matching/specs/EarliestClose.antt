-- Document 01, "Earliest close": the one map that a yes hands out. Assumes nothing.
use Rattle.std.specs.Prelude.{◌≡◌, List, ℕ, ◌≤◌, length}
use Rattle.rows.specs.Rows.{at, Row, last_row, closing, Ancestor, LeftOf}
use Rattle.rows.specs.Embedding.{Embeds}
use Rattle.matching.specs.Family.{parent, left_sibling}

-- row u is v or one of its descendants
abbrev pub Tree : List ℕ → ℕ → ℕ → Type 0
Tree ds v u = (v ≤ u) × (u ≤ last_row ds v)

-- v with all its descendants has an embedding that sends v to t (and so the rest below t)
abbrev pub Holds : (ℕ → ℕ → Type 0) → List ℕ → List ℕ → ℕ → ℕ → Type 0
Holds Fit rd td v t = (e : ℕ → ℕ) × (e v ≡ t) × Embeds Fit rd td (Tree rd v) e

-- listing row t may be the image of recipe row v: it lies below the image of v's parent (anywhere if v is a root), lies
-- right of the image of v's left sibling if it has one, and holds v with all its descendants
pub record Allowed (Fit : ℕ → ℕ → Type 0) (rd td m : List ℕ) (v t : ℕ) : Type 0 where
  pub row : Row td t
  pub below : (parent rd v ≡ 0 → ⊥) → Ancestor td (at m (parent rd v)) t
  pub right : (left_sibling rd v ≡ 0 → ⊥) → LeftOf td (at m (left_sibling rd v)) t
  pub holds : Holds Fit rd td v t

-- of these the image is the one with the smallest closing number
pub record Earliest (Fit : ℕ → ℕ → Type 0) (rd td m : List ℕ) (v : ℕ) : Type 0 where
  pub allowed : Allowed Fit rd td m v (at m v)
  pub first : (t : ℕ) → Allowed Fit rd td m v t → closing td (at m v) ≤ closing td t

-- m, an image for each recipe row, is the map of earliest close
pub record EarliestClose (Fit : ℕ → ℕ → Type 0) (rd td m : List ℕ) : Type 0 where
  pub count : length m ≡ length rd
  pub each : (v : ℕ) → Row rd v → Earliest Fit rd td m v
