-- Document 01, "Rows": a table by its depths. Rows are numbered from 1, and 0 is the virtual parent of all roots. Assumes nothing.
use Rattle.std.specs.Prelude.{◌≡◌, Bool, true, false, ◌&&◌, List, [], ◌∷◌, ℕ, zero, suc, ◌+◌, ◌-◌, ◌≤◌, ◌<◌, leb, ltb, length, get_or, drop}
use Rattle.rows.specs.Limits.{deepest}

-- what stands at row v of a lent slice; 0 where there is no such row
abbrev pub at : List ℕ → ℕ → ℕ
at xs zero = 0
at xs (suc i) = get_or xs i 0

-- v is a row of the table
abbrev pub Row : List ℕ → ℕ → Type 0
Row ds v = (1 ≤ v) × (v ≤ length ds)

abbrev pub depth : List ℕ → ℕ → ℕ
depth ds v = at ds v

-- the depths draw a forest: row 1 has depth 0; each later depth is at most one more than the depth before it
pub record Outline (ds : List ℕ) : Type 0 where
  pub first : Row ds 1 → depth ds 1 ≡ 0
  pub step : (v : ℕ) → Row ds v → Row ds (suc v) → depth ds (suc v) ≤ suc (depth ds v)

-- well-formed: such depths, of which none exceeds 63
pub record WellFormed (ds : List ℕ) : Type 0 where
  pub outline : Outline ds
  pub shallow : (v : ℕ) → Row ds v → depth ds v ≤ deepest

-- how many rows of ds, from the first on, are deeper than d
abbrev pub deeper : ℕ → List ℕ → ℕ
deeper d [] = 0
deeper d (e ∷ es) = elim (ltb d e) [ true ↦ suc (deeper d es) | false ↦ 0 ]

-- the number of descendants of row v: the rows after it up to, not including, the next row of equal or smaller depth.
-- All rows are below row 0; a row that is not there has none
abbrev pub descendants : List ℕ → ℕ → ℕ
descendants ds zero = length ds
descendants ds (suc i) = deeper (get_or ds i 0) (drop (suc i) ds)

-- the last row of the tree at row v: the descendants of v are the rows after v up to this one
abbrev pub last_row : List ℕ → ℕ → ℕ
last_row ds v = v + descendants ds v

-- the closing number (postorder): row number plus descendants minus depth. The opening number (preorder) is the row number
abbrev pub closing : List ℕ → ℕ → ℕ
closing ds v = v + descendants ds v - depth ds v

-- row u is an ancestor of w: it opens before w and closes after it
abbrev pub Ancestor : List ℕ → ℕ → ℕ → Type 0
Ancestor ds u w = (1 ≤ u) × (u < w) × (closing ds w < closing ds u)

-- row u is left of w: it opens before and closes before
abbrev pub LeftOf : List ℕ → ℕ → ℕ → Type 0
LeftOf ds u w = (1 ≤ u) × (u < w) × (closing ds u < closing ds w)

-- the same two as tests
abbrev pub is_ancestor : List ℕ → ℕ → ℕ → Bool
is_ancestor ds u w = leb 1 u && (ltb u w && ltb (closing ds w) (closing ds u))

abbrev pub is_left_of : List ℕ → ℕ → ℕ → Bool
is_left_of ds u w = leb 1 u && (ltb u w && ltb (closing ds u) (closing ds w))

-- one more where a test holds
abbrev pub counted : Bool → ℕ → ℕ
counted true n = suc n
counted false n = n

-- how many of the rows 1 to n pass a test
abbrev pub tally : (ℕ → Bool) → ℕ → ℕ
tally p zero = 0
tally p (suc n) = counted (p (suc n)) (tally p n)

-- the number of ancestors of row v
abbrev pub ancestors : List ℕ → ℕ → ℕ
ancestors ds v = tally (λ u. is_ancestor ds u v) (length ds)
