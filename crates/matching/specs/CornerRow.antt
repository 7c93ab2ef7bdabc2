-- A corner as one row of the recipe: the row of its last subtree, 0 for the empty corner; and how the corners of a listing's
-- forest follow from those of its parts. `test v t` says whether recipe row v fits listing row t. Assumes nothing.
use Rattle.std.specs.Prelude.{◌≡◌, Bool, true, false, ◌&&◌, List, ℕ, zero, suc, ◌≤◌, ltb, eqb, length}
use Rattle.rows.specs.Rows.{depth, counted}
use Rattle.rows.specs.Forest.{Forest, nil, cons, forest_at}
use Rattle.matching.specs.Family.{parent, right_sibling, left_leaf}

-- the forest of row x, its right siblings and all beneath them; of row 0 nothing
abbrev pub from_row : List ℕ → ℕ → Forest ℕ
from_row ds zero = nil
from_row ds (suc z) = forest_at ds z (depth ds (suc z))

-- how many of the rows 1 to n are of depth d, counted back to the first shallower one
abbrev pub count_back : List ℕ → ℕ → ℕ → ℕ
count_back ds d zero = 0
count_back ds d (suc n) = elim (ltb (depth ds (suc n)) d) [ true ↦ 0 | false ↦ counted (eqb (depth ds (suc n)) d) (count_back ds d n) ]

-- the place of row w among its siblings, from 1
abbrev pub place : List ℕ → ℕ → ℕ
place ds w = count_back ds (depth ds w) w

-- close listing row t over its children, whose corner is w
unfoldable pub close_row : (ℕ → ℕ → Bool) → List ℕ → ℕ → ℕ → ℕ → ℕ
close_row test rd x t w =
    elim (eqb w 0) [
      | true ↦ elim (test (left_leaf rd x) t) [ true ↦ left_leaf rd x | false ↦ 0 ]
      | false ↦ elim (eqb (depth rd w) (depth rd x)) [
        | true ↦ w
        | false ↦ elim (eqb (right_sibling rd w) 0) [
          | true ↦ elim (test (parent rd w) t) [ true ↦ parent rd w | false ↦ w ]
          | false ↦ w
        ]
      ]
    ]

-- join a tree: a is the corner so far, b the tree's corner, w the tree's corner at a's right sibling
unfoldable pub join_row : List ℕ → ℕ → ℕ → ℕ → ℕ
join_row rd a b w =
    elim (eqb a 0) [
      | true ↦ b
      | false ↦ elim (ltb 0 b && ltb (depth rd b) (depth rd a)) [
        | true ↦ b
        | false ↦ elim (ltb 0 w && eqb (depth rd w) (depth rd a)) [ true ↦ w | false ↦ a ]
      ]
    ]

-- the corner of each recipe row x in the listing's forest f: in nothing it is empty, the first tree closes over its children,
-- and the trees beside it join
abbrev pub corners : (ℕ → ℕ → Bool) → List ℕ → Forest ℕ → ℕ → ℕ
corners test rd nil x = 0
corners test rd (cons t f r) x =
    let a = close_row test rd x t (corners test rd f x) in join_row rd a (corners test rd r x) (corners test rd r (right_sibling rd a))

-- the corner of `from_row rd x` that lies in f; row 0 has none
abbrev pub corner_at : (ℕ → ℕ → Bool) → List ℕ → Forest ℕ → ℕ → ℕ
corner_at test rd f zero = 0
corner_at test rd f (suc z) = corners test rd f (suc z)

-- row v stands on the chain of row x: x, its first child, that one's first child, down to the left-most leaf
abbrev pub Chained : List ℕ → ℕ → ℕ → Type 0
Chained rd x v = (x ≤ v) × (left_leaf rd v ≡ left_leaf rd x)

-- a corner a on chain x is 0, or a row that stands no deeper than the left-most leaf of x
pub record OnChain (rd : List ℕ) (x a : ℕ) : Type 0 where
  pub asks : x ≤ length rd
  pub row : a ≤ length rd
  pub low : 1 ≤ a → depth rd a ≤ depth rd (left_leaf rd x)

-- document 01's pair of a corner: the width is the place of its last subtree among its siblings, the row their parent; the empty
-- corner stands at the left-most leaf
abbrev pub width_at : List ℕ → ℕ → ℕ
width_at ds zero = 0
width_at ds (suc z) = place ds (suc z)

abbrev pub row_at : List ℕ → ℕ → ℕ
row_at ds zero = left_leaf ds 1
row_at ds (suc z) = parent ds (suc z)
