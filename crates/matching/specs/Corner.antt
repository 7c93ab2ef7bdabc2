-- Document 01, "Corner": the highest and widest left corner of the recipe that embeds in the listing. Assumes nothing.
use Rattle.std.specs.Prelude.{◌≡◌, List, ℕ, zero, suc, ◌≤◌, ◌<◌, length}
use Rattle.rows.specs.Rows.{last_row}
use Rattle.rows.specs.Embedding.{Embeds}
use Rattle.matching.specs.Family.{left_leaf}

-- the last row of the first i subtrees of row v (v itself where i is 0); the subtrees of row 0 are all trees
abbrev pub corner_end : List ℕ → ℕ → ℕ → ℕ
corner_end ds v zero = v
corner_end ds v (suc i) = last_row ds (suc (corner_end ds v i))

-- row v has i subtrees or more: each begins behind the one before, within the tree at v
abbrev pub HasSubtrees : List ℕ → ℕ → ℕ → Type 0
HasSubtrees ds v i = (j : ℕ) → j < i → corner_end ds v j < last_row ds v

-- the first i subtrees of recipe row v have an embedding
abbrev pub CornerEmbeds : (ℕ → ℕ → Type 0) → List ℕ → List ℕ → ℕ → ℕ → Type 0
CornerEmbeds Fit rd td i v = (e : ℕ → ℕ) × Embeds Fit rd td (λ u. (v < u) × (u ≤ corner_end rd v i)) e

-- the corner of width i at row v is the answer: v is 0 or on the left-most path (the rows 1 to the left-most leaf), no
-- corner of width 1 or more that embeds is higher, none at v is wider, and width 0 stands at the left-most leaf
pub record CornerIs (Fit : ℕ → ℕ → Type 0) (rd td : List ℕ) (i v : ℕ) : Type 0 where
  pub path : v ≤ left_leaf rd 1
  pub has : HasSubtrees rd v i
  pub empty : i ≡ 0 → v ≡ left_leaf rd 1
  pub embeds : CornerEmbeds Fit rd td i v
  pub best : (j x : ℕ) → 1 ≤ j → x ≤ left_leaf rd 1 → HasSubtrees rd x j → CornerEmbeds Fit rd td j x → (v ≤ x) × (x ≡ v → j ≤ i)

-- the corner is the whole recipe: row 0 and all roots
abbrev pub WholeCorner : List ℕ → ℕ → ℕ → Type 0
WholeCorner rd i v = (v ≡ 0) × (corner_end rd 0 i ≡ length rd)
