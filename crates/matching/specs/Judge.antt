-- Document 01, "A plain judge that tries every candidate row": what it answers, and what its search tells. Assumes nothing.
use Rattle.std.specs.Prelude.{◌≡◌, Bool, true, false, List, ◌↔◌, ℕ, ◌+◌, ◌≤◌, ◌<◌, length, Result, Ok, Err}
use Rattle.rows.specs.Rows.{last_row}
use Rattle.rows.specs.Forest.{Forest, size}
use Rattle.rows.specs.Stands.{Stands}
use Rattle.rows.specs.Embedding.{SameLabel, Included, LiesIn}
use Rattle.matching.specs.declared.Refusal.{Refusal}
use Rattle.matching.specs.Refusals.{tables_check}

-- what the judge says of the tables: the listing includes the recipe, or it does not, or the first refusal holds
abbrev pub Judged : List ℕ → List ℕ → List ℕ → List ℕ → Result Bool Refusal → Type 0
Judged rd rl td tl (Ok true) = (tables_check rd rl td tl ≡ Ok tt) × Included (SameLabel rl tl) rd td
Judged rd rl td tl (Ok false) = (tables_check rd rl td tl ≡ Ok tt) × (Included (SameLabel rl tl) rd td → ⊥)
Judged rd rl td tl (Err x) = tables_check rd rl td tl ≡ Err x

-- the rows after row z up to row e are whole trees of a table, each with its label
pub record Searchable (ds ls : List ℕ) (z e : ℕ) : Type 0 where
  pub slices : length ds ≡ length ls
  pub order : z ≤ e
  pub inside : e ≤ length ds
  pub whole : (v : ℕ) → z < v → v ≤ e → last_row ds v ≤ e

-- the rows after row z up to row e draw the forest f
pub record Draws (ds : List ℕ) (z e : ℕ) (f : Forest ℕ) : Type 0 where
  pub stands : Stands ds z f
  pub last : z + size f ≡ e

-- r tells whether the recipe rows after row a up to row e lie in the listing rows after row c up to row d
abbrev pub Tells : List ℕ → List ℕ → ℕ → ℕ → List ℕ → List ℕ → ℕ → ℕ → Bool → Type 0
Tells rd rl a e td tl c d r = (p f : Forest ℕ) → Draws rd a e p → Draws td c d f → (r ≡ true) ↔ LiesIn (SameLabel rl tl) p f
