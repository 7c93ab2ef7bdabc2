-- Document 01, "Numbers of refusal": the refusals 1 to 10 of a question about a recipe and a listing, in their order. Assumes nothing.
use Rattle.std.specs.Prelude.{Bool, true, false, not, ◌≡◌, List, ℕ, ◌≤◌, eqb, ltb, length, ◌∷◌, ◌++◌, Result, Ok, Err}
use Rattle.std.specs.Fmt.{decimal}
use Rattle.rows.specs.Limits.{recipe_rows, listing_rows}
use Rattle.rows.specs.Rows.{WellFormed}
use Rattle.rows.specs.FirstBad.{first_bad}
use Rattle.rows.specs.declared.BadRow.{BadRow}
use Rattle.rows.specs.declared.BadRow.TheVariants.{Step, TooDeep}
use Rattle.matching.specs.declared.Refusal.{Refusal}
use Rattle.matching.specs.declared.Refusal.TheVariants.{RecipeSlices, RecipeEmpty, RecipeLong, RecipeStep, RecipeDeep, ListingSlices, ListingLong, ListingStep, ListingDeep, MapShort}

-- document 01's number of a refusal
abbrev pub refusal_number : Refusal → ℕ
refusal_number RecipeSlices = 1
refusal_number RecipeEmpty = 2
refusal_number RecipeLong = 3
refusal_number (RecipeStep v) = 4
refusal_number (RecipeDeep v) = 5
refusal_number ListingSlices = 6
refusal_number ListingLong = 7
refusal_number (ListingStep v) = 8
refusal_number (ListingDeep v) = 9
refusal_number MapShort = 10

-- and its place: the row of a bad step or depth, else 0
abbrev pub refusal_place : Refusal → ℕ
refusal_place RecipeSlices = 0
refusal_place RecipeEmpty = 0
refusal_place RecipeLong = 0
refusal_place (RecipeStep v) = v
refusal_place (RecipeDeep v) = v
refusal_place ListingSlices = 0
refusal_place ListingLong = 0
refusal_place (ListingStep v) = v
refusal_place (ListingDeep v) = v
refusal_place MapShort = 0

-- both as document 01's line has them, in decimal with a space between
abbrev pub number_and_place : Refusal → List ℕ
number_and_place refusal = decimal (refusal_number refusal) ++ (32 ∷ decimal (refusal_place refusal))

-- a check goes through, or gives a refusal
abbrev pub Checked : Type 0
Checked = Result (Unit {0}) Refusal

-- refused where a test holds, else what comes next
abbrev pub refused_if : Bool → Refusal → Checked → Checked
refused_if true x next = Err x
refused_if false x next = next

-- what the first bad row means: its bad step and its depth over 63, each a refusal with its row
abbrev pub bad_row : (ℕ → Refusal) → (ℕ → Refusal) → Result (Unit {0}) BadRow → Checked
bad_row step deep (Ok u) = Ok tt
bad_row step deep (Err (Step v)) = Err (step v)
bad_row step deep (Err (TooDeep v)) = Err (deep v)

-- what may come of row v is the refusal that is meant for it
abbrev pub Gives : (ℕ → Refusal → Type 0) → (ℕ → Refusal) → Type 0
Gives comes meant = (v : ℕ) (x : Refusal) → comes v x → x ≡ meant v

-- a table's refusals in their order, with what is said of a table without rows
unfoldable pub table_check : Refusal → Checked → ℕ → Refusal → (ℕ → Refusal) → (ℕ → Refusal) → List ℕ → List ℕ → Checked
table_check slices empty most long step deep ds ls =
    refused_if (not (eqb (length ds) (length ls))) slices
    (elim (eqb (length ds) 0) [
      | true ↦ empty
      | false ↦ refused_if (ltb most (length ds)) long (bad_row step deep (first_bad ds))
    ])

-- the refusals 1 to 5
unfoldable pub recipe_check : List ℕ → List ℕ → Checked
recipe_check rd rl =
    refused_if (not (eqb (length rd) (length rl))) RecipeSlices
    (refused_if (eqb (length rd) 0) RecipeEmpty
    (refused_if (ltb recipe_rows (length rd)) RecipeLong
    (bad_row RecipeStep RecipeDeep (first_bad rd))))

-- the refusals 6 to 9
unfoldable pub listing_check : List ℕ → List ℕ → Checked
listing_check td tl =
    refused_if (not (eqb (length td) (length tl))) ListingSlices
    (refused_if (ltb listing_rows (length td)) ListingLong
    (bad_row ListingStep ListingDeep (first_bad td)))

-- the recipe's refusals, and where there is none the listing's
abbrev pub first : Checked → Checked → Checked
first (Ok u) next = next
first (Err x) next = Err x

-- the refusals 1 to 9
abbrev pub tables_check : List ℕ → List ℕ → List ℕ → List ℕ → Checked
tables_check rd rl td tl = first (recipe_check rd rl) (listing_check td tl)

-- both tables can be asked about
pub record GoodTables (rd rl td tl : List ℕ) : Type 0 where
  pub recipe_slices : length rd ≡ length rl
  pub recipe_some : 1 ≤ length rd
  pub recipe_few : length rd ≤ recipe_rows
  pub recipe_formed : WellFormed rd
  pub listing_slices : length td ≡ length tl
  pub listing_few : length td ≤ listing_rows
  pub listing_formed : WellFormed td
