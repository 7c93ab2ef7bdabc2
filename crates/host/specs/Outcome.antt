-- Document 01, "Program and C entry": "Reading order covers both parcels, then 15, then 1 to 10." What is said of an input. Assumes nothing.
use Rattle.std.specs.Prelude.{◌≡◌, Bool, true, false, List, ℕ, ltb, length, replicate, Result, Ok, Err}
use Rattle.rows.specs.Limits.{recipe_rows, listing_rows}
use Rattle.parcels.specs.Read.{read_of, labels_in, depths_in}
use Rattle.parcels.specs.declared.Limit.TheVariants.{Recipe, Listing}
use Rattle.parcels.specs.declared.Refusal as parcel
use Rattle.parcels.specs.declared.Rows.{Rows}
use Rattle.matching.specs.Answer.{Answers}
use Rattle.matching.specs.declared.Answer.{Answer}
use Rattle.matching.specs.declared.Answer.TheVariants as answer
use Rattle.matching.specs.declared.Refusal as table
use Rattle.host.specs.declared.outcome.Outcome.{Outcome}
use Rattle.host.specs.declared.outcome.Outcome.TheVariants.{Included, Absent}
use Rattle.host.specs.declared.outcome.Refusal.{Refusal}
use Rattle.host.specs.declared.outcome.Refusal.TheVariants.{Parcel, BytesAfter, Tables}

-- slots that hold nothing yet
unfoldable pub zeros : ℕ → List ℕ
zeros n = replicate n 0

-- the recipe's parcel stands at the start of the input, the listing's behind it
abbrev pub recipe_read : List ℕ → Result Rows parcel.Refusal
recipe_read input = read_of input 0 Recipe (zeros recipe_rows) (zeros recipe_rows)

abbrev pub listing_read : List ℕ → ℕ → Result Rows parcel.Refusal
listing_read input place = read_of input place Listing (zeros listing_rows) (zeros listing_rows)

-- the inclusion answer about a recipe of n rows
abbrev pub outcome_of : ℕ → Result Answer table.Refusal → Result Outcome Refusal
outcome_of n (Ok (answer.Included corner)) = Ok (Included corner n)
outcome_of n (Ok (answer.Absent corner)) = Ok (Absent corner)
outcome_of n (Err refusal) = Err (Tables refusal)

-- a refusal; no image is written
abbrev pub RefusedAs : Refusal → Result Outcome Refusal → List ℕ → Type 0
RefusedAs refusal outcome map = (outcome ≡ Err refusal) × (map ≡ zeros recipe_rows)

-- both tables are read, and the listing's parcel ends at a place: bytes after it are refused with the offset of the first, else the
-- inclusion answer is given, with as many images as the recipe has rows
abbrev pub FromTables : List ℕ → List ℕ → List ℕ → List ℕ → ℕ → Bool → Result Outcome Refusal → List ℕ → Type 0
FromTables rd rl td tl end true outcome map = RefusedAs (BytesAfter end) outcome map
FromTables rd rl td tl end false outcome map =
    (a : Result Answer table.Refusal) × Answers rd rl td tl (zeros recipe_rows) a map × (outcome ≡ outcome_of (length rd) a)

-- the recipe's table is read, and the listing's parcel starts at a place: from what reading it gives
abbrev pub FromListing : List ℕ → List ℕ → List ℕ → ℕ → Result Rows parcel.Refusal → Result Outcome Refusal → List ℕ → Type 0
FromListing input rd rl start (Err refusal) outcome map = RefusedAs (Parcel refusal) outcome map
FromListing input rd rl start (Ok rows) outcome map =
    FromTables rd rl (depths_in input start rows.count) (labels_in input start rows.count) rows.next (ltb rows.next (length input)) outcome map

-- from what reading the recipe's parcel gives
abbrev pub FromRecipe : List ℕ → Result Rows parcel.Refusal → Result Outcome Refusal → List ℕ → Type 0
FromRecipe input (Err refusal) outcome map = RefusedAs (Parcel refusal) outcome map
FromRecipe input (Ok rows) outcome map =
    FromListing input (depths_in input 0 rows.count) (labels_in input 0 rows.count) rows.next (listing_read input rows.next) outcome map

-- what is said of an input, and the map
pub record Said (input : List ℕ) (outcome : Result Outcome Refusal) (map : List ℕ) : Type 0 where
  pub by_reading : FromRecipe input (recipe_read input) outcome map
