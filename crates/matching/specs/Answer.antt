-- Document 01, "Embedding, map and corner" and "Numbers of refusal": what the answer says, and the map slice afterwards. Assumes nothing.
use Rattle.std.specs.Prelude.{◌≡◌, List, ◌++◌, ℕ, ltb, length, drop, Result, Ok, Err}
use Rattle.rows.specs.Embedding.{SameLabel}
use Rattle.matching.specs.Corner.{CornerIs, WholeCorner}
use Rattle.matching.specs.EarliestClose.{EarliestClose}
use Rattle.matching.specs.declared.Answer.{Answer}
use Rattle.matching.specs.declared.Answer.TheVariants as answer
use Rattle.matching.specs.declared.Refusal.{Refusal}
use Rattle.matching.specs.declared.Refusal.TheVariants.{MapShort}
use Rattle.matching.specs.Refusals.{Checked, refused_if, first, tables_check}

-- the refusals 1 to 10: those of the tables, then a map slice shorter than the recipe
abbrev pub include_check : List ℕ → List ℕ → List ℕ → List ℕ → List ℕ → Checked
include_check rd rl td tl m = first (tables_check rd rl td tl) (refused_if (ltb (length m) (length rd)) MapShort (Ok tt))

-- an answer to a recipe and a listing, with the map slice m before and n afterwards. A yes carries the whole corner, and writes the
-- map of earliest close and no further slot; a no carries the corner and leaves the map slice; so does a refusal
abbrev pub Answers : List ℕ → List ℕ → List ℕ → List ℕ → List ℕ → Result Answer Refusal → List ℕ → Type 0
Answers rd rl td tl m (Ok (answer.Included c)) n =
    (include_check rd rl td tl m ≡ Ok tt) × CornerIs (SameLabel rl tl) rd td c.width c.row × WholeCorner rd c.width c.row
    × ((k : List ℕ) × EarliestClose (SameLabel rl tl) rd td k × (n ≡ k ++ drop (length rd) m))
Answers rd rl td tl m (Ok (answer.Absent c)) n =
    (include_check rd rl td tl m ≡ Ok tt) × CornerIs (SameLabel rl tl) rd td c.width c.row × (WholeCorner rd c.width c.row → ⊥) × (n ≡ m)
Answers rd rl td tl m (Err x) n = (include_check rd rl td tl m ≡ Err x) × (n ≡ m)
