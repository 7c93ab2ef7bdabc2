-- The inclusion answer as one number, for C. Assumes nothing.
use Rattle.std.specs.Prelude.{◌≡◌, List, ℕ, ◌+◌, ◌*◌, Result, Ok, Err}
use Rattle.matching.specs.Answer.{Answers}
use Rattle.matching.specs.declared.Answer.{Answer}
use Rattle.matching.specs.declared.Answer.TheVariants.{Included, Absent}
use Rattle.matching.specs.declared.Refusal.{Refusal}

-- the corner as width times 65,536 plus row; twice that and 1 more on a yes, twice that on a no; and 2 to the 40th for a refusal
abbrev pub code : Result Answer Refusal → ℕ
code (Ok (Included c)) = 2 * (65536 * c.width + c.row) + 1
code (Ok (Absent c)) = 2 * (65536 * c.width + c.row)
code (Err x) = 1099511627776

-- the number of the answer, and the map slice afterwards
pub record Coded (rd rl td tl m : List ℕ) (r : ℕ) (n : List ℕ) : Type 0 where
  pub answer : Result Answer Refusal
  pub given : Answers rd rl td tl m answer n
  pub number : r ≡ code answer
