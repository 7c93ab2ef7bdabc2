-- A yes is given exactly where an embedding exists, its map is one, and the plain judge says the same. Assumes nothing.
use mathlib.Core.Path.{◌≡◌}
use mathlib.Core.Bool.{Bool, true, false}
use mathlib.Core.List.{List}
use Prim.Native.Nat.{ℕ, ◌≤◌}
use lib.ListN.{length}
use Rattle.std.specs.Prelude.{Result, Ok, Err}
use Rattle.rows.specs.Embedding.{SameLabel, Embedding, Included}
use Rattle.matching.specs.declared.Answer.TheVariants as answer
use Rattle.matching.specs.declared.Corner.{Corner}
use Rattle.matching.specs.declared.Refusal.{Refusal}
use Rattle.matching.specs.Refusals.{GoodTables}
use Rattle.matching.specs.Answer.{include_check, Answers}
use Rattle.matching.specs.Judge.{Judged}
use Rattle.matching.proofs.Refusals.{tables_fine}
use Rattle.matching.proofs.AnswerLaws.{fine_tables, check_fine}
use Rattle.matching.proofs.CornerLaws.{whole_iff}
use Rattle.matching.proofs.EarliestClose.{earliest_embeds}
use Rattle.matching.proofs.JudgeLaws.{judge_one}

module _ (rd rl td tl m : List ℕ) (c : Corner) (n : List ℕ) where
  good : include_check rd rl td tl m ≡ Ok tt → GoodTables rd rl td tl
  good e = (tables_fine rd rl td tl).0 (fine_tables rd rl td tl m e)

  -- a yes is about good tables
  pub yes_good : Answers rd rl td tl m (Ok (answer.Included c)) n → GoodTables rd rl td tl
  yes_good a = good a.0

  -- the map that a yes writes in front of the map slice is an embedding
  pub yes_embeds : (a : Answers rd rl td tl m (Ok (answer.Included c)) n) → Embedding (SameLabel rl tl) rd td a.3.0
  yes_embeds a =
      let g = good a.0 in
      earliest_embeds (SameLabel rl tl) rd td g.recipe_formed.outline g.listing_formed.outline a.3.0 a.3.1

  pub yes_included : Answers rd rl td tl m (Ok (answer.Included c)) n → Included (SameLabel rl tl) rd td
  yes_included a = (a.3.0, yes_embeds a)

  -- where a no is given there is no embedding
  pub no_excluded : Answers rd rl td tl m (Ok (answer.Absent c)) n → Included (SameLabel rl tl) rd td → ⊥
  no_excluded a i =
      let g = good a.0 in
      a.2 ((whole_iff (SameLabel rl tl) rd td g.recipe_formed.outline g.recipe_some g.listing_formed.outline c.width c.row a.1).1 i)

  -- the plain judge says yes where the answer is yes, and no where it is no
  pub judge_yes : Answers rd rl td tl m (Ok (answer.Included c)) n → (s : Result Bool Refusal) → Judged rd rl td tl s → s ≡ Ok true
  judge_yes a s j = judge_one rd rl td tl s (Ok true) j (fine_tables rd rl td tl m a.0, yes_included a)

  pub judge_no : Answers rd rl td tl m (Ok (answer.Absent c)) n → (s : Result Bool Refusal) → Judged rd rl td tl s → s ≡ Ok false
  judge_no a s j = judge_one rd rl td tl s (Ok false) j (fine_tables rd rl td tl m a.0, no_excluded a)

-- good tables with a map slice that is long enough are not refused
pub not_refused : (rd rl td tl m : List ℕ) (x : Refusal) (n : List ℕ) → GoodTables rd rl td tl → length rd ≤ length m
    → Answers rd rl td tl m (Err x) n → ⊥
not_refused rd rl td tl m x n g h a =
    let f = check_fine rd rl td tl m ((tables_fine rd rl td tl).1 g) h in
    let r = a.0 in
    cc
