-- E1 to E10 and S1 to S3 of document 01: every outcome that meets the contracts is the one in the table. Assumes nothing.
use mathlib.Core.Path.{◌≡◌, refl, sym}
use mathlib.Core.Bool.{false}
use mathlib.Core.List.{List}
use Prim.Native.Nat.{◌≤◌}
use native.Mathlib.Omega.{arith}
use lib.ListN.{length}
use Rattle.std.specs.Prelude.{Ok}
use Rattle.rows.specs.Limits.{recipe_rows}
use Rattle.rows.specs.FirstBad.{check_from}
use Rattle.matching.specs.Refusals.{recipe_check, listing_check}
use Rattle.matching.specs.CornerRow.{close_row, join_row}
use Rattle.matching.proofs.Refusals.{tables_fine}
use Rattle.matching.proofs.Computed.{Computed, answer_is}
use Rattle.parcels.specs.Numbers.{le, number, fields, numbers}
use Rattle.parcels.specs.Sums.{none, added, added_all}
use Rattle.parcels.specs.Parcel.{section, parcel_of}
use Rattle.parcels.specs.Read.{section_of, claim_of, sums_agree}
use Rattle.journal.specs.Entry.{may_return}
use Rattle.journal.specs.Refusals.{journal_verdict, lent_verdict, strike_verdict, strike_answer, after_strike, undo_verdict, undo_answer, after_undo}
use Rattle.journal.specs.Session.{strike_row, undo_last}
use Rattle.host.specs.Line.{digits, spaced, line}
use Rattle.host.specs.Outcome.{zeros, recipe_read, outcome_of, FromTables, FromRecipe}
use Rattle.host.specs.Host.{line_of}
use Rattle.host.proofs.OneLine.{entry_is}
use Rattle.host.proofs.Reading.{zeros_length}
use Rattle.promises.specs.Examples.{Example, asks, edits, over, bytes, input, Says, Every, end, ◌&◌, examples}

-- what computing must show of an example: the answer and its images, the line, and that the two parcels are read as the tables; or what
-- the call answers and leaves
abbrev Comes : Example → Type 0
Comes (asks rd rl td tl a images line) =
    Computed rd rl td tl a images
    × (line_of (outcome_of (length rd) (Ok a)) (over images (zeros recipe_rows)) ≡ bytes line)
    × (FromTables rd rl td tl 0 false (outcome_of (length rd) (Ok a)) (over images (zeros recipe_rows))
    → FromRecipe (input rd rl td tl) (recipe_read (input rd rl td tl)) (outcome_of (length rd) (Ok a)) (over images (zeros recipe_rows)))
Comes (edits s (strike_row r) a t) = (strike_answer s r ≡ a) × (after_strike s r ≡ t)
Comes (edits s undo_last a t) = (undo_answer s ≡ a) × (after_undo s ≡ t)

-- then the example holds: of all outcomes that meet the contracts
says : (x : Example) → Comes x → Says x
says (asks rd rl td tl a images line) c =
    let n = over images (zeros recipe_rows) in
    let h : length rd ≤ length (zeros recipe_rows) = omega (arith, zeros_length recipe_rows, ((tables_fine rd rl td tl).0 c.0.0).recipe_few) in
    let k = (answer_is rd rl td tl a images c.0 (zeros recipe_rows) h (Ok a) n).1 (refl, refl) in (
      answer_is rd rl td tl a images c.0,
      entry_is (input rd rl td tl) (bytes line)
          (record { outcome = outcome_of (length rd) (Ok a); map = n; said = record { by_reading = c.2 (Ok a, k, refl) }; line = sym c.1 }),
    )
says (edits s (strike_row r) a t) c = λ o. rw (c.0, c.1) (λ m. m, λ m. m)
says (edits s undo_last a t) c = λ o. rw (c.0, c.1) (λ m. m, λ m. m)

-- and so does a table of them
all_say : {xs : List Example} → Every Comes xs → Every Says xs
all_say end = end
all_say (◌&◌ {x} c cs) = says x c & all_say cs

-- document 01: "E1 to E10 and S1 to S3 are proved together as a single table checked by a single theorem"
pub marked_examples : Every Says examples
unfolding check_from recipe_check listing_check close_row join_row may_return journal_verdict lent_verdict strike_verdict undo_verdict digits spaced line le fields none added added_all section parcel_of number numbers section_of claim_of sums_agree zeros
marked_examples =
    all_say
    (((refl, refl, refl), refl, λ k. k)
    & ((refl, refl, refl), refl, λ k. k)
    & ((refl, refl, refl), refl, λ k. k)
    & ((refl, refl, refl), refl, λ k. k)
    & ((refl, refl, refl), refl, λ k. k)
    & ((refl, refl, refl), refl, λ k. k)
    & ((refl, refl, refl), refl, λ k. k)
    & ((refl, refl, refl), refl, λ k. k)
    & ((refl, refl, refl), refl, λ k. k)
    & ((refl, refl, refl), refl, λ k. k)
    & (refl, refl)
    & (refl, refl)
    & (refl, refl)
    & end)
