-- The check of the rows from number i + 1 on, by the first of them: a bad step, a depth over 63, a good row, or none. Assumes nothing.
use mathlib.Core.Path.{◌≡◌}
use mathlib.Core.List.{List}
use Prim.Native.Nat.{ℕ, suc, ◌<◌, ◌≤◌}
use lib.ListN.{length, get_or, drop, drop_of_length-le}
use lib.Seq.{drop-cons}
use borrow.Author.Tests.{lt-ltb, le-ltb}
use Rattle.std.specs.Prelude.{Ok, Err}
use Rattle.rows.specs.declared.BadRow.TheVariants.{Step, TooDeep}
use Rattle.rows.specs.Limits.{deepest}
use Rattle.rows.specs.FirstBad.{check_from}

-- the row at index i may be as deep as most
module _ (ds : List ℕ) (i most : ℕ) where
  pub check_step : i < length ds → most < get_or ds i 0 → check_from (suc i) most (drop i ds) ≡ Err (Step (suc i))
  unfolding check_from
  check_step h p = rw (drop-cons ds i 0 h, lt-ltb most _ p, check_from)

  pub check_deep : i < length ds → get_or ds i 0 ≤ most → deepest < get_or ds i 0 → check_from (suc i) most (drop i ds) ≡ Err (TooDeep (suc i))
  unfolding check_from
  check_deep h p q = rw (drop-cons ds i 0 h, le-ltb most _ p, lt-ltb deepest _ q, check_from)

  pub check_good :
      i < length ds → get_or ds i 0 ≤ most → get_or ds i 0 ≤ deepest →
      check_from (suc i) most (drop i ds) ≡ check_from (suc (suc i)) (suc (get_or ds i 0)) (drop (suc i) ds)
  unfolding check_from
  check_good h p q = rw (drop-cons ds i 0 h, le-ltb most _ p, le-ltb deepest _ q, check_from)

  pub check_end : length ds ≤ i → check_from (suc i) most (drop i ds) ≡ Ok tt
  unfolding check_from
  check_end h = rw (drop_of_length-le ds h, check_from)
