-- The walk from a listing row to the last row of its tree, as long as the rows below it are such; and a row below which no label is of a kind
-- that the recipe has. Assumes nothing.
use mathlib.Core.Path.{◌≡◌}
use mathlib.Core.List.{List}
use Prim.Native.Nat.{ℕ, suc, ◌≤◌, ◌<◌, ◌-◌}
use native.Mathlib.Omega.{arith}
use native.Mathlib.Decide.{dec_le}
use lib.ListN.{length}
use Rattle.std.specs.Prelude.{Bool, Option, Some, None, true}
use Rattle.rows.specs.Rows.{at, Row, depth, last_row}
use Rattle.rows.proofs.Depths.{last_fits, inside_deeper, deeper_inside}
use Rattle.matching.specs.Shape.{Foreign}
use Rattle.matching.specs.Engine.{TreeEnd, Bare}

-- what holds of the rows behind lo up to n, and of the next, holds of one row more
one_more : (P : ℕ → Type 0) (lo n : ℕ) → ((y : ℕ) → lo < y → y ≤ n → P y) → P (suc n) → (y : ℕ) → lo < y → y ≤ suc n → P y
one_more P lo n all here y a b = go (dec_le y n)
  where
    go : Dec (y ≤ n) → P y
    go (yes i) = all y a i
    go (no i) = let e : y ≡ suc n = omega arith in rw e here

-- a walk from the row behind `first` rows on has come behind n rows: those since are deeper, and such
pub record Walk (Such : ℕ → Type 0) (td : List ℕ) (first n : ℕ) : Type 0 where
  pub start : suc first ≤ n
  pub fits : n ≤ length td
  pub rows : (y : ℕ) → suc first < y → y ≤ n → (depth td (suc first) < depth td y) × Such y

module _ {Such : ℕ → Type 0} {td : List ℕ} {first n : ℕ} (w : Walk Such td first n) where
  row : Row td (suc first)
  row = (omega arith, omega (arith, w.start, w.fits))

  -- it ends with the tree, where the next row is no deeper or there is none
  pub walk_end : (n < length td → depth td (suc n) ≤ depth td (suc first)) → n ≡ last_row td (suc first)
  walk_end stop = go (dec_le (last_row td (suc first)) n)
    where
      go : Dec (last_row td (suc first) ≤ n) → n ≡ last_row td (suc first)
      go (yes i) = omega (arith, deeper_inside td (suc first) n row w.start w.fits (λ y a b. (w.rows y a b).0))
      go (no i) =
          absurd (omega (arith, stop (omega (arith, last_fits td (suc first) row)), inside_deeper td (suc first) (suc n) (omega arith) (omega (arith, w.start)) (omega arith)))

  module _ (h : n < length td) (d : depth td (suc first) < depth td (suc n)) where
    -- a deeper row is in the tree
    pub walk_in : suc n ≤ last_row td (suc first)
    walk_in = deeper_inside td (suc first) (suc n) row (omega (arith, w.start)) h (one_more (λ (y : ℕ). depth td (suc first) < depth td y) (suc first) n (λ y a b. (w.rows y a b).0) d)

-- where the test tells that a label is of a kind that the recipe has not, the row is bare at the end that it finds
pub bare_end_lem : (T : ℕ → Bool → Type 0) (ws td tl : List ℕ) (first : ℕ) (r : Option ℕ) → TreeEnd T td first r
    → ((y : ℕ) → suc first < y → y ≤ last_row td (suc first) → T (y - 1) true → Foreign ws (at tl y)) → Bare ws td tl first r
bare_end_lem T ws td tl first (Some r) e foreign = record { last = e.last; foreign = λ y a b. foreign y a (omega (arith, e.last)) (e.tested y a b) }
bare_end_lem T ws td tl first None e foreign = e
