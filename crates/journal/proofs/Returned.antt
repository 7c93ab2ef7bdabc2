-- What the steps of an accepted undo leave together: the slices with the row returned. Assumes nothing.
use mathlib.Core.Path.{◌≡◌, refl, sym, ap, ap₂, ◌∙◌}
use mathlib.Core.List.{List, [], ◌∷◌, ◌++◌}
use Prim.Native.Nat.{ℕ, zero, suc, ◌+◌, ◌-◌, ◌≤◌, ◌<◌}
use native.Mathlib.Nat.{zero-add}
use native.Mathlib.Omega.{arith}
use lib.ListN.{length, get_or, take, drop}
use lib.Seq.{length-take-le, take_at, drop_at, get_or-take}
use Rattle.rows.specs.Limits.{deepest}
use Rattle.rows.specs.Rows.{Row, depth}
use Rattle.rows.proofs.Depths.{last_fits}
use Rattle.journal.specs.Strike.{raise, undo_depths, put_back}
use Rattle.journal.specs.Entry.{Entry}
use Rattle.journal.specs.Lent.{Lent, used_depths, newest, undone}
use Rattle.journal.specs.Refusals.{Returnable}
use Rattle.journal.proofs.Good.{depth_low}
use Rattle.journal.proofs.Shifts.{changed}
use Rattle.journal.proofs.Carried.{take_changed, drop_changed}
use Rattle.journal.proofs.Returns.{Fits, fits_test, depth_undo, length_undo}

-- a row that has risen
raised_at : (ds : List ℕ) (i d n j : ℕ) → j < n → i + j < length ds → get_or (undo_depths ds (suc i) d n) (suc (i + j)) 0 ≡ suc (get_or ds (i + j) 0)
raised_at ds zero d n j h l = rw zero-add (first n ds j h (omega arith))
  where
    first : (n : ℕ) (ds : List ℕ) (j : ℕ) → j < n → j < length ds → get_or (raise n ds) j 0 ≡ suc (get_or ds j 0)
    first zero ds j h l = absurd (omega arith)
    first (suc n) [] j h l = absurd (omega arith)
    first (suc n) (d ∷ ds) zero h l = refl
    first (suc n) (d ∷ ds) (suc j) h l = first n ds j (omega arith) (omega arith)
raised_at [] (suc i) d n j h l = absurd (omega arith)
raised_at (e ∷ ds) (suc i) d n j h l = let z : suc i + j ≡ suc (i + j) = omega arith in rw z (raised_at ds i d n j h (omega arith))

-- a row put back before those that have risen
put_changed : (ds : List ℕ) (r d b : ℕ) → 1 ≤ r → r - 1 ≤ length ds → put_back (changed suc (r - 1) b ds) r d ≡ undo_depths ds r d b
put_changed ds zero d b h l = absurd (omega arith)
put_changed ds (suc i) d b h l =
    let z : suc i - 1 ≡ i = omega arith in
    let n : length (take i ds) ≡ i = length-take-le i ds (omega arith) in
    rw z (ap₂ (λ (p q : List ℕ). p ++ (d ∷ q)) (take_at (take i ds) (raise b (drop i ds)) i n) (drop_at (take i ds) (raise b (drop i ds)) i n))

module _ (s : Lent) (e : Entry) (k : Returnable s) (t : e ≡ newest s) where
  fit : Fits (used_depths s) e.row e.depth e.below
  fit = rw t ((fits_test (used_depths s) (newest s).row (newest s).depth (newest s).below).0 k.returns)

  used : length (used_depths s) ≡ s.rows
  used = length-take-le s.rows s.depths k.sound.fits

  pub row_first : 1 ≤ e.row
  row_first = fit.first

  pub row_last : e.row ≤ suc s.rows
  row_last = omega (arith, fit.last, used)

  abbrev after : List ℕ
  after = undo_depths (used_depths s) e.row e.depth e.below

  z : suc (e.row - 1) ≡ e.row
  z = omega (arith, row_first)

  size : length after ≡ suc s.rows
  size =
      ap (λ (r : ℕ). length (undo_depths (used_depths s) r e.depth e.below)) (sym z)
      ∙ length_undo (used_depths s) (e.row - 1) e.depth e.below (omega (arith, row_first, row_last, used))
      ∙ ap suc used

  there : Row after e.row
  there = (row_first, omega (arith, row_last, size))

  pub shallow : e.depth ≤ deepest
  shallow =
      let d : depth after e.row ≡ e.depth =
      ap (λ (r : ℕ). depth (undo_depths (used_depths s) r e.depth e.below) r) (sym z)
      ∙ depth_undo (used_depths s) (e.row - 1) e.depth e.below (omega (arith, row_first, row_last, used)) in
      omega (arith, fit.well.shallow e.row there)

  pub rows_fit : e.row - 1 + e.below ≤ s.rows
  rows_fit = omega (arith, last_fits after e.row there, fit.below, size, row_first)

  pub rows_low : (i : ℕ) → e.row - 1 ≤ i → i < e.row - 1 + e.below → get_or s.depths i 0 ≤ 62
  rows_low i l h =
      let j : e.row - 1 + (i - (e.row - 1)) ≡ i = omega arith in
      let v : get_or after (suc i) 0 ≡ suc (get_or (used_depths s) i 0) =
      ap₂ (λ (r j : ℕ). get_or (undo_depths (used_depths s) r e.depth e.below) (suc j) 0) (sym z) (sym j)
      ∙ raised_at (used_depths s) (e.row - 1) e.depth e.below (i - (e.row - 1)) (omega arith) (omega (arith, used, rows_fit))
      ∙ ap (λ (j : ℕ). suc (get_or (used_depths s) j 0)) j in
      omega (arith, depth_low after fit.well (suc i) (omega (arith, size, rows_fit)), get_or-take s.rows s.depths i 0 (omega (arith, rows_fit)))

  -- the depths, once the rows have risen and the gap is opened
  pub depths_undone : (xs ys : List ℕ) → xs ≡ changed suc (e.row - 1) e.below s.depths
      → ys ≡ put_back (take s.rows xs) e.row e.depth ++ drop (suc s.rows) xs → ys ≡ (undone s).depths
  depths_undone xs ys p q =
      let f : e.row - 1 ≤ length s.depths = omega (arith, row_last, k.sound.fits) in
      let h : e.row - 1 + e.below ≤ suc s.rows = omega (arith, rows_fit) in
      q
      ∙ ap (λ (l : List ℕ). put_back (take s.rows l) e.row e.depth ++ drop (suc s.rows) l) p
      ∙ ap₂ ◌++◌
      (ap (λ (l : List ℕ). put_back l e.row e.depth) (take_changed suc (e.row - 1) s.rows e.below s.depths (omega (arith, row_last)) f)
      ∙ put_changed (used_depths s) e.row e.depth e.below row_first (omega (arith, row_last, used)))
      (drop_changed suc (e.row - 1) (suc s.rows) e.below s.depths h f)
      ∙ ap (λ (x : Entry). undo_depths (used_depths s) x.row x.depth x.below ++ drop (suc s.rows) s.depths) t
