-- The images of placed rows, and the window of the next row, stand to one another as the rows do. Assumes nothing.
use mathlib.Core.Path.{◌≡◌}
use mathlib.Core.List.{List}
use Prim.Native.Nat.{ℕ, zero, suc, ◌≤◌, ◌<◌}
use native.Mathlib.Omega.{arith}
use native.Mathlib.Decide.{ℕ_discrete}
use lib.ListN.{length}
use Rattle.rows.specs.Rows.{at, Row, Outline, last_row, closing, Ancestor, LeftOf}
use Rattle.rows.proofs.Order.{Apart, above, below, before, behind, apart}
use Rattle.matching.specs.Family.{parent, left_sibling}
use Rattle.matching.specs.Placing.{Placed, lowest, highest}
use Rattle.matching.proofs.Family.{ParentView, root, child, parent_view, LeftView, first, next, left_view}
use Rattle.matching.proofs.Sides.{above_above}
use Rattle.matching.proofs.Placing.{lowest_next, behind_parent, window_closed, window_iff}

-- the tree at listing row t lies below the image of row u
abbrev Below : List ℕ → List ℕ → ℕ → ℕ → Type 0
Below td m u t = (at m u < t) × (last_row td t ≤ last_row td (at m u))

-- it lies below the images of v's ancestors, and behind the trees at the images of the rows left of v
abbrev pub Keeps : List ℕ → List ℕ → List ℕ → ℕ → ℕ → Type 0
Keeps rd td m v t = (u : ℕ) → (Ancestor rd u v → Below td m u t) × (LeftOf rd u v → last_row td (at m u) < t)

module _ (Fit : ℕ → ℕ → Type 0) (rd td : List ℕ) (kr : Outline rd) (kt : Outline td) (m : List ℕ) where
  -- rows 1 to n have images that keep to this, and t is a row of the window of the next row
  module _ (n : ℕ) (fits : suc n ≤ length rd) (done : Placed Fit rd td m n) (kept : (v : ℕ) → Row rd v → v ≤ n → Keeps rd td m v (at m v))
      (t : ℕ) (low : lowest rd td m (suc n) ≤ t) (high : t ≤ highest rd td m (suc n)) where
    -- t's tree lies below the image of the next row's parent
    at_parent : Below td m (parent rd (suc n)) t
    at_parent = (omega (arith, behind_parent Fit rd td kr kt m n fits done), window_closed Fit rd td kr kt m n fits done t low high)

    -- so it lies below those of all its ancestors: the others are ancestors of the parent
    keep_above : ParentView rd (suc n) → (u : ℕ) → Ancestor rd u (suc n) → Below td m u t
    keep_above (root z d f) u a = absurd (f u a)
    keep_above (child p) u a = go p.above.1 (p.nearest u a) (ℕ_discrete u (parent rd (suc n)))
      where
        go : parent rd (suc n) < suc n → u ≤ parent rd (suc n) → Dec (u ≡ parent rd (suc n)) → Below td m u t
        go i h (yes e) = rw e at_parent
        go i h (no e) =
            let b = above_above rd kr u (parent rd (suc n)) (suc n) (omega arith) a i (omega arith) in
            omega (arith, at_parent, (kept (parent rd (suc n)) (omega arith) (omega arith) u).0 b)

    -- and behind the rows to the left: these are left of the parent, or are the left sibling, below it or left of it
    keep_left : LeftView rd (suc n) → (u : ℕ) → LeftOf rd u (suc n) → last_row td (at m u) < t
    keep_left (first e d f) u a = let b = f u a in omega (arith, at_parent, (kept (parent rd (suc n)) (omega arith) (omega arith) u).1 b)
    keep_left (next l) u a = go l.left (l.last u a) (ℕ_discrete u (left_sibling rd (suc n)))
      where
        at_left : last_row td (at m (left_sibling rd (suc n))) < t
        at_left = omega (arith, lowest_next rd td m (suc n) l.left.0)

        go : LeftOf rd (left_sibling rd (suc n)) (suc n) → closing rd u ≤ closing rd (left_sibling rd (suc n)) → Dec (u ≡ left_sibling rd (suc n))
            → last_row td (at m u) < t
        go i h (yes e) = rw e at_left
        go i h (no e) = side (apart rd kr u (left_sibling rd (suc n)) (omega arith) (omega arith) e)
          where
            side : Apart rd u (left_sibling rd (suc n)) → last_row td (at m u) < t
            side (above b) = absurd (omega arith)
            side (below b) = omega (arith, at_left, (kept u (omega arith) (omega arith) (left_sibling rd (suc n))).0 b)
            side (before b) = omega (arith, at_left, (kept (left_sibling rd (suc n)) (omega arith) (omega arith) u).1 b)
            side (behind b) = absurd (omega arith)

    -- so t keeps to it as the image of the next row
    keep_window : Keeps rd td m (suc n) t
    keep_window u = (keep_above (parent_view rd kr (suc n) (omega arith)) u, keep_left (left_view rd kr (suc n) (omega arith)) u)

  module _ (n : ℕ) (done : Placed Fit rd td m n) where
    -- row by row, an image is in its row's window, so it keeps to it
    keep_to : (b v : ℕ) → v < b → Row rd v → v ≤ n → Keeps rd td m v (at m v)
    keep_to zero v h r o = absurd (omega arith)
    keep_to (suc b) zero h r o = absurd (omega arith)
    keep_to (suc b) (suc i) h r o =
        let p : Placed Fit rd td m i = λ u q j. done u q (omega arith) in
        let w = (window_iff Fit rd td kr kt m i r.1 p (at m (suc i))).0 (done (suc i) r o).allowed in
        keep_window i r.1 p (λ v q j. keep_to b v (omega arith) q (omega arith)) (at m (suc i)) w.0 w.1

    -- so the images of placed rows do ..
    pub keeps : (v : ℕ) → Row rd v → v ≤ n → Keeps rd td m v (at m v)
    keeps v = keep_to (suc v) v (omega arith)

    -- .. and each row of the window of the row after them
    pub keeps_next : suc n ≤ length rd → (t : ℕ) → lowest rd td m (suc n) ≤ t → t ≤ highest rd td m (suc n) → Keeps rd td m (suc n) t
    keeps_next fits = keep_window n fits done keeps
