-- Rows are placed one by one: the window of the next row, what of it the row may have, and that its image disturbs none before.
-- Assumes nothing.
use mathlib.Core.Path.{◌≡◌, refl, sym, ap}
use mathlib.Core.List.{List}
use mathlib.Core.Logic.{◌↔◌}
use Prim.Native.Nat.{ℕ, zero, suc, ◌≤◌, ◌<◌}
use native.Mathlib.Omega.{arith}
use native.Mathlib.Decide.{dec_le}
use lib.ListN.{length, set}
use lib.Seq.{get_or-set_same, get_or-set_other}
use Rattle.rows.specs.Rows.{at, Row, Outline, last_row, Ancestor}
use Rattle.rows.proofs.Depths.{last_fits, inside_ends}
use Rattle.rows.proofs.Order.{window, behind_window}
use Rattle.matching.specs.Family.{parent, left_sibling}
use Rattle.matching.specs.EarliestClose.{Holds, Allowed, Earliest}
use Rattle.matching.specs.Placing.{Placed, barred, lowest, highest, Closed, FirstIn}
use Rattle.matching.proofs.Family.{parent_before, left_before, Parent, ParentView, root, child, parent_view, LeftView, first, next, left_view}

-- a write for row i + 1 leaves what stands at the other rows, so at all before it
pub at_other : (m : List ℕ) (i t u : ℕ) → (u ≡ suc i → ⊥) → at (set m i t) u ≡ at m u
at_other m i t zero h = refl
at_other m i t (suc j) h = get_or-set_other m i j t 0 (λ e. h (ap suc e))

at_kept : (m : List ℕ) (i t u : ℕ) → u ≤ i → at m u ≡ at (set m i t) u
at_kept m i t u h = sym (at_other m i t u (λ e. omega arith))

module _ (Fit : ℕ → ℕ → Type 0) (rd td : List ℕ) where
  -- what row v may have for its image rests on the images of the rows before it alone
  pub allowed_same : (m n : List ℕ) (v t : ℕ) → 1 ≤ v → ((u : ℕ) → u < v → at m u ≡ at n u) → Allowed Fit rd td m v t → Allowed Fit rd td n v t
  allowed_same m n v t o e a =
      record {
        row = a.row;
        below = λ z. rw (e (parent rd v) (parent_before rd v o)) at (a.below z);
        right = λ z. rw (e (left_sibling rd v) (left_before rd v o)) at (a.right z);
        holds = a.holds;
      }

  pub earliest_same : (m n : List ℕ) (v : ℕ) → 1 ≤ v → ((u : ℕ) → u ≤ v → at m u ≡ at n u) → Earliest Fit rd td m v → Earliest Fit rd td n v
  earliest_same m n v o e k =
      let b : (u : ℕ) → u < v → at m u ≡ at n u = λ u h. e u (omega arith) in
      let s : at m v ≡ at n v = e v (omega arith) in
      record {
        allowed = rw s at (allowed_same m n v (at m v) o b k.allowed);
        first = λ t a. rw s at (k.first t (allowed_same n m v t o (λ u h. sym (b u h)) a));
      }

  -- a later row's image disturbs none before it
  pub earliest_kept : (m : List ℕ) (i t u : ℕ) → 1 ≤ u → u ≤ i → Earliest Fit rd td m u → Earliest Fit rd td (set m i t) u
  earliest_kept m i t u o h = earliest_same m (set m i t) u o (λ w b. at_kept m i t w (omega arith))

-- where the window of row v begins
module _ (rd td m : List ℕ) (v : ℕ) where
  pub lowest_first : left_sibling rd v ≡ 0 → lowest rd td m v ≡ suc (at m (parent rd v))
  lowest_first e = rw e

  pub lowest_next : 1 ≤ left_sibling rd v → lowest rd td m v ≡ suc (last_row td (at m (left_sibling rd v)))
  lowest_next o = ap suc (go (left_sibling rd v) o)
    where
      go : (s : ℕ) → 1 ≤ s → barred td m s (parent rd v) ≡ last_row td (at m s)
      go zero o = absurd (omega arith)
      go (suc s) o = refl

module _ (Fit : ℕ → ℕ → Type 0) (rd td : List ℕ) (kr : Outline rd) (kt : Outline td) (m : List ℕ) (n : ℕ) (fits : suc n ≤ length rd)
    (done : Placed Fit rd td m n) where
  row : Row rd (suc n)
  row = omega arith

  image_row : (u : ℕ) → 1 ≤ u → u ≤ n → Row td (at m u)
  image_row u a b = (done u (omega arith) b).allowed.row

  parent_row : Parent rd (parent rd (suc n)) (suc n) → Row td (at m (parent rd (suc n)))
  parent_row p = image_row (parent rd (suc n)) p.above.0 (omega (arith, p.above))

  -- the rows below the image of the parent; that of row 0 is row 0
  below_iff : (t : ℕ) → Row td t
      → ((parent rd (suc n) ≡ 0 → ⊥) → Ancestor td (at m (parent rd (suc n))) t) ↔ ((at m (parent rd (suc n)) < t) × (t ≤ highest rd td m (suc n)))
  below_iff t r = go (parent_view rd kr (suc n) row)
    where
      go : ParentView rd (suc n)
          → ((parent rd (suc n) ≡ 0 → ⊥) → Ancestor td (at m (parent rd (suc n))) t) ↔ ((at m (parent rd (suc n)) < t) × (t ≤ highest rd td m (suc n)))
      go (root z d f) = rw z (λ h. omega arith, λ h x. absurd (x refl))
      go (child p) =
          let w = window td kt (at m (parent rd (suc n))) t (parent_row p) r in
          (λ h. w.0 (h (λ z. omega (arith, p.above))), λ h x. w.1 h)

  pub highest_fits : highest rd td m (suc n) ≤ length td
  highest_fits = go (parent_view rd kr (suc n) row)
    where
      go : ParentView rd (suc n) → highest rd td m (suc n) ≤ length td
      go (root z d f) = rw z (omega arith)
      go (child p) = last_fits td (at m (parent rd (suc n))) (parent_row p)

  -- it begins behind the parent's image
  pub behind_parent : at m (parent rd (suc n)) < lowest rd td m (suc n)
  behind_parent = go (left_view rd kr (suc n) row) (parent_view rd kr (suc n) row)
    where
      go : LeftView rd (suc n) → ParentView rd (suc n) → at m (parent rd (suc n)) < lowest rd td m (suc n)
      go (first e d f) w = omega (arith, lowest_first rd td m (suc n) e)
      go (next l) (root z d f) = rw z (omega arith)
      go (next l) (child p) =
          let s = left_sibling rd (suc n) in
          let a = (done s (omega (arith, l.left)) (omega (arith, l.left))).allowed.below (λ z. omega (arith, l.alike, p.above)) in
          omega (arith, lowest_next rd td m (suc n) l.left.0, rw l.alike at a)

  -- and no tree in it ends behind it
  pub window_closed : Closed td (lowest rd td m (suc n)) (highest rd td m (suc n))
  window_closed t a b = go (parent_view rd kr (suc n) row)
    where
      go : ParentView rd (suc n) → last_row td t ≤ highest rd td m (suc n)
      go (root z d f) = omega (arith, ap (λ (p : ℕ). last_row td (at m p)) z, last_fits td t (omega (arith, highest_fits)))
      go (child p) = inside_ends td (at m (parent rd (suc n))) t (parent_row p) (omega (arith, behind_parent)) b

  -- the rows that may be the image of the next row are just those of its window that hold it
  pub window_iff : (t : ℕ)
      → Allowed Fit rd td m (suc n) t ↔ ((lowest rd td m (suc n) ≤ t) × (t ≤ highest rd td m (suc n)) × Holds Fit rd td (suc n) t)
  window_iff t = go (left_view rd kr (suc n) row)
    where
      low : ℕ
      low = lowest rd td m (suc n)

      row_in : low ≤ t → t ≤ highest rd td m (suc n) → Row td t
      row_in a b = omega (arith, behind_parent, highest_fits)

      go : LeftView rd (suc n) → Allowed Fit rd td m (suc n) t ↔ ((low ≤ t) × (t ≤ highest rd td m (suc n)) × Holds Fit rd td (suc n) t)
      go (first e d f) = (
        λ a. let b = (below_iff t a.row).0 a.below in (omega (arith, lowest_first rd td m (suc n) e), b.1, a.holds),
        λ h.
            let r = row_in h.0 h.1 in
            record { row = r; below = (below_iff t r).1 (omega (arith, behind_parent), h.1); right = λ z. absurd (z e); holds = h.2 },
      )
      go (next l) =
          let s = left_sibling rd (suc n) in
          let q = lowest_next rd td m (suc n) l.left.0 in
          let g = image_row s l.left.0 (omega (arith, l.left)) in (
            λ a.
                let b = (below_iff t a.row).0 a.below in
                let c = (behind_window td kt (at m s) t g a.row).0 (a.right (λ z. omega (arith, l.left))) in
                (omega arith, b.1, a.holds),
            λ h.
                let r = row_in h.0 h.1 in
                record {
                  row = r;
                  below = (below_iff t r).1 (omega (arith, behind_parent), h.1);
                  right = λ z. (behind_window td kt (at m s) t g r).1 (omega arith);
                  holds = h.2;
                },
          )

  -- the first of these to close is the image
  pub placed_next : (t : ℕ) → n < length m → FirstIn td (Holds Fit rd td (suc n)) (lowest rd td m (suc n)) (highest rd td m (suc n)) t
      → Placed Fit rd td (set m n t) (suc n)
  placed_next t h f u r b = go (dec_le u n)
    where
      here : at (set m n t) (suc n) ≡ t
      here = get_or-set_same m n t 0 h

      there : (u : ℕ) → u < suc n → at m u ≡ at (set m n t) u
      there u o = at_kept m n t u (omega arith)

      go : Dec (u ≤ n) → Earliest Fit rd td (set m n t) u
      go (yes i) = earliest_kept Fit rd td m n t u r.0 i (done u r i)
      go (no i) = let e : u ≡ suc n = omega arith in rw e it
        where
          it : Earliest Fit rd td (set m n t) (suc n)
          it =
              record {
                allowed = rw here (allowed_same Fit rd td m (set m n t) (suc n) t (omega arith) there ((window_iff t).1 (f.low, f.high, f.holds)));
                first = λ y a.
                    let w = (window_iff y).0 (allowed_same Fit rd td (set m n t) m (suc n) y (omega arith) (λ u o. sym (there u o)) a) in
                    rw here (f.first y w.0 w.1 w.2);
              }
