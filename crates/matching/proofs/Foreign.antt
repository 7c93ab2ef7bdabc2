-- Listing rows with labels of kinds that the recipe has not: no recipe row goes there, and the corners are as if they were struck; and listing
-- rows without the label of a chain's left-most leaf, which have no corner on that chain. Assumes nothing.
use mathlib.Core.Path.{◌≡◌, refl, sym, ap, ap₂, ◌∙◌}
use mathlib.Core.Bool.{Bool}
use mathlib.Core.List.{List}
use Prim.Native.Nat.{ℕ, zero, suc, ◌+◌, ◌≤◌, ◌<◌}
use native.Mathlib.Omega.{arith}
use native.Mathlib.Decide.{dec_le}
use lib.ListN.{length}
use borrow.Author.Tests.{eqb-true, ne_eqb}
use Rattle.rows.specs.Rows.{at, Row, descendants, last_row}
use Rattle.rows.specs.Forest.{Forest, nil, cons, size, beside}
use Rattle.rows.specs.Stands.{Stands}
use Rattle.rows.specs.Embedding.{SameLabel}
use Rattle.rows.proofs.Depths.{last_fits}
use Rattle.matching.specs.Family.{right_sibling, left_leaf}
use Rattle.matching.specs.CornerRow.{join_row, corners}
use Rattle.matching.specs.Shape.{Foreign}
use Rattle.matching.specs.EarliestClose.{Holds}
use Rattle.matching.specs.Path.{Within, Told}
use Rattle.matching.specs.Room.{recipe_of, same_label}
use Rattle.matching.specs.Engine.{Ready, corner_of}
use Rattle.matching.proofs.CornerRow.{close_empty, join_empty, corner_unfit, corner_join}
use Rattle.matching.proofs.Holds.{rest_below}
use Rattle.matching.proofs.LeftLeaf.{leaf_within}
use Rattle.matching.proofs.Level.{right_fits}
use Rattle.matching.proofs.Width.{length_words}

module _ (ws rl td tl : List ℕ) (k : Ready ws rl td tl) where
  abbrev rd : List ℕ
  rd = recipe_of ws rl

  abbrev test : ℕ → ℕ → Bool
  test = same_label rl tl

  abbrev Fit : ℕ → ℕ → Type 0
  Fit = SameLabel rl tl

  -- such a row fits no recipe row, ..
  pub foreign_fits : (t : ℕ) → Foreign ws (at tl t) → (v : ℕ) → Row rd v → Fit v t → ⊥
  foreign_fits t o v r e = k.kinds v r.0 (omega (arith, length_words ws 1 (length rl))) (rw e o)

  -- .. and so holds none
  pub foreign_holds : (t v : ℕ) → Foreign ws (at tl t) → Row rd v → Holds Fit rd td v t → ⊥
  foreign_holds t v o r (e, x, b) = foreign_fits t o v r (rw x at (b.fits v (omega arith, omega arith)))

  -- .. and the log need not tell of it
  pub foreign_tells : (asked : List ℕ) (l : ℕ) (ls : List ℕ) (t : ℕ) → Foreign ws (at tl t) → Told Fit rd td asked l ls t
  foreign_tells asked l ls t o i v m n p = (λ h. absurd (foreign_holds t v o p.row h), λ f. absurd (foreign_fits t o v p.row f))

  -- the tree of a row, of which all rows below are such, includes no recipe row that has rows below it
  pub bare_without : (t v : ℕ) → ((y : ℕ) → t < y → y ≤ last_row td t → Foreign ws (at tl y)) → Row rd v → 1 ≤ descendants rd v → Within Fit rd td v t → ⊥
  bare_without t v bare r o (y, a, b, (e, x, i)) = go (dec_le y t)
    where
      below : (e v < e (suc v)) × (e (suc v) ≤ last_row td (e v))
      below = rest_below Fit rd td k.outline k.listing.outline v r e i (suc v) (omega arith) (omega arith)

      go : Dec (y ≤ t) → ⊥
      go (yes l) =
          let z : e v ≡ t = omega arith in
          foreign_fits (e (suc v)) (bare (e (suc v)) (omega (arith, below)) (omega (arith, below, ap (last_row td) z))) (suc v) (omega (arith, last_fits rd v r)) (i.fits (suc v) (omega arith, omega arith))
      go (no l) = foreign_holds y v (bare y (omega arith) b) r (e, x, i)

  -- a forest gives another the same corners beside it as one with the same corners
  pub beside_same : (f g h : Forest ℕ) → ((x : ℕ) → x ≤ length rd → corner_of ws rl tl g x ≡ corner_of ws rl tl h x) → (x : ℕ) → Row rd x
      → corner_of ws rl tl (beside f g) x ≡ corner_of ws rl tl (beside f h) x
  beside_same f g h e x r =
      corner_join test rd k.outline x f g r
      ∙ ap₂ (join_row rd (corner_of ws rl tl f x)) (e x r.1) (e (right_sibling rd (corner_of ws rl tl f x)) (right_fits rd (corner_of ws rl tl f x)))
      ∙ sym (corner_join test rd k.outline x f h r)

  -- struck, such a row leaves the rows below it beside the others, and the corners stay
  pub foreign_struck : (t : ℕ) (f g : Forest ℕ) → Foreign ws (at tl t) → (x : ℕ) → x ≤ length rd → corner_of ws rl tl (cons t f g) x ≡ corner_of ws rl tl (beside f g) x
  foreign_struck t f g o zero h = refl
  foreign_struck t f g o (suc z) h =
      let x = suc z in
      let r : Row rd (suc z) = omega arith in
      corner_join test rd k.outline x (cons t f nil) g r
      ∙ ap (λ (a : ℕ). join_row rd a (corner_of ws rl tl g x) (corner_of ws rl tl g (right_sibling rd a)))
      (corner_unfit test rd k.outline x t f r (λ v s e. foreign_fits t o v s (eqb-true (at rl v) (at tl t) e)))
      ∙ sym (corner_join test rd k.outline x f g r)

  -- a forest in which no row has the label of x's left-most leaf has no corner on chain x
  pub leafless : (x z : ℕ) (f : Forest ℕ) → Stands td z f → ((y : ℕ) → z < y → y ≤ z + size f → at rl (left_leaf rd x) ≡ at tl y → ⊥) → corners test rd f x ≡ 0
  leafless x z nil s o = refl
  leafless x z (cons t f g) s o =
      join_empty rd _ _ _
      (close_empty test rd x t _ (leafless x (suc z) f s.3 (λ y a b. o y (omega arith) (omega arith)))
      (ne_eqb (at rl (left_leaf rd x)) (at tl t) (rw s.0 (o (suc z) (omega arith) (omega arith)))))
      ∙ leafless x (suc (z + size f)) g s.4 (λ y a b. o y (omega arith) (omega arith))

  -- a forest whose labels are all of kinds that the recipe has not has none on any chain
  pub foreign_none : (z : ℕ) (f : Forest ℕ) → Stands td z f → ((y : ℕ) → z < y → y ≤ z + size f → Foreign ws (at tl y)) → (x : ℕ) → x ≤ length rd
      → corner_of ws rl tl f x ≡ 0
  foreign_none z f s o zero h = refl
  foreign_none z f s o (suc i) h = leafless (suc i) z f s (λ y a b. foreign_fits y (o y a b) (left_leaf rd (suc i)) (omega arith, leaf_within rd (suc i) h))
