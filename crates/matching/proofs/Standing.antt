-- Where the row of a corner stands: its depth, its siblings, and the trees beside the corner. Assumes nothing.
use mathlib.Core.Path.{◌≡◌, refl, ap, ◌∙◌}
use mathlib.Core.List.{List}
use Prim.Native.Nat.{ℕ, zero, suc, ◌+◌, ◌≤◌}
use native.Mathlib.Omega.{arith}
use lib.ListN.{length}
use Rattle.rows.specs.Rows.{Row, depth, Outline, last_row}
use Rattle.rows.specs.Forest.{nil}
use Rattle.matching.specs.Family.{right_sibling}
use Rattle.matching.specs.CornerRow.{from_row}
use Rattle.matching.proofs.Lies.{roots}
use Rattle.matching.proofs.Cut.{root_at, other_trees, spine, roots_other, level_none, some_level}
use Rattle.matching.proofs.Level.{Next, next, last, next_of, from_step, Level, level_of, Sibling, sibling_of}

-- a corner that is not empty: where its row w stands
module _ (rd : List ℕ) (k : Outline rd) (x v i w : ℕ) (r : Row rd x) (h : suc i ≤ roots (spine v (from_row rd x)))
    (e : w ≡ root_at (suc i) (spine v (from_row rd x))) where
  pub corner_level : Level rd k x v
  corner_level = level_of rd k v x r (some_level v (from_row rd x) (omega arith))

  pub corner_sibling : Sibling rd (x + v) i w
  corner_sibling = let l = corner_level in rw (e, l.here) (sibling_of rd i (x + v) l.row (rw l.here at h))

  pub corner_deep : depth rd w ≡ depth rd x + v
  corner_deep = corner_sibling.deep ∙ corner_level.deep

  -- the trees beside the corner begin at w's right sibling: it has none just where the corner has all trees of its level
  pub corner_rest : other_trees (suc i) (spine v (from_row rd x)) ≡ from_row rd (right_sibling rd w)
  corner_rest = rw corner_level.here corner_sibling.rest

  pub last_full : right_sibling rd w ≡ 0 → suc i ≡ roots (spine v (from_row rd x))
  last_full z = omega (arith, roots_other (suc i) (spine v (from_row rd x)), ap roots corner_rest, ap (λ (y : ℕ). roots (from_row rd y)) z)

  pub full_last : suc i ≡ roots (spine v (from_row rd x)) → right_sibling rd w ≡ 0
  full_last f = go (next_of rd w corner_sibling.row)
    where
      go : Next rd w → right_sibling rd w ≡ 0
      go (last z n) = z
      go (next z q d) =
          absurd
          (omega (
            arith,
            roots_other (suc i) (spine v (from_row rd x)),
            ap roots corner_rest,
            ap (λ (y : ℕ). roots (from_row rd y)) z,
            ap roots (from_step rd (suc (last_row rd w)) q),
          ))

-- a corner (i, v) of the forest from x by its row w: it is empty, or w is a row v deeper than x
pub data Standing (rd : List ℕ) (x i v w : ℕ) : Type 0 where
  empty : i ≡ 0 → w ≡ 0 → Standing rd x i v w
  at_row : 1 ≤ i → Row rd x → Row rd w → depth rd w ≡ depth rd x + v → Standing rd x i v w

pub standing_of : (rd : List ℕ) → Outline rd → (x i v w : ℕ) → x ≤ length rd → i ≤ roots (spine v (from_row rd x))
    → w ≡ root_at i (spine v (from_row rd x)) → Standing rd x i v w
standing_of rd k x zero v w h l e = empty refl e
standing_of rd k zero (suc i) v w h l e = absurd (omega (arith, ap roots (level_none {A = ℕ} nil v (omega arith))))
standing_of rd k (suc z) (suc i) v w h l e =
    let r : Row rd (suc z) = omega arith in
    at_row (omega arith) r (corner_sibling rd k (suc z) v i w r l e).row (corner_deep rd k (suc z) v i w r l e)
