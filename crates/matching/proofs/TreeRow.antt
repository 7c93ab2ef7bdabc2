-- A recipe row with all its descendants lies in a forest just where the forest's corner on a chain of that row stands no deeper than the row.
-- Assumes nothing.
use mathlib.Core.Path.{◌≡◌, refl, ap}
use mathlib.Core.Bool.{Bool, true}
use mathlib.Core.Logic.{◌↔◌}
use mathlib.Core.List.{List}
use Prim.Native.Nat.{ℕ, ◌+◌, ◌-◌, ◌≤◌, ◌<◌}
use native.Mathlib.Omega.{arith}
use Rattle.rows.specs.Rows.{Row, depth, Outline}
use Rattle.rows.specs.Forest.{Forest, nil, cons, below}
use Rattle.rows.specs.Embedding.{LiesIn}
use Rattle.matching.specs.CornerRow.{from_row, corner_at, Chained}
use Rattle.matching.proofs.Chains.{chained_level, chained_deep}
use Rattle.matching.proofs.Lies.{lies_take}
use Rattle.matching.proofs.Cut.{first_trees, other_trees, levels, first_other, level_some, some_level}
use Rattle.matching.proofs.Level.{Level, from_step, level_of}
use Rattle.matching.proofs.Standing.{Standing, empty, at_row, standing_of}
use Rattle.matching.proofs.CornerRow.{BestRow, corner_best}

module _ (Fit : ℕ → ℕ → Type 0) (test : ℕ → ℕ → Bool) (right : (v t : ℕ) → (test v t ≡ true) ↔ Fit v t) (rd : List ℕ) (k : Outline rd) (x : ℕ) (r : Row rd x) (f : Forest ℕ) where
  abbrev w : ℕ
  w = corner_at test rd f x

  -- the tree at row v lies in f
  abbrev Lies : ℕ → Type 0
  Lies v = LiesIn Fit (cons v (below rd v) nil) f

  b : BestRow Fit f (from_row rd x) w
  b = corner_best Fit test right rd k f x r.1

  stands : Standing rd x b.width b.level w
  stands = standing_of rd k x b.width b.level w r.1 b.best.has b.row

  tree : (v : ℕ) → Row rd v → first_trees 1 (from_row rd v) ≡ cons v (below rd v) nil
  tree v q = ap (first_trees 1) (from_step rd v q)

  -- the corner is never higher than the chain's first row
  pub row_deep : 1 ≤ w → depth rd x ≤ depth rd w
  row_deep o = go stands
    where
      go : Standing rd x b.width b.level w → depth rd x ≤ depth rd w
      go (empty i e) = absurd (omega arith)
      go (at_row i s q e) = omega arith

  -- where a row of the chain lies in f, the corner is no deeper
  pub row_low : (v : ℕ) → Chained rd x v → Lies v → (1 ≤ w) × (depth rd w ≤ depth rd v)
  row_low v c i = go stands (b.best.most 1 (v - x) (omega arith) (level_some (v - x) (from_row rd x) h) (rw (l.here, e) (rw (tree v (rw e at l.row)) i)))
    where
      h : v - x < levels (from_row rd x)
      h = chained_level rd k x r v c

      l : Level rd k x (v - x)
      l = level_of rd k (v - x) x r h

      e : x + (v - x) ≡ v
      e = omega (arith, c.0)

      go : Standing rd x b.width b.level w → (b.level ≤ v - x) × (v - x ≡ b.level → 1 ≤ b.width) → (1 ≤ w) × (depth rd w ≤ depth rd v)
      go (empty z n) m = absurd (omega (arith, b.best.empty z, h, m.0))
      go (at_row z s q d) m = (q.0, omega (arith, chained_deep rd k x r v c, m.0))

  -- and the row of the chain on the corner's level lies in f
  pub row_here : 1 ≤ w → (y : ℕ) × Row rd y × Chained rd x y × (depth rd y ≡ depth rd w) × Lies y
  row_here o = go stands
    where
      go : Standing rd x b.width b.level w → (y : ℕ) × Row rd y × Chained rd x y × (depth rd y ≡ depth rd w) × Lies y
      go (empty i e) = absurd (omega arith)
      go (at_row i s q e) =
          let l = level_of rd k b.level x r (some_level b.level (from_row rd x) (omega (arith, b.best.has))) in
          let n : 1 + (b.width - 1) ≡ b.width = omega arith in (
            x + b.level,
            l.row,
            (omega arith, l.leaf),
            omega (arith, l.deep),
            rw (tree (x + b.level) l.row) at
                (lies_take Fit (first_trees 1 (from_row rd (x + b.level))) (first_trees (b.width - 1) (other_trees 1 (from_row rd (x + b.level)))) {f = f}
                (rw (first_other, n) (rw l.here at b.best.lies))),
          )

  -- of the chain's first row itself
  pub tree_row : Lies x ↔ ((1 ≤ w) × (depth rd w ≡ depth rd x))
  tree_row = (to, of)
    where
      to : Lies x → (1 ≤ w) × (depth rd w ≡ depth rd x)
      to i = let h = row_low x (omega arith, refl) i in (h.0, omega (arith, h.1, row_deep h.0))

      of : (1 ≤ w) × (depth rd w ≡ depth rd x) → Lies x
      of (o, d) = let (y, q, c, e, i) = row_here o in let s : y ≡ x = omega (arith, chained_deep rd k x r y c, c.0) in rw s at i
