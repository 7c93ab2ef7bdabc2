-- A pass over listing rows that seeks a recipe row: what its corners tell of the rows that hold it. Assumes nothing.
use mathlib.Core.Path.{◌≡◌, sym, ◌∙◌}
use mathlib.Core.Bool.{true}
use mathlib.Core.List.{List}
use mathlib.Core.Logic.{◌↔◌}
use Prim.Native.Nat.{ℕ, suc, ◌≤◌, ◌<◌}
use native.Mathlib.Omega.{arith}
use native.Mathlib.Decide.{dec_le}
use lib.ListN.{length}
use borrow.Author.Tests.{eqb-true, eq-eqb}
use Rattle.rows.specs.Rows.{at, Row, depth, last_row}
use Rattle.rows.specs.Forest.{Forest, nil, cons, below}
use Rattle.rows.specs.Embedding.{SameLabel, LiesIn}
use Rattle.rows.proofs.Depths.{last_fits}
use Rattle.matching.specs.EarliestClose.{Holds}
use Rattle.matching.specs.Placing.{HeldIn, FirstIn}
use Rattle.matching.specs.CornerRow.{Chained}
use Rattle.matching.specs.Shape.{word}
use Rattle.matching.specs.Path.{Within}
use Rattle.matching.specs.Room.{recipe_of, same_label}
use Rattle.matching.specs.Engine.{Ready, tree_at, corner_of}
use Rattle.matching.proofs.FirstIn.{enter, here, widen}
use Rattle.matching.proofs.Held.{held_root, held_tree}
use Rattle.matching.proofs.TreeRow.{row_deep, row_low, row_here, tree_row}
use Rattle.matching.proofs.TreeJoins.{corner_of_fits}

-- the test of the labels is right
pub same_right : (rl tl : List ℕ) (v t : ℕ) → (same_label rl tl v t ≡ true) ↔ SameLabel rl tl v t
same_right rl tl v t = (eqb-true (at rl v) (at tl t), eq-eqb (at rl v) (at tl t))

module _ (ws rl td tl : List ℕ) (k : Ready ws rl td tl) (v : ℕ) (r : Row (recipe_of ws rl) v) where
  abbrev rd : List ℕ
  rd = recipe_of ws rl

  abbrev Fit : ℕ → ℕ → Type 0
  Fit = SameLabel rl tl

  -- a corner is on v's level
  abbrev OnLevel : ℕ → Type 0
  OnLevel w = (1 ≤ w) × (word 3 ws w ≡ word 3 ws v)

  -- v's tree lies in a forest just where the corner on chain v is on v's level
  pub level_lies : (f : Forest ℕ) (w : ℕ) → w ≡ corner_of ws rl tl f v → OnLevel w ↔ LiesIn Fit (cons v (below rd v) nil) f
  level_lies f w q =
      let t = tree_row Fit (same_label rl tl) (same_right rl tl) rd k.outline v r f in
      let h : w ≤ length rd = omega (arith, corner_of_fits ws rl td tl k f v r.1) in
      let x = k.shape.depths w h in
      let y = k.shape.depths v r.1 in (
        λ a. let b : (1 ≤ w) × (depth rd w ≡ depth rd v) = (a.0, sym x ∙ a.1 ∙ y) in t.1 (rw q at b),
        λ i. let a : (1 ≤ w) × (depth rd w ≡ depth rd v) = rw q (t.0 i) in (a.0, x ∙ a.1 ∙ sym y),
      )

  -- the tree whose first row stands behind `first` rows
  module _ (first : ℕ) (h : first < length td) where
    abbrev last : ℕ
    last = last_row td (suc first)

    row : Row td (suc first)
    row = omega arith

    ends : last ≤ length td
    ends = last_fits td (suc first) row

    -- the row sought is found below the first row
    pub found_below : (t : ℕ) → FirstIn td (Holds Fit rd td v) (suc (suc first)) last t → FirstIn td (Holds Fit rd td v) (suc first) last t
    found_below t f = enter td k.listing.outline (Holds Fit rd td v) (suc first) last (omega arith) (omega arith) ends t f

    module _ (w : ℕ) (q : w ≡ corner_of ws rl tl (tree_at td first) v) where
      -- its corner on chain v is no higher than v, and no deeper than a row of that chain that the tree includes; it includes the one on the
      -- corner's level
      pub chain_deep : 1 ≤ w → depth rd v ≤ depth rd w
      chain_deep o = rw q (row_deep Fit (same_label rl tl) (same_right rl tl) rd k.outline v r (tree_at td first) (rw q at o))

      pub chain_low : (u : ℕ) → Row rd u → Chained rd v u → Within Fit rd td u (suc first) → (1 ≤ w) × (depth rd w ≤ depth rd u)
      chain_low u s c i =
          rw q (row_low Fit (same_label rl tl) (same_right rl tl) rd k.outline v r (tree_at td first) u c
          ((held_tree Fit rd td k.outline k.listing.outline u s (suc first) row).0 i))

      pub chain_here : 1 ≤ w → (u : ℕ) × Row rd u × Chained rd v u × (depth rd u ≡ depth rd w) × Within Fit rd td u (suc first)
      chain_here o =
          let (u, s, c, d, i) = row_here Fit (same_label rl tl) (same_right rl tl) rd k.outline v r (tree_at td first) (rw q at o) in
          (u, s, c, rw q d, (held_tree Fit rd td k.outline k.listing.outline u s (suc first) row).1 i)

    -- the tree includes it, and no row below the first one holds it: the first one does
    pub found_here : Within Fit rd td v (suc first) → (HeldIn Fit rd td v (suc (suc first)) last → ⊥) → FirstIn td (Holds Fit rd td v) (suc first) last (suc first)
    found_here i none =
        here td k.listing.outline (Holds Fit rd td v) (suc first) last (omega arith) (omega arith) ends (λ y a b p. none (y, a, b, p))
        (held_root Fit rd td v (suc first) last i none)

  -- of the rows behind `from` rows none of the first holds it, up to row `first`. Then none up to row `last`, ..
  module _ (from first last : ℕ) (low : from ≤ first) (none : HeldIn Fit rd td v (suc from) first → ⊥) where
    pub none_more : (HeldIn Fit rd td v (suc first) last → ⊥) → HeldIn Fit rd td v (suc from) last → ⊥
    none_more part (y, a, b, p) = go (dec_le y first)
      where
        go : Dec (y ≤ first) → ⊥
        go (yes i) = none (y, a, i, p)
        go (no i) = part (y, omega arith, b, p)

    -- .. or the first to close of those up to row `last` is the first of all
    pub found_more : (t hi : ℕ) → last ≤ hi → hi ≤ length td → last_row td t ≤ last → FirstIn td (Holds Fit rd td v) (suc first) last t
        → FirstIn td (Holds Fit rd td v) (suc from) hi t
    found_more t hi o e i f =
        widen td k.listing.outline (Holds Fit rd td v) (suc from) (suc first) last hi t (omega arith) (omega arith) o e i
        (λ y a b p. none (y, a, omega arith, p)) f
