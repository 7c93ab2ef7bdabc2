-- Ancestors and left-of: by the window of a tree's rows, and of two rows just one of the four. Assumes nothing.
use mathlib.Core.Path.{◌≡◌, ap}
use mathlib.Core.Logic.{◌↔◌}
use mathlib.Core.List.{List}
use mathlib.Core.HLevel.{×₃_prop}
use Prim.Native.Nat.{ℕ, suc, ◌+◌, ◌-◌, ◌≤◌, ◌<◌}
use native.Mathlib.Bridge.{le_prop}
use native.Mathlib.Nat.{lt_of_not-le, le_of_suc-le-suc}
use native.Mathlib.Omega.{arith}
use native.Mathlib.Decide.{dec_lt, dec_le}
use lib.ListN.{length}
use Rattle.rows.specs.Rows.{Row, Outline, last_row, closing, Ancestor, LeftOf}
use Rattle.rows.proofs.Depths.{after_shallow, inside_deeper, inside_ends, slope, depth_under}

pub data Compared (u w : ℕ) : Type 0 where
  less : u < w → Compared u w
  same : u ≡ w → Compared u w
  more : w < u → Compared u w

pub compared : (u w : ℕ) → Compared u w
compared u w = go (dec_lt u w) (dec_lt w u)
  where
    go : Dec (u < w) → Dec (w < u) → Compared u w
    go (yes h) d = less h
    go (no h) (yes l) = more l
    go (no h) (no l) = same (omega arith)

-- two rows that differ: u is an ancestor of w or w of u, u is left of w or w of u
pub data Apart (ds : List ℕ) (u w : ℕ) : Type 0 where
  above : Ancestor ds u w → Apart ds u w
  below : Ancestor ds w u → Apart ds u w
  before : LeftOf ds u w → Apart ds u w
  behind : LeftOf ds w u → Apart ds u w

module _ (ds : List ℕ) (k : Outline ds) where
  -- the rows of a tree close before its root, the rows behind it close after
  inside_closes : (u w : ℕ) → Row ds u → u < w → w ≤ length ds → w ≤ last_row ds u → closing ds w < closing ds u
  inside_closes u w r o h i =
      omega (arith, inside_ends ds u w r (omega arith) i, inside_deeper ds u w r.0 o i, depth_under ds k u r, depth_under ds k w (omega arith))

  beyond_closes : (u w : ℕ) → Row ds u → w ≤ length ds → last_row ds u < w → closing ds u < closing ds w
  beyond_closes u w r h o =
      let e : suc (last_row ds u) + (w - suc (last_row ds u)) ≡ w = omega arith in
      omega (
        arith,
        after_shallow ds u r,
        rw e at (slope ds k (suc (last_row ds u)) (w - suc (last_row ds u)) (omega arith) (omega arith)),
        depth_under ds k u r,
        depth_under ds k w (omega arith),
      )

  -- a subtree is a window of rows: u is an ancestor of just the rows after it up to the last row of its tree
  pub window : (u w : ℕ) → Row ds u → Row ds w → Ancestor ds u w ↔ ((u < w) × (w ≤ last_row ds u))
  window u w r s = (
    λ a. (a.1, le_of_suc-le-suc (lt_of_not-le (λ h. omega (arith, beyond_closes u w r s.1 h)))),
    λ a. (r.0, a.0, inside_closes u w r a.0 s.1 a.1),
  )

  -- and u is left of just the rows behind its tree
  pub behind_window : (u w : ℕ) → Row ds u → Row ds w → LeftOf ds u w ↔ (last_row ds u < w)
  behind_window u w r s = (λ a. lt_of_not-le (λ h. omega (arith, inside_closes u w r a.1 s.1 h)), λ a. (r.0, omega arith, beyond_closes u w r s.1 a))

  -- a later row is in the tree of an earlier one or behind it
  pub data Later (u w : ℕ) : Type 0 where
    in_tree : Ancestor ds u w → Later u w
    past_tree : LeftOf ds u w → Later u w

  pub later : (u w : ℕ) → Row ds u → Row ds w → u < w → Later u w
  later u w r s o = go (dec_le w (last_row ds u))
    where
      go : Dec (w ≤ last_row ds u) → Later u w
      go (yes h) = in_tree ((window u w r s).1 (o, h))
      go (no h) = past_tree ((behind_window u w r s).1 (omega arith))

  -- of two different rows at least one of the four holds ..
  pub apart : (u w : ℕ) → Row ds u → Row ds w → (u ≡ w → ⊥) → Apart ds u w
  apart u w r s n = go (compared u w)
    where
      forth : Later u w → Apart ds u w
      forth (in_tree a) = above a
      forth (past_tree a) = before a

      back : Later w u → Apart ds u w
      back (in_tree a) = below a
      back (past_tree a) = behind a

      go : Compared u w → Apart ds u w
      go (less o) = forth (later u w r s o)
      go (same o) = absurd (n o)
      go (more o) = back (later w u s r o)

-- .. and at most one
pub apart_once : (ds : List ℕ) (u w : ℕ) → IsProp (Apart ds u w)
apart_once ds u w = go
  where
    same_above : (u w : ℕ) → IsProp (Ancestor ds u w)
    same_above u w = ×₃_prop le_prop le_prop le_prop

    same_left : (u w : ℕ) → IsProp (LeftOf ds u w)
    same_left u w = ×₃_prop le_prop le_prop le_prop

    go : (x y : Apart ds u w) → x ≡ y
    go (above a) (above b) = ap above (same_above u w a b)
    go (above a) (below b) = absurd (omega arith)
    go (above a) (before b) = absurd (omega arith)
    go (above a) (behind b) = absurd (omega arith)
    go (below a) (above b) = absurd (omega arith)
    go (below a) (below b) = ap below (same_above w u a b)
    go (below a) (before b) = absurd (omega arith)
    go (below a) (behind b) = absurd (omega arith)
    go (before a) (above b) = absurd (omega arith)
    go (before a) (below b) = absurd (omega arith)
    go (before a) (before b) = ap before (same_left u w a b)
    go (before a) (behind b) = absurd (omega arith)
    go (behind a) (above b) = absurd (omega arith)
    go (behind a) (below b) = absurd (omega arith)
    go (behind a) (before b) = absurd (omega arith)
    go (behind a) (behind b) = ap behind (same_left w u a b)
