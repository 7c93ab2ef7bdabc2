-- How ancestry and left-of of three rows hang together. Assumes nothing.
use mathlib.Core.Path.{◌≡◌, sym, ap}
use mathlib.Core.List.{List}
use Prim.Native.Nat.{ℕ, ◌≤◌, ◌<◌}
use native.Mathlib.Omega.{arith}
use Rattle.rows.specs.Rows.{Row, Outline, closing, Ancestor, LeftOf}
use Rattle.rows.proofs.Order.{Compared, less, same, more, compared, Later, in_tree, past_tree, later, window, behind_window}

module _ (ds : List ℕ) (k : Outline ds) where
  -- an ancestor of v is an ancestor of all rows between
  pub above_above : (u p v : ℕ) → Row ds v → Ancestor ds u v → p < v → u < p → Ancestor ds u p
  above_above u p v r a o i =
      let w = (window ds k u v (omega arith) r).0 a in
      (window ds k u p (omega arith) (omega arith)).1 (i, omega arith)

  -- no two rows close together
  pub one_closing : (u v : ℕ) → Row ds u → Row ds v → closing ds u ≡ closing ds v → u ≡ v
  one_closing u v q r e = go (compared u v)
    where
      apart : {x y : ℕ} → Later ds k x y → closing ds x ≡ closing ds y → ⊥
      apart (in_tree a) e = omega arith
      apart (past_tree a) e = omega arith

      go : Compared u v → u ≡ v
      go (less o) = absurd (apart (later ds k u v q r o) e)
      go (same o) = o
      go (more o) = absurd (apart (later ds k v u r q o) (sym e))

  -- what closes no later than a row is left of what that row is left of
  pub sooner : (u w v : ℕ) → Row ds u → Row ds w → Row ds v → closing ds u ≤ closing ds w → LeftOf ds w v → LeftOf ds u v
  sooner u w v p q r h l = go (compared u v)
    where
      after : Later ds k w u → v < u → LeftOf ds u v
      after (in_tree a) o = absurd (omega (arith, (window ds k w u q p).0 a, (behind_window ds k w v q r).0 l))
      after (past_tree a) o = absurd (omega arith)

      go : Compared u v → LeftOf ds u v
      go (less o) = omega arith
      go (same o) = absurd (omega (arith, ap (closing ds) o))
      go (more o) = after (later ds k w u q p (omega arith)) o
