-- The first row to close of those that obey P, as those with a label do, found by one scan: the first of them, then the first below that one, and
-- so on. Assumes nothing.
use mathlib.Core.Path.{◌≡◌, ap}
use mathlib.Core.List.{List}
use mathlib.Core.Logic.{◌↔◌}
use Prim.Native.Nat.{ℕ, zero, suc, ◌≤◌, ◌<◌}
use native.Mathlib.Omega.{arith}
use native.Mathlib.Decide.{dec_le}
use lib.ListN.{length}
use Rattle.rows.specs.Rows.{Row, Outline, depth, last_row, closing}
use Rattle.rows.specs.Forest.{nil, below}
use Rattle.rows.specs.Embedding.{done}
use Rattle.rows.proofs.Depths.{last_fits, inside_deeper, after_shallow}
use Rattle.rows.proofs.Order.{Compared, less, same, more, compared, window, behind_window}
use Rattle.rows.proofs.Windows.{at_end}
use Rattle.matching.specs.Family.{left_leaf}
use Rattle.matching.specs.EarliestClose.{Holds}
use Rattle.matching.specs.Placing.{FirstIn}
use Rattle.matching.proofs.Holds.{holds_iff}
use Rattle.matching.proofs.LeftLeaf.{descent_on}

-- of the rows behind `from` rows, up to row r, the scan has come upon row h last, or upon none (0): h obeys P, the rows after it
-- are below it and do not, and those before it that do close later. The next row is below h unless it is shallower than `stop`,
-- one more than the depth of h, or 0 for none
pub data Scanned (ds : List ℕ) (P : ℕ → Type 0) (from r : ℕ) : (h stop : ℕ) → Type 0 where
  none : ((y : ℕ) → from < y → y ≤ r → P y → ⊥) → Scanned ds P from r 0 0
  upon : (h : ℕ) → from < h → h ≤ r → r ≤ last_row ds h → P h → ((y : ℕ) → h < y → y ≤ r → P y → ⊥)
      → ((y : ℕ) → from < y → y < h → P y → closing ds h ≤ closing ds y) → Scanned ds P from r h (suc (depth ds h))

module _ (ds : List ℕ) (k : Outline ds) (P : ℕ → Type 0) (from : ℕ) where
  pub scanned_none : Scanned ds P from from 0 0
  scanned_none = none (λ y a b p. omega arith)

  -- the next row obeys P, or does not; it is not shallower than `stop`, and so below the row that the scan came upon
  module _ (r : ℕ) (low : from ≤ r) (l : r < length ds) where
    below_last : (h : ℕ) → from < h → h ≤ r → r ≤ last_row ds h → depth ds h < depth ds (suc r) → suc r ≤ last_row ds h
    below_last h a b c d = go (dec_le (suc r) (last_row ds h))
      where
        go : Dec (suc r ≤ last_row ds h) → suc r ≤ last_row ds h
        go (yes i) = i
        go (no i) = let e : last_row ds h ≡ r = omega arith in absurd (omega (arith, rw e at (after_shallow ds h (omega arith))))

    pub scanned_hit : (h stop : ℕ) → stop ≤ depth ds (suc r) → Scanned ds P from r h stop → P (suc r) → {h' stop' : ℕ} → h' ≡ suc r → stop' ≡ suc (depth ds (suc r))
        → Scanned ds P from (suc r) h' stop'
    scanned_hit _ _ d (none n) p e s = rw (e, s) (upon (suc r) (omega arith) (omega arith) (omega arith) p (λ y a b q. omega arith) (λ y a b q. absurd (n y a (omega arith) q)))
    scanned_hit _ _ d (upon h a b c q clean first) p e s' =
        let i = below_last h a b c d in
        let s = ((window ds k h (suc r) (omega arith) (omega arith)).1 (omega arith, i)).2 in
        rw (e, s') (upon (suc r) (omega arith) (omega arith) (omega arith) p (λ y u v w. omega arith) (λ y u v w. go s y u v w (compared y h)))
      where
        go : closing ds (suc r) < closing ds h → (y : ℕ) → from < y → y < suc r → P y → Compared y h → closing ds (suc r) ≤ closing ds y
        go s y u v w (less o) = omega (arith, first y u o w)
        go s y u v w (same o) = omega (arith, ap (closing ds) o)
        go s y u v w (more o) = absurd (clean y o (omega arith) w)

    pub scanned_miss : (h stop : ℕ) → stop ≤ depth ds (suc r) → Scanned ds P from r h stop → (P (suc r) → ⊥) → Scanned ds P from (suc r) h stop
    scanned_miss _ _ d (none n) m = none (λ y a b q. go y a b q (dec_le y r))
      where
        go : (y : ℕ) → from < y → y ≤ suc r → P y → Dec (y ≤ r) → ⊥
        go y a b q (yes i) = n y a i q
        go y a b q (no i) = let e : y ≡ suc r = omega arith in m (rw e at q)
    scanned_miss _ _ d (upon h a b c q clean first) m =
        upon h a (omega arith) (below_last h a b c d) q (λ y u v w. go y u v w (dec_le y r)) first
      where
        go : (y : ℕ) → h < y → y ≤ suc r → P y → Dec (y ≤ r) → ⊥
        go y u v w (yes i) = clean y u i w
        go y u v w (no i) = let e : y ≡ suc r = omega arith in m (rw e at w)

  -- no row is left, or the next is shallower than `stop`: the row that the scan came upon is the first to close
  pub scanned_end : (r h stop : ℕ) → r ≤ length ds → (r < length ds → depth ds (suc r) < stop) → Scanned ds P from r h stop
      → (y : ℕ) → from < y → y ≤ length ds → P y → FirstIn ds P (suc from) (length ds) h
  scanned_end r _ _ low e (none n) y a b p = absurd (go (dec_le y r))
    where
      go : Dec (y ≤ r) → ⊥
      go (yes i) = n y a i p
      go (no i) = omega (arith, e (omega arith))
  scanned_end r _ _ low e (upon h a b c q clean first) y' a' b' p' =
      record { low = a; high = omega arith; holds = q; first = λ y u v w. go y u v w (compared y h) (dec_le y r) }
    where
      row : Row ds h
      row = omega arith

      ends : last_row ds h ≤ r
      ends = at_last (dec_le (suc r) (last_row ds h))
        where
          at_last : Dec (suc r ≤ last_row ds h) → last_row ds h ≤ r
          at_last (yes i) = let f = last_fits ds h row in absurd (omega (arith, inside_deeper ds h (suc r) (omega arith) (omega arith) i, e (omega arith)))
          at_last (no i) = omega arith

      go : (y : ℕ) → suc from ≤ y → y ≤ length ds → P y → Compared y h → Dec (y ≤ r) → closing ds h ≤ closing ds y
      go y u v w (less o) d = first y u o w
      go y u v w (same o) d = omega (arith, ap (closing ds) o)
      go y u v w (more o) (yes i) = absurd (clean y o i w)
      go y u v w (more o) (no i) = omega (arith, ((behind_window ds k h y row (omega arith)).1 (omega (arith, ends))).2)

-- a recipe row with no row below it is held by the rows that fit it
module _ (Fit : ℕ → ℕ → Type 0) (rd td : List ℕ) (kr : Outline rd) (kt : Outline td) (v : ℕ) (r : Row rd v) (leaf : left_leaf rd v ≡ v) where
  below_none : below rd v ≡ nil
  below_none = go v r leaf
    where
      go : (v : ℕ) → Row rd v → left_leaf rd v ≡ v → below rd v ≡ nil
      go zero r e = absurd (omega arith)
      go (suc i) r e = at_end rd (suc i) (suc (depth rd (suc i))) (λ l. flat l (dec_le (depth rd (suc (suc i))) (depth rd (suc i))))
        where
          flat : suc i < length rd → Dec (depth rd (suc (suc i)) ≤ depth rd (suc i)) → depth rd (suc (suc i)) < suc (depth rd (suc i))
          flat l (yes o) = omega arith
          flat l (no o) =
              let d : depth rd (suc (suc i)) ≡ suc (depth rd (suc i)) = omega (arith, kr.step (suc i) (omega arith) (omega arith)) in
              absurd (omega (arith, descent_on rd (suc (depth rd (suc i))) (suc i) l d))

  pub leaf_held : (t : ℕ) → Row td t → Holds Fit rd td v t ↔ Fit v t
  leaf_held t s =
      let i = holds_iff Fit rd td kr kt v t r s in
      (λ h. (i.0 h).0, λ f. i.1 (f, rw below_none done))

  pub first_fit : (lo t : ℕ) → 1 ≤ lo → FirstIn td (λ y. Fit v y × Unit {0}) lo (length td) t → FirstIn td (Holds Fit rd td v) lo (length td) t
  first_fit lo t one f =
      record {
        low = f.low;
        high = f.high;
        holds = (leaf_held t (omega (arith, f.low, f.high))).1 f.holds.0;
        first = λ y a b h. f.first y a b ((leaf_held y (omega arith)).0 h, tt);
      }
