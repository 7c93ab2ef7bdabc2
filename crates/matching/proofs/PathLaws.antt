-- A path down the recipe and what the log tells of it, as a pass goes on. Assumes nothing.
use mathlib.Core.Path.{◌≡◌, refl, ap, ◌∙◌}
use mathlib.Core.List.{List}
use Prim.Native.Nat.{ℕ, zero, suc, ◌+◌, ◌≤◌, ◌<◌}
use native.Mathlib.Omega.{arith}
use native.Mathlib.Decide.{dec_le}
use lib.ListN.{length}
use Rattle.rows.specs.Rows.{Row, Outline, depth, last_row, Ancestor}
use Rattle.rows.proofs.Depths.{inside_ends}
use Rattle.rows.proofs.Order.{window}
use Rattle.rows.proofs.Inclusion.{embeds_part}
use Rattle.matching.specs.Family.{parent}
use Rattle.matching.specs.Asked.{chain, Keep}
use Rattle.matching.specs.EarliestClose.{Tree}
use Rattle.matching.specs.CornerRow.{Chained}
use Rattle.matching.specs.Path.{log_bytes, Path, OnPath, Within, Told, Put, Kept}
use Rattle.matching.proofs.Chains.{chained_row, chained_deep, chained_inside}
use Rattle.matching.proofs.Family.{ParentView, root, child, parent_view}
use Rattle.matching.proofs.Holds.{rest_below}

-- the chains kept, the path stands, and the same rows stand on it
pub path_same : (rd asked us : List ℕ) (l : ℕ) → Keep asked us l → Path rd asked l → Path rd us l
path_same rd asked us l e p =
    record {
      rows = λ i h. rw (e i h) (p.rows i h);
      inner = λ i h. rw (e i h) (p.inner i h);
      down = λ i h. let o : i < l = omega arith in rw (e (suc i) h, e i o) (p.down i h);
    }

pub on_same : (rd asked us : List ℕ) (l i v : ℕ) → Keep asked us l → OnPath rd asked l i v → OnPath rd us l i v
on_same rd asked us l i v e o =
    record {
      nth = o.nth;
      few = o.few;
      row = o.row;
      inner = o.inner;
      on = rw (e o.nth o.few) o.on;
      deep = rw (e 0 (omega (arith, o.few))) o.deep;
      high = λ h. rw (e (suc o.nth) h) (o.high h);
    }

-- the log tells the same of a path by the same chains
pub told_same : (Fit : ℕ → ℕ → Type 0) (rd td asked us : List ℕ) (l : ℕ) (ls : List ℕ) (t : ℕ) → Keep asked us l → Told Fit rd td us l ls t → Told Fit rd td asked l ls t
told_same Fit rd td asked us l ls t e k i v a b o = k i v a b (on_same rd asked us l i v e o)

-- the changes of a log lie in a wider stretch too, and two that follow each other in both their stretches together
pub kept_wide : (ls : List ℕ) (lo hi lo' hi' : ℕ) (ms : List ℕ) → lo' ≤ lo → hi ≤ hi' → Kept ls lo hi ms → Kept ls lo' hi' ms
kept_wide ls lo hi lo' hi' ms a b k = record { size = k.size; stays = λ y o. k.stays y (λ i j. o (omega arith) (omega arith)) }

pub kept_both : (ls : List ℕ) (lo hi : ℕ) (ms os : List ℕ) → Kept ls lo hi ms → Kept ms lo hi os → Kept ls lo hi os
kept_both ls lo hi ms os a b = record { size = b.size; stays = λ y o. b.stays y o ∙ a.stays y o }

pub kept_none : (ls : List ℕ) (lo hi : ℕ) → length ls ≡ log_bytes → Kept ls lo hi ls
kept_none ls lo hi n = record { size = n; stays = λ y o. refl }

pub kept_one : (ls : List ℕ) (first a l : ℕ) (ms : List ℕ) (hi : ℕ) → suc first ≤ hi → Put ls first a l ms → Kept ls (suc first) hi ms
kept_one ls first a l ms hi o p = record { size = p.size; stays = λ y out. p.others y (λ e. out (omega arith) (omega arith)) }

module _ (rd : List ℕ) (kr : Outline rd) (asked : List ℕ) (l : ℕ) (p : Path rd asked l) where
  -- the row above a chain of the path: it stands in the tree of the chain before
  pub record Joint (i : ℕ) : Type 0 where
    pub row : Row rd (parent rd (chain asked (suc i)))
    pub above : (parent rd (chain asked (suc i)) < chain asked (suc i)) × (chain asked (suc i) ≤ last_row rd (parent rd (chain asked (suc i))))
    pub step : depth rd (chain asked (suc i)) ≡ suc (depth rd (parent rd (chain asked (suc i))))
    pub deep : depth rd (chain asked i) ≤ depth rd (parent rd (chain asked (suc i)))
    pub inside : (chain asked i ≤ parent rd (chain asked (suc i))) × (last_row rd (parent rd (chain asked (suc i))) ≤ last_row rd (chain asked i))

  pub joint : (i : ℕ) → suc i < l → Joint i
  joint i h = go (parent_view rd kr (chain asked (suc i)) (p.rows (suc i) h))
    where
      first : Row rd (chain asked i)
      first = p.rows i (omega arith)

      on : Chained rd (chain asked i) (parent rd (chain asked (suc i)))
      on = p.down i h

      row : Row rd (parent rd (chain asked (suc i)))
      row = chained_row rd kr (chain asked i) first (parent rd (chain asked (suc i))) on

      go : ParentView rd (chain asked (suc i)) → Joint i
      go (root z d f) = absurd (omega (arith, row))
      go (child q) =
          record {
            row = row;
            above = (window rd kr (parent rd (chain asked (suc i))) (chain asked (suc i)) row (p.rows (suc i) h)).0 q.above;
            step = q.step;
            deep = omega (arith, chained_deep rd kr (chain asked i) first (parent rd (chain asked (suc i))) on);
            inside = (
              on.0,
              inside_ends rd (chain asked i) (parent rd (chain asked (suc i))) first on.0 (chained_inside rd kr (chain asked i) first (parent rd (chain asked (suc i))) on),
            );
          }

  -- so a later chain is in the tree of each before it, and deeper
  pub path_tree : (i j : ℕ) → i ≤ j → j < l → (chain asked i ≤ chain asked j) × (chain asked j ≤ last_row rd (chain asked i)) × (depth rd (chain asked i) ≤ depth rd (chain asked j))
  path_tree i zero o h = let e : i ≡ 0 = omega arith in rw e (omega arith, omega arith, omega arith)
  path_tree i (suc j) o h = go (dec_le i j) (path_tree i j)
    where
      go : Dec (i ≤ j) → (i ≤ j → j < l → (chain asked i ≤ chain asked j) × (chain asked j ≤ last_row rd (chain asked i)) × (depth rd (chain asked i) ≤ depth rd (chain asked j)))
          → (chain asked i ≤ chain asked (suc j)) × (chain asked (suc j) ≤ last_row rd (chain asked i)) × (depth rd (chain asked i) ≤ depth rd (chain asked (suc j)))
      go (no n) ih = let e : i ≡ suc j = omega arith in rw e (omega arith, omega arith, omega arith)
      go (yes n) ih =
          let t = ih n (omega arith) in
          let q = joint j h in
          let e = inside_ends rd (chain asked i) (chain asked j) (p.rows i (omega arith)) t.0 t.1 in
          (omega (arith, t.0, q.above, q.inside), omega (arith, e, q.above, q.inside), omega (arith, t.2, q.step, q.deep))

  -- the path's first row stands on it
  pub on_first : 1 ≤ l → OnPath rd asked l 0 (chain asked 0)
  on_first o =
      record {
        nth = 0;
        few = o;
        row = p.rows 0 o;
        inner = p.inner 0 o;
        on = (omega arith, refl);
        deep = omega arith;
        high = λ h. let q = joint 0 h in omega (arith, q.step, q.deep);
      }

  -- the rows of the path behind its first are below it
  pub on_below : (i v : ℕ) → 1 ≤ i → OnPath rd asked l i v → Ancestor rd (chain asked 0) v
  on_below i v one o =
      let x = chain asked o.nth in
      let q = p.rows 0 (omega (arith, o.few)) in
      let t = path_tree 0 o.nth (omega arith) o.few in
      let e = inside_ends rd (chain asked 0) x q t.0 t.1 in
      let s = chained_inside rd kr x (p.rows o.nth o.few) v o.on in
      (window rd kr (chain asked 0) v q o.row).1 (other v (omega (arith, t.0, o.on.0)) o.deep, omega arith)
    where
      other : (v : ℕ) → chain asked 0 ≤ v → depth rd v ≡ depth rd (chain asked 0) + i → chain asked 0 < v
      other v a d = go (dec_le v (chain asked 0))
        where
          go : Dec (v ≤ chain asked 0) → chain asked 0 < v
          go (yes h) = let e : v ≡ chain asked 0 = omega arith in absurd (omega (arith, ap (depth rd) e))
          go (no h) = omega arith

module _ (Fit : ℕ → ℕ → Type 0) (rd td : List ℕ) (kr : Outline rd) (kt : Outline td) where
  -- a tree that includes a row includes each row below it
  pub within_down : (v c t : ℕ) → Row rd v → v ≤ c → c ≤ last_row rd v → Row td t → Within Fit rd td v t → Within Fit rd td c t
  within_down v c t q a b s (y, l, h, (d, i, k)) = go (dec_le c v)
    where
      go : Dec (c ≤ v) → Within Fit rd td c t
      go (yes o) = let e : c ≡ v = omega arith in rw e (y, l, h, (d, i, k))
      go (no o) =
          let x = rest_below Fit rd td kr kt v q d k c (omega arith) b in
          let m = inside_ends rd v c q a b in
          let z = inside_ends td t y s l h in
          (d c, omega (arith, x), omega (arith, x, ap (last_row td) i), (d, refl, embeds_part Fit rd td (Tree rd v) (Tree rd c) d (λ u g. omega arith) k))

  -- and so, with the row above a later chain of a path, the rows of that chain
  pub path_down : (asked : List ℕ) (l : ℕ) → Path rd asked l → (i j v t : ℕ) → i < j → j < l → Chained rd (chain asked j) v → Row td t
      → Within Fit rd td (parent rd (chain asked (suc i))) t → Within Fit rd td v t
  path_down asked l p i j v t o h c s w =
      let q = joint rd kr asked l p i (omega arith) in
      let x = path_tree rd kr asked l p (suc i) j o h in
      let e = inside_ends rd (chain asked (suc i)) (chain asked j) (p.rows (suc i) (omega arith)) x.0 x.1 in
      let f = chained_inside rd kr (chain asked j) (p.rows j h) v c in
      let g = inside_ends rd (parent rd (chain asked (suc i))) (chain asked (suc i)) q.row (omega (arith, q.above)) q.above.1 in
      within_down (parent rd (chain asked (suc i))) v t q.row (omega (arith, q.above, x.0, c.0)) (omega (arith, e, f, g)) s w
