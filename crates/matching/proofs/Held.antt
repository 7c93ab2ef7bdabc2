-- One of the listing rows of a forest holds a recipe row just where the tree at the recipe row lies in that forest. Assumes nothing.
use mathlib.Core.Path.{◌≡◌, refl, sym, ap}
use mathlib.Core.List.{List}
use mathlib.Core.Logic.{◌↔◌}
use Prim.Native.Nat.{ℕ, zero, suc, ◌+◌, ◌≤◌, ◌<◌}
use native.Mathlib.Omega.{arith}
use native.Mathlib.Decide.{dec_le}
use lib.ListN.{length}
use Rattle.rows.specs.Rows.{Row, Outline, descendants, last_row}
use Rattle.rows.specs.Forest.{Forest, nil, cons, size, below}
use Rattle.rows.specs.Embedding.{LiesIn}
use Rattle.rows.proofs.Depths.{last_fits}
use Rattle.rows.specs.Stands.{Stands, Among}
use Rattle.rows.proofs.Windows.{window_below, size_below}
use Rattle.rows.proofs.Inclusion.{embeds_part, Maps, maps_iff}
use Rattle.matching.specs.EarliestClose.{Tree, Holds}
use Rattle.matching.specs.Placing.{HeldIn}
use Rattle.matching.proofs.Holds.{rest_below}

-- the tree at a row stands where the row does, and no tree of a forest ends behind it
pub stands_tree : (ds : List ℕ) → Outline ds → (i : ℕ) → i < length ds → Stands ds i (cons (suc i) (below ds (suc i)) nil)
stands_tree ds k i h = (refl, h, sym (size_below ds k (suc i) (omega arith)), (window_below ds k (suc i) (omega arith)).stands, tt)

pub stands_ends : (ds : List ℕ) (z : ℕ) (f : Forest ℕ) → Stands ds z f → (y : ℕ) → Among z (size f) y → last_row ds y ≤ z + size f
stands_ends ds z nil s y a = absurd (omega arith)
stands_ends ds z (cons b f g) s y a =
    go (dec_le y (suc z)) (dec_le y (suc z + size f)) (stands_ends ds (suc z) f s.3 y) (stands_ends ds (suc (z + size f)) g s.4 y)
  where
    go : Dec (y ≤ suc z) → Dec (y ≤ suc z + size f) → (Among (suc z) (size f) y → last_row ds y ≤ suc z + size f)
        → (Among (suc (z + size f)) (size g) y → last_row ds y ≤ suc (z + size f) + size g) → last_row ds y ≤ z + suc (size f + size g)
    go (yes i) d x w = let e : y ≡ suc z = omega arith in rw e (omega (arith, s.2))
    go (no i) (yes j) x w = omega (arith, x (omega arith))
    go (no i) (no j) x w = omega (arith, w (omega arith))

-- where one of the rows t to hi holds v and none behind t does, t does
pub held_root : (Fit : ℕ → ℕ → Type 0) (rd td : List ℕ) (v t hi : ℕ) → HeldIn Fit rd td v t hi → (HeldIn Fit rd td v (suc t) hi → ⊥) → Holds Fit rd td v t
held_root Fit rd td v t hi (y, a, b, p) none = go (dec_le y t)
  where
    go : Dec (y ≤ t) → Holds Fit rd td v t
    go (yes i) = let e : y ≡ t = omega arith in rw e at p
    go (no i) = absurd (none (y, omega arith, b, p))

module _ (Fit : ℕ → ℕ → Type 0) (rd td : List ℕ) (kr : Outline rd) (kt : Outline td) where
  -- the tree at v lies in a forest of the listing just where one of its rows holds v
  pub held_iff : (v z : ℕ) (f : Forest ℕ) → Row rd v → z + size f ≤ length td → Stands td z f
      → HeldIn Fit rd td v (suc z) (z + size f) ↔ LiesIn Fit (cons v (below rd v) nil) f
  held_iff zero z f r l s = absurd (omega arith)
  held_iff (suc i) z f r l s = (λ h. maps.0 (to h), λ h. from (maps.1 h))
    where
      p : Forest ℕ
      p = cons (suc i) (below rd (suc i)) nil

      n : size (below rd (suc i)) ≡ descendants rd (suc i)
      n = size_below rd kr (suc i) r

      maps : ((e : ℕ → ℕ) × Maps Fit rd td p i f z e) ↔ LiesIn Fit p f
      maps = maps_iff Fit rd td kr kt p i f z (omega (arith, n, last_fits rd (suc i) r)) l (stands_tree rd kr i (omega arith)) s

      to : HeldIn Fit rd td (suc i) (suc z) (z + size f) → (e : ℕ → ℕ) × Maps Fit rd td p i f z e
      to (t, a, b, (e, x, k)) =
          (e, record { embeds = embeds_part Fit rd td (Tree rd (suc i)) (Among i (size p)) e (λ u h. omega (arith, n)) k; inside = λ u h. inside u h (dec_le u (suc i)) })
        where
          inside : (u : ℕ) → Among i (size p) u → Dec (u ≤ suc i) → Among z (size f) (e u)
          inside u h (yes o) = let y : u ≡ suc i = omega arith in rw (y, x) (omega arith)
          inside u h (no o) =
              omega (arith, x, ap (last_row td) x, rest_below Fit rd td kr kt (suc i) r e k u (omega arith) (omega (arith, n)), stands_ends td z f s t (omega arith))

      from : ((e : ℕ → ℕ) × Maps Fit rd td p i f z e) → HeldIn Fit rd td (suc i) (suc z) (z + size f)
      from (e, k) =
          let a = k.inside (suc i) (omega arith) in
          (e (suc i), omega arith, omega arith, (e, refl, embeds_part Fit rd td (Among i (size p)) (Tree rd (suc i)) e (λ u h. omega (arith, n)) k.embeds))

  module _ (v : ℕ) (r : Row rd v) where
    -- of the tree at row t
    pub held_tree : (t : ℕ) → Row td t → HeldIn Fit rd td v t (last_row td t) ↔ LiesIn Fit (cons v (below rd v) nil) (cons t (below td t) nil)
    held_tree zero s = absurd (omega arith)
    held_tree (suc j) s =
        let m : j + suc (size (below td (suc j)) + 0) ≡ last_row td (suc j) = omega (arith, size_below td kt (suc j) s) in
        rw m at (held_iff v j (cons (suc j) (below td (suc j)) nil) r (omega (arith, last_fits td (suc j) s)) (stands_tree td kt j (omega arith)))

    -- of the rows below row t
    pub held_below : (t : ℕ) → Row td t → HeldIn Fit rd td v (suc t) (last_row td t) ↔ LiesIn Fit (cons v (below rd v) nil) (below td t)
    held_below t s =
        let w = window_below td kt t s in
        rw (size_below td kt t s) at (held_iff v t (below td t) r w.fits w.stands)
