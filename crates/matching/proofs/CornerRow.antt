-- A corner as one row: the branches of close and join, that `corner_at` is the best corner's row, and so the three laws by which the
-- corners of a listing's forest follow one another. Assumes nothing.
use mathlib.Core.Path.{◌≡◌, refl, sym, ap, ap₂, ◌∙◌}
use mathlib.Core.Bool.{Bool, true, false, ◌&&◌, true≢false}
use mathlib.Core.Logic.Iff
use mathlib.Core.Logic.{◌↔◌}
use mathlib.Core.List.{List}
use Prim.Native.Nat.{ℕ, zero, suc, ◌+◌, ◌-◌, ◌≤◌, ◌<◌}
use native.Mathlib.Omega.{arith}
use native.Mathlib.Decide.{dec_lt, ℕ_discrete}
use lib.Dec.{ltb}
use lib.ListN.{length}
use borrow.Author.Tests.{lt-ltb, le-ltb, eq-eqb, ne_eqb}
use Rattle.rows.specs.Rows.{Row, depth, Outline}
use Rattle.rows.specs.Forest.{Forest, nil, cons, beside}
use Rattle.matching.specs.Family.{parent, right_sibling, left_leaf}
use Rattle.matching.specs.CornerRow.{from_row, close_row, join_row, corners, corner_at, OnChain}
use Rattle.matching.proofs.Lies.{roots}
use Rattle.matching.proofs.Cut.{root_at, other_trees, spine, levels, root_other, level_none, some_level}
use Rattle.matching.proofs.Best.{Best, best_unique, best_nothing, best_none, best_kept, best_raised, best_higher, best_wider, best_stays}
use Rattle.matching.proofs.Level.{right_fits, right_deep, from_step, leaf_level, level_of, parent_level}
use Rattle.matching.proofs.Standing.{corner_sibling, corner_deep, corner_rest, last_full, full_last, Standing, empty, at_row, standing_of}

-- the branches of close
module _ (test : ℕ → ℕ → Bool) (rd : List ℕ) (x t w : ℕ) where
  pub close_new : w ≡ 0 → test (left_leaf rd x) t ≡ true → close_row test rd x t w ≡ left_leaf rd x
  unfolding close_row
  close_new z s = rw (eq-eqb w 0 z, s, close_row)

  pub close_empty : w ≡ 0 → test (left_leaf rd x) t ≡ false → close_row test rd x t w ≡ 0
  unfolding close_row
  close_empty z s = rw (eq-eqb w 0 z, s, close_row)

  pub close_top : 1 ≤ w → depth rd w ≡ depth rd x → close_row test rd x t w ≡ w
  unfolding close_row
  close_top o e = rw (ne_eqb w 0 (omega arith), eq-eqb (depth rd w) (depth rd x) e, close_row)

  pub close_wide : 1 ≤ w → (depth rd w ≡ depth rd x → ⊥) → (right_sibling rd w ≡ 0 → ⊥) → close_row test rd x t w ≡ w
  unfolding close_row
  close_wide o e n = rw (ne_eqb w 0 (omega arith), ne_eqb (depth rd w) (depth rd x) e, ne_eqb (right_sibling rd w) 0 n, close_row)

  pub close_raise : 1 ≤ w → (depth rd w ≡ depth rd x → ⊥) → right_sibling rd w ≡ 0 → test (parent rd w) t ≡ true → close_row test rd x t w ≡ parent rd w
  unfolding close_row
  close_raise o e n s = rw (ne_eqb w 0 (omega arith), ne_eqb (depth rd w) (depth rd x) e, eq-eqb (right_sibling rd w) 0 n, s, close_row)

  pub close_other : 1 ≤ w → (depth rd w ≡ depth rd x → ⊥) → right_sibling rd w ≡ 0 → test (parent rd w) t ≡ false → close_row test rd x t w ≡ w
  unfolding close_row
  close_other o e n s = rw (ne_eqb w 0 (omega arith), ne_eqb (depth rd w) (depth rd x) e, eq-eqb (right_sibling rd w) 0 n, s, close_row)

-- the branches of join
module _ (rd : List ℕ) (a b w : ℕ) where
  pub join_empty : a ≡ 0 → join_row rd a b w ≡ b
  unfolding join_row
  join_empty z = rw (eq-eqb a 0 z, join_row)

  pub join_higher : 1 ≤ a → 1 ≤ b → depth rd b < depth rd a → join_row rd a b w ≡ b
  unfolding join_row
  join_higher o l h = rw (ne_eqb a 0 (omega arith), lt-ltb 0 b l, lt-ltb (depth rd b) (depth rd a) h, join_row)

  -- b is empty or no higher
  low : (1 ≤ b → depth rd a ≤ depth rd b) → (ltb 0 b && ltb (depth rd b) (depth rd a)) ≡ false
  low h = go (dec_lt 0 b)
    where
      go : Dec (0 < b) → (ltb 0 b && ltb (depth rd b) (depth rd a)) ≡ false
      go (yes o) = rw (lt-ltb 0 b o, le-ltb (depth rd b) (depth rd a) (h o))
      go (no o) = rw (le-ltb 0 b (omega arith))

  pub join_wider : 1 ≤ a → (1 ≤ b → depth rd a ≤ depth rd b) → 1 ≤ w → depth rd w ≡ depth rd a → join_row rd a b w ≡ w
  unfolding join_row
  join_wider o h l e = rw (ne_eqb a 0 (omega arith), low h, lt-ltb 0 w l, eq-eqb (depth rd w) (depth rd a) e, join_row)

  pub join_kept : 1 ≤ a → (1 ≤ b → depth rd a ≤ depth rd b) → (1 ≤ w → depth rd w ≡ depth rd a → ⊥) → join_row rd a b w ≡ a
  unfolding join_row
  join_kept o h l = go (dec_lt 0 w)
    where
      go : Dec (0 < w) → join_row rd a b w ≡ a
      go (yes c) = rw (ne_eqb a 0 (omega arith), low h, lt-ltb 0 w c, ne_eqb (depth rd w) (depth rd a) (l c), join_row)
      go (no c) = rw (ne_eqb a 0 (omega arith), low h, le-ltb 0 w (omega arith), join_row)

-- w is the row of the best corner of g in f: of its last subtree, or 0 if it is empty
pub record BestRow (Fit : ℕ → ℕ → Type 0) (f g : Forest ℕ) (w : ℕ) : Type 0 where
  pub width : ℕ
  pub level : ℕ
  pub best : Best Fit f g width level
  pub row : w ≡ root_at width (spine level g)

pub one_row : {Fit : ℕ → ℕ → Type 0} {f g : Forest ℕ} {w u : ℕ} → BestRow Fit f g w → BestRow Fit f g u → w ≡ u
one_row {Fit} {g = g} p q =
    let e = best_unique Fit p.best q.best in p.row ∙ ap₂ (λ (i v : ℕ). root_at i (spine v g)) e.0 e.1 ∙ sym q.row

-- row 0 has no corner
module _ (test : ℕ → ℕ → Bool) (rd : List ℕ) where
  pub corners_zero : (f : Forest ℕ) → corners test rd f 0 ≡ 0
  corners_zero nil = refl
  corners_zero (cons t f r) = join_empty rd _ _ _ (go (test 0 t) refl (corners_zero f)) ∙ corners_zero r
    where
      go : (s : Bool) → test 0 t ≡ s → corners test rd f 0 ≡ 0 → close_row test rd 0 t (corners test rd f 0) ≡ 0
      go true s z = close_new test rd 0 t (corners test rd f 0) z s
      go false s z = close_empty test rd 0 t (corners test rd f 0) z s

  corners_at : (f : Forest ℕ) (x : ℕ) → corners test rd f x ≡ corner_at test rd f x
  corners_at f zero = corners_zero f
  corners_at f (suc z) = refl

module _ (Fit : ℕ → ℕ → Type 0) (test : ℕ → ℕ → Bool) (right : (v t : ℕ) → (test v t ≡ true) ↔ Fit v t) (rd : List ℕ) (k : Outline rd) where
  module _ (x : ℕ) (r : Row rd x) where
    abbrev g : Forest ℕ
    g = from_row rd x

    -- close row t over f
    module _ (f : Forest ℕ) (t : ℕ) where
      -- the first row u levels down is x + u
      top : (u : ℕ) → u < levels g → root_at 1 (spine u g) ≡ x + u
      top u o = let l = level_of rd k u x r o in ap (root_at 1) (l.here ∙ from_step rd (x + u) l.row)

      raised : (i u : ℕ) → Best Fit f g i (suc u) → i ≡ roots (spine (suc u) g) → test (x + u) t ≡ true → BestRow Fit (cons t f nil) g (x + u)
      raised i u b e s =
          let c = top u (omega (arith, b.low)) in
          record { width = 1; level = u; best = best_raised Fit b t u refl e (rw c ((right (x + u) t).0 s)); row = sym c }

      kept : (i v w : ℕ) → Best Fit f g i v → w ≡ root_at i (spine v g) → ((u : ℕ) → v ≡ suc u → i ≡ roots (spine v g) → test (x + u) t ≡ true → ⊥)
          → BestRow Fit (cons t f nil) g w
      kept i v w b e not =
          record {
            width = i;
            level = v;
            best = best_kept Fit b t (λ u s m c. not u (sym s) m ((right (x + u) t).1 (rw (top u (omega (arith, b.low))) at c)));
            row = e;
          }

      other : (u : ℕ) → test (x + u) t ≡ false → (y : ℕ) → suc u ≡ suc y → test (x + y) t ≡ true → ⊥
      other u s y e c = let d : x + u ≡ x + y = omega arith in true≢false (sym c ∙ (rw d at s))

      -- an empty corner may begin at the left-most leaf, one at x's depth stays, another may rise to its parent
      close_row_lem : (i v w : ℕ) → Best Fit f g i v → w ≡ root_at i (spine v g) → BestRow Fit (cons t f nil) g (close_row test rd x t w)
      close_row_lem zero zero w b e = absurd (omega (arith, b.empty refl, ap levels (from_step rd x r)))
      close_row_lem zero (suc u) w b e = go (test (x + u) t) refl
        where
          leaf : left_leaf rd x ≡ x + u
          leaf = omega (arith, leaf_level rd k x r, b.empty refl)

          go : (s : Bool) → test (x + u) t ≡ s → BestRow Fit (cons t f nil) g (close_row test rd x t w)
          go true s =
              rw (close_new test rd x t w e (rw leaf s), leaf)
              (raised 0 u b (sym (ap roots (level_none g (suc u) (omega (arith, b.empty refl))))) s)
          go false s = rw (close_empty test rd x t w e (rw leaf s)) (kept 0 (suc u) 0 b refl (λ y m n. other u s y m))
      close_row_lem (suc i) zero w b e =
          let d = corner_deep rd k x 0 i w r b.has e in
          let q = corner_sibling rd k x 0 i w r b.has e in
          rw (close_top test rd x t w q.row.0 (omega arith)) (kept (suc i) 0 w b e (λ u m n c. absurd (omega arith)))
      close_row_lem (suc i) (suc u) w b e = go (ℕ_discrete (right_sibling rd w) 0) (test (x + u) t) refl
        where
          one : 1 ≤ w
          one = (corner_sibling rd k x (suc u) i w r b.has e).row.0

          deep : depth rd w ≡ depth rd x → ⊥
          deep d = omega (arith, corner_deep rd k x (suc u) i w r b.has e)

          up : parent rd w ≡ x + u
          up = (corner_sibling rd k x (suc u) i w r b.has e).up ∙ parent_level rd k x u r (some_level (suc u) g (omega (arith, b.has)))

          go : Dec (right_sibling rd w ≡ 0) → (s : Bool) → test (x + u) t ≡ s → BestRow Fit (cons t f nil) g (close_row test rd x t w)
          go (yes n) true s =
              rw (close_raise test rd x t w one deep n (rw up s), up) (raised (suc i) u b (last_full rd k x (suc u) i w r b.has e n) s)
          go (yes n) false s = rw (close_other test rd x t w one deep n (rw up s)) (kept (suc i) (suc u) w b e (λ y m c. other u s y m))
          go (no n) s c =
              rw (close_wide test rd x t w one deep n) (kept (suc i) (suc u) w b e (λ y m a d. n (full_last rd k x (suc u) i w r b.has e a)))

    -- join the trees of h to those of f
    module _ (f h : Forest ℕ) where
      -- nothing so far: the tree's corner
      join_none : (v j u a b w : ℕ) → a ≡ 0 → Best Fit f g 0 v → Best Fit h g j u → b ≡ root_at j (spine u g) → BestRow Fit (beside f h) g (join_row rd a b w)
      join_none v j u a b w z k l m = rw (join_empty rd a b w z) (go (dec_lt u v))
        where
          go : Dec (u < v) → BestRow Fit (beside f h) g b
          go (yes o) = record { width = j; level = u; best = best_higher Fit k l o; row = m }
          go (no o) =
              let c = k.empty refl in
              let n : Best Fit h (spine v g) 0 0 = rw (level_none g v (omega arith)) (best_none Fit h) in
              let j0 : j ≡ 0 = omega (arith, l.has, ap roots (level_none g u (omega arith))) in
              record {
                width = 0 + 0;
                level = v;
                best = best_wider Fit k l (omega arith) n refl;
                row = m ∙ ap (λ (i : ℕ). root_at i (spine u g)) j0;
              }

      -- a corner of row a so far
      module _ (i v a : ℕ) (best-a : Best Fit f g (suc i) v) (e : a ≡ root_at (suc i) (spine v g)) where
        row_a : Row rd a
        row_a = (corner_sibling rd k x v i a r best-a.has e).row

        deep_a : depth rd a ≡ depth rd x + v
        deep_a = corner_deep rd k x v i a r best-a.has e

        rest : other_trees (suc i) (spine v g) ≡ from_row rd (right_sibling rd a)
        rest = corner_rest rd k x v i a r best-a.has e

        beyond : (n y : ℕ) → Best Fit h (from_row rd (right_sibling rd a)) n y → Best Fit h (other_trees (suc i) (spine v g)) n y
        beyond n y c = rw rest c

        -- the tree's corner is no higher: it goes on at a's right sibling, or not
        join_on : (j u b n y w : ℕ) → v ≤ u → Best Fit h g j u → (1 ≤ b → depth rd a ≤ depth rd b) → Best Fit h (from_row rd (right_sibling rd a)) n y
            → w ≡ root_at n (spine y (from_row rd (right_sibling rd a))) → BestRow Fit (beside f h) g (join_row rd a b w)
        join_on j u b n y w o l low c m = go n y c m (standing_of rd k (right_sibling rd a) n y w (right_fits rd a) c.has m)
          where
            same : (y : ℕ) → Best Fit h (from_row rd (right_sibling rd a)) 0 y → Best Fit (beside f h) g (suc i) v
            same zero c = let s : suc i + 0 ≡ suc i = omega arith in rw s at (best_wider Fit best-a l o (beyond 0 0 c) refl)
            same (suc y) c = best_stays Fit best-a l o (beyond 0 (suc y) c) (omega arith)

            go : (n y : ℕ) → Best Fit h (from_row rd (right_sibling rd a)) n y → w ≡ root_at n (spine y (from_row rd (right_sibling rd a)))
                → Standing rd (right_sibling rd a) n y w → BestRow Fit (beside f h) g (join_row rd a b w)
            go zero y c m s =
                rw (join_kept rd a b w row_a.0 low (λ p. absurd (omega arith))) (record { width = suc i; level = v; best = same y c; row = e })
            go (suc n) y c m (empty z d) = absurd (omega arith)
            go (suc n) zero c m (at_row p q s d) =
                rw (join_wider rd a b w row_a.0 low s.0 (omega (arith, right_deep rd a row_a q.0)))
                (record {
                  width = suc i + suc n;
                  level = v;
                  best = best_wider Fit best-a l o (beyond (suc n) 0 c) refl;
                  row = m ∙ ap (root_at (suc n)) (sym rest) ∙ root_other (suc i) n (spine v g);
                })
            go (suc n) (suc y) c m (at_row p q s d) =
                rw (join_kept rd a b w row_a.0 low (λ p z. omega (arith, right_deep rd a row_a q.0)))
                (record { width = suc i; level = v; best = best_stays Fit best-a l o (beyond (suc n) (suc y) c) (omega arith); row = e })

        join_some : (j u b n y w : ℕ) → Best Fit h g j u → b ≡ root_at j (spine u g) → Best Fit h (from_row rd (right_sibling rd a)) n y
            → w ≡ root_at n (spine y (from_row rd (right_sibling rd a))) → BestRow Fit (beside f h) g (join_row rd a b w)
        join_some j u b n y w l p c m = go (dec_lt u v) (standing_of rd k x j u b r.1 l.has p)
          where
            go : Dec (u < v) → Standing rd x j u b → BestRow Fit (beside f h) g (join_row rd a b w)
            go (yes o) (empty z d) = absurd (omega (arith, l.empty z, best-a.low))
            go (yes o) (at_row one s q d) =
                rw (join_higher rd a b w row_a.0 q.0 (omega (arith, deep_a)))
                (record { width = j; level = u; best = best_higher Fit best-a l o; row = p })
            go (no o) (empty z d) = join_on j u b n y w (omega arith) l (λ one. absurd (omega arith)) c m
            go (no o) (at_row one s q d) = join_on j u b n y w (omega arith) l (λ s. omega (arith, deep_a)) c m

    row_close : (f : Forest ℕ) (t w : ℕ) → BestRow Fit f g w → BestRow Fit (cons t f nil) g (close_row test rd x t w)
    row_close f t w b = close_row_lem f t b.width b.level w b.best b.row

    row_join : (f h : Forest ℕ) (a b w : ℕ) → BestRow Fit f g a → BestRow Fit h g b → BestRow Fit h (from_row rd (right_sibling rd a)) w
        → BestRow Fit (beside f h) g (join_row rd a b w)
    row_join f h a b w p q s = go p.width p.best p.row
      where
        go : (i : ℕ) → Best Fit f g i p.level → a ≡ root_at i (spine p.level g) → BestRow Fit (beside f h) g (join_row rd a b w)
        go zero c e = join_none f h p.level q.width q.level a b w e c q.best q.row
        go (suc i) c e = join_some f h i p.level a c e q.width q.level b s.width s.level w q.best q.row s.best s.row

  corners_best : (f : Forest ℕ) (x : ℕ) → x ≤ length rd → BestRow Fit f (from_row rd x) (corners test rd f x)
  corners_best nil x h = record { width = 0; level = levels (from_row rd x); best = best_nothing Fit (from_row rd x); row = refl }
  corners_best (cons t f r) zero h = rw (corners_zero test rd (cons t f r)) (record { width = 0; level = 0; best = best_none Fit (cons t f r); row = refl })
  corners_best (cons t f r) (suc z) h =
      let x : Row rd (suc z) = omega arith in
      let w = corners test rd f (suc z) in
      let a = close_row test rd (suc z) t (corners test rd f (suc z)) in
      row_join (suc z) x (cons t f nil) r a (corners test rd r (suc z)) (corners test rd r (right_sibling rd a))
      (row_close (suc z) x f t w (corners_best f (suc z) h)) (corners_best r (suc z) h) (corners_best r (right_sibling rd a) (right_fits rd a))

  -- `corner_at` is the row of the best corner
  pub corner_best : (f : Forest ℕ) (x : ℕ) → x ≤ length rd → BestRow Fit f (from_row rd x) (corner_at test rd f x)
  corner_best f x h = rw (corners_at test rd f x) at (corners_best f x h)

-- the three laws: nothing, close, join
pub corner_nothing : (test : ℕ → ℕ → Bool) (rd : List ℕ) (x : ℕ) → corner_at test rd nil x ≡ 0
corner_nothing test rd zero = refl
corner_nothing test rd (suc z) = refl

module _ (test : ℕ → ℕ → Bool) (rd : List ℕ) (k : Outline rd) where
  abbrev Fits : ℕ → ℕ → Type 0
  Fits v t = test v t ≡ true

  found : (f : Forest ℕ) (x : ℕ) → x ≤ length rd → BestRow Fits f (from_row rd x) (corner_at test rd f x)
  found = corner_best Fits test (λ v t. Iff.rfl) rd k

  pub corner_close : (x t : ℕ) (f : Forest ℕ) → Row rd x → corner_at test rd (cons t f nil) x ≡ close_row test rd x t (corner_at test rd f x)
  corner_close x t f r =
      one_row (found (cons t f nil) x r.1) (row_close Fits test (λ v t. Iff.rfl) rd k x r f t (corner_at test rd f x) (found f x r.1))

  -- a row that fits no recipe row closes as if it were not there
  pub corner_unfit : (x t : ℕ) (f : Forest ℕ) → Row rd x → ((v : ℕ) → Row rd v → test v t ≡ true → ⊥) → corner_at test rd (cons t f nil) x ≡ corner_at test rd f x
  corner_unfit x t f r unfit =
      let b = found f x r.1 in
      one_row (found (cons t f nil) x r.1)
      (kept Fits test (λ v t. Iff.rfl) rd k x r f t b.width b.level (corner_at test rd f x) b.best b.row
      (λ u e w s. unfit (x + u) (level_of rd k u x r (omega (arith, b.best.low))).row s))

  pub corner_join : (x : ℕ) (f h : Forest ℕ) → Row rd x
      → corner_at test rd (beside f h) x ≡ join_row rd (corner_at test rd f x) (corner_at test rd h x) (corner_at test rd h (right_sibling rd (corner_at test rd f x)))
  corner_join x f h r =
      let a = corner_at test rd f x in
      one_row (found (beside f h) x r.1)
      (row_join Fits test (λ v t. Iff.rfl) rd k x r f h a (corner_at test rd h x) (corner_at test rd h (right_sibling rd a)) (found f x r.1) (found h x r.1)
      (found h (right_sibling rd a) (right_fits rd a)))

  -- a corner is 0 or a row, and no deeper than the left-most leaf, which stands on the last level
  pub corner_on : (f : Forest ℕ) (x : ℕ) → x ≤ length rd → OnChain rd x (corner_at test rd f x)
  corner_on f x h = let b = found f x h in go (standing_of rd k x _ _ _ h b.best.has b.row)
    where
      leaf : (n : ℕ) → Row rd x → levels (from_row rd x) ≡ suc n → depth rd (left_leaf rd x) ≡ depth rd x + n
      leaf n r e = let s : left_leaf rd x ≡ x + n = omega (arith, leaf_level rd k x r) in ap (depth rd) s ∙ (level_of rd k n x r (omega arith)).deep

      go : Standing rd x (found f x h).width (found f x h).level (corner_at test rd f x) → OnChain rd x (corner_at test rd f x)
      go (empty i w) = record { asks = h; row = omega arith; low = λ o. absurd (omega arith) }
      go (at_row i s q d) =
          let v = some_level (found f x h).level (from_row rd x) (omega (arith, (found f x h).best.has)) in
          record { asks = h; row = q.1; low = λ o. omega (arith, leaf (levels (from_row rd x) - 1) s (omega arith)) }

  pub corner_fits : (f : Forest ℕ) (x : ℕ) → x ≤ length rd → corner_at test rd f x ≤ length rd
  corner_fits f x h = (corner_on f x h).row
