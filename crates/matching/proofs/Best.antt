-- The highest and widest left corner of a pattern that lies in a forest: there is one, and it follows from the corners of the
-- forest's parts. Assumes nothing.
use mathlib.Core.Path.{◌≡◌, refl, sym, ap}
use Prim.Native.Nat.{ℕ, zero, suc, ◌+◌, ◌-◌, ◌≤◌, ◌<◌}
use native.Mathlib.Omega.{arith}
use native.Mathlib.Decide.{dec_lt, dec_le}
use Rattle.rows.specs.Forest.{Forest, nil, cons, beside}
use Rattle.rows.specs.Embedding.{LiesIn, done, pair, skip}
use Rattle.matching.proofs.Lies.{roots, lies_left, lies_right, lies_beside, greedy, InTree, inside, root, in_tree}
use Rattle.matching.proofs.Cut.{root_at, first_trees, other_trees, spine, levels, first_all, first_other, roots_first, roots_other, front, level_some, level_none, some_level, spine_suc}

module _ (fit : ℕ → ℕ → Type 0) where
  -- of the corners of g, the first i trees of a level v: this one lies in f, no other that does is higher, and none on its level
  -- is wider; the empty one stands past the last level
  pub record Best (f g : Forest ℕ) (i v : ℕ) : Type 0 where
    pub low : v ≤ levels g
    pub has : i ≤ roots (spine v g)
    pub empty : i ≡ 0 → v ≡ levels g
    pub lies : LiesIn fit (first_trees i (spine v g)) f
    pub most : (j x : ℕ) → 1 ≤ j → j ≤ roots (spine x g) → LiesIn fit (first_trees j (spine x g)) f → (v ≤ x) × (x ≡ v → j ≤ i)

  pub best_unique : {f g : Forest ℕ} {i v j u : ℕ} → Best f g i v → Best f g j u → (i ≡ j) × (v ≡ u)
  best_unique {f} {g} {i} {v} {j} {u} k l =
      let x = half i v j u k l (dec_le 1 i) in
      let y = half j u i v l k (dec_le 1 j) in
      (omega (arith, x.1 (omega arith), y.1 (omega arith)), omega arith)
    where
      half : (i v j u : ℕ) → Best f g i v → Best f g j u → Dec (1 ≤ i) → (u ≤ v) × (v ≡ u → i ≤ j)
      half i v j u k l (yes o) = l.most i v o k.has k.lies
      half i v j u k l (no o) = (omega (arith, k.empty (omega arith), l.low), λ e. omega arith)

  -- in nothing only the empty corner lies
  pub best_nothing : (g : Forest ℕ) → Best nil g 0 (levels g)
  best_nothing g =
      record {
        low = omega arith;
        has = omega arith;
        empty = λ e. refl;
        lies = done;
        most = λ j x one h i. absurd (omega (arith, roots_first j (spine x g) h, ap roots (none i)));
      }
    where
      none : {p : Forest ℕ} → LiesIn fit p nil → p ≡ nil
      none done = refl

  -- and nothing has only the empty corner
  pub best_none : (f : Forest ℕ) → Best f nil 0 0
  best_none f =
      record {
        low = omega arith;
        has = omega arith;
        empty = λ e. refl;
        lies = done;
        most = λ j x one h i. absurd (omega (arith, ap roots (level_none {A = ℕ} nil x (omega arith))));
      }

  -- a tree t over f
  module _ {f g : Forest ℕ} {i v : ℕ} (k : Best f g i v) (t : ℕ) where
    -- the corner (j, x) lies in f, or is one tree whose root fits t and whose children lie in f
    data Way (j x : ℕ) : Type 0 where
      under : LiesIn fit (first_trees j (spine x g)) f → Way j x
      over : j ≡ 1 → fit (root_at 1 (spine x g)) t → LiesIn fit (spine (suc x) g) f → Way j x

    way : (j x : ℕ) → 1 ≤ j → j ≤ roots (spine x g) → LiesIn fit (first_trees j (spine x g)) (cons t f nil) → Way j x
    way j x one h l = go (in_tree fit t f (first_trees j (spine x g)) (rw (roots_first j (spine x g) h) one) l)
      where
        only : (j : ℕ) (s : Forest ℕ) (a : ℕ) (q : Forest ℕ) → j ≤ roots s → first_trees j s ≡ cons a q nil → (j ≡ 1) × (a ≡ root_at 1 s) × (q ≡ spine 1 s)
        only zero s a q h e = let z : ◌≡◌ {A = ℕ} 0 1 = cc in absurd (omega arith)
        only (suc j) nil a q h e = absurd (omega arith)
        only (suc j) (cons b p r) a q h e = (omega (arith, roots_first j r (omega arith), ap roots e), cc, cc)

        go : InTree fit t f (first_trees j (spine x g)) → Way j x
        go (inside l) = under l
        go (root a q e k l) = let o = only j (spine x g) a q h e in over o.0 (rw o.1 at k) (rw (spine_suc x g) (rw o.2 at l))

    -- where all trees of a level lie in f, the best corner is no lower, and on this level it has them all
    near : (x : ℕ) → LiesIn fit (spine x g) f → (v ≤ x) × (x ≡ v → i ≡ roots (spine v g))
    near x l = go (dec_le 1 (roots (spine x g)))
      where
        go : Dec (1 ≤ roots (spine x g)) → (v ≤ x) × (x ≡ v → i ≡ roots (spine v g))
        go (yes u) =
            let r = k.most (roots (spine x g)) x u (omega arith) (rw first_all l) in
            (r.0, λ s. omega (arith, r.1 s, k.has, ap (λ (y : ℕ). roots (spine y g)) s))
        go (no u) = (low (dec_lt x (levels g)), λ s. omega (arith, k.has, ap (λ (y : ℕ). roots (spine y g)) s))
          where
            low : Dec (x < levels g) → v ≤ x
            low (yes o) = absurd (omega (arith, level_some x g o))
            low (no o) = omega (arith, k.low)

    pub best_kept : ((x : ℕ) → suc x ≡ v → i ≡ roots (spine v g) → fit (root_at 1 (spine x g)) t → ⊥) → Best (cons t f nil) g i v
    best_kept not =
        record {
          low = k.low;
          has = k.has;
          empty = k.empty;
          lies = skip (lies_right fit nil k.lies);
          most = λ j x one h l. go j x one h (way j x one h l);
        }
      where
        some : 1 ≤ roots (spine v g) → Dec (1 ≤ i) → 1 ≤ i
        some o (yes u) = u
        some o (no u) = absurd (omega (arith, k.empty (omega arith), some_level v g o))

        up : (x : ℕ) → v ≤ suc x → (suc x ≡ v → ⊥) → Dec (v ≤ x) → v ≤ x
        up x h n (yes u) = u
        up x h n (no u) = absurd (n (omega arith))

        go : (j x : ℕ) → 1 ≤ j → j ≤ roots (spine x g) → Way j x → (v ≤ x) × (x ≡ v → j ≤ i)
        go j x one h (under l) = k.most j x one h l
        go j x one h (over s c l) =
            let n = near (suc x) l in (
              up x n.0 (λ e. not x e (n.1 e) c) (dec_le v x),
              λ e. omega (arith, some (omega (arith, ap (λ (y : ℕ). roots (spine y g)) e)) (dec_le 1 i)),
            )

    pub best_raised : (u : ℕ) → v ≡ suc u → i ≡ roots (spine v g) → fit (root_at 1 (spine u g)) t → Best (cons t f nil) g 1 u
    best_raised u s e c =
        let o : 1 ≤ roots (spine u g) = level_some u g (omega (arith, k.low)) in
        let l : LiesIn fit (spine (suc u) g) f = rw (e, first_all, s) at k.lies in
        record {
          low = omega (arith, k.low);
          has = o;
          empty = λ n. absurd (omega arith);
          lies = one_tree (spine u g) o c (rw (spine_suc u g) at l);
          most = λ j x one h l. go j x one h (way j x one h l);
        }
      where
        one_tree : (s : Forest ℕ) → 1 ≤ roots s → fit (root_at 1 s) t → LiesIn fit (spine 1 s) f → LiesIn fit (first_trees 1 s) (cons t f nil)
        one_tree nil o c l = absurd (omega arith)
        one_tree (cons a p q) o c l = pair c l done

        go : (j x : ℕ) → 1 ≤ j → j ≤ roots (spine x g) → Way j x → (u ≤ x) × (x ≡ u → j ≤ 1)
        go j x one h (under l) = let r = (k.most j x one h l).0 in (omega arith, λ n. absurd (omega arith))
        go j x one h (over m c l) = (omega (arith, (near (suc x) l).0), λ n. omega arith)

  -- f and h side by side: the corner of f is (i, v), that of h is (j, u), and that of h among the trees beside f's corner is (n, y)
  module _ {f h g : Forest ℕ} {i v j u : ℕ} (k : Best f g i v) (l : Best h g j u) where
    abbrev rest : Forest ℕ
    rest = other_trees i (spine v g)

    room : (m x : ℕ) (p q : Forest ℕ) → m ≤ roots (spine x g) → first_trees m (spine x g) ≡ beside p q → LiesIn fit p f → 1 ≤ roots p
        → (v ≤ x) × (x ≡ v → roots p ≤ i)
    room m x p q fits s a one = let r = front p q m (spine x g) s in k.most (roots p) x one (omega arith) (rw r.0 a)

    -- a corner above f's lies in h alone
    above : (m x : ℕ) → m ≤ roots (spine x g) → x < v → LiesIn fit (first_trees m (spine x g)) (beside f h) → LiesIn fit (first_trees m (spine x g)) h
    above m x fits o a = greedy fit nil (first_trees m (spine x g)) f h none a
      where
        none : (p q : Forest ℕ) → first_trees m (spine x g) ≡ beside p q → LiesIn fit p f → roots p ≤ 0
        none nil q s c = omega arith
        none (cons b p r) q s c = let z = room m x (cons b p r) q fits s c (omega arith) in absurd (omega arith)

    -- one on its level that is wider goes on in h
    beyond : (m : ℕ) → i < m → m ≤ roots (spine v g) → LiesIn fit (first_trees m (spine v g)) (beside f h) → LiesIn fit (first_trees (m - i) rest) h
    beyond m wide fits a =
        let all : i + (m - i) ≡ m = omega arith in
        greedy fit (first_trees i (spine v g)) (first_trees (m - i) rest) f h (less all) (rw (first_other, all) a)
      where
        less : i + (m - i) ≡ m → (p q : Forest ℕ) → beside (first_trees i (spine v g)) (first_trees (m - i) rest) ≡ beside p q → LiesIn fit p f
            → roots p ≤ roots (first_trees i (spine v g))
        less all nil q s c = omega arith
        less all (cons b p r) q s c =
            rw (roots_first i (spine v g) k.has) ((room m v (cons b p r) q fits (rw (first_other, all) at s) c (omega arith)).1 refl)

    pub best_higher : u < v → Best (beside f h) g j u
    best_higher o =
        record { low = l.low; has = l.has; empty = l.empty; lies = lies_left fit f l.lies; most = λ m x one fits a. go m x one fits a (dec_lt x v) }
      where
        go : (m x : ℕ) → 1 ≤ m → m ≤ roots (spine x g) → LiesIn fit (first_trees m (spine x g)) (beside f h) → Dec (x < v) → (u ≤ x) × (x ≡ u → m ≤ j)
        go m x one fits a (yes c) = l.most m x one fits (above m x fits c a)
        go m x one fits a (no c) = (omega arith, λ s. absurd (omega arith))

    module _ {n y : ℕ} (o : v ≤ u) (r : Best h rest n y) where
      -- the best corner stays on f's level, and is as wide as the rest allows
      level : (w : ℕ) → i ≤ w → ((m : ℕ) → y ≤ 0 → (0 ≡ y → m ≤ n) → i + m ≤ w)
          → (m x : ℕ) → 1 ≤ m → m ≤ roots (spine x g) → LiesIn fit (first_trees m (spine x g)) (beside f h) → (v ≤ x) × (x ≡ v → m ≤ w)
      level w less more m x one fits a = (high (dec_lt x v), λ s. wide s (dec_lt i m))
        where
          high : Dec (x < v) → v ≤ x
          high (yes c) = absurd (omega (arith, (l.most m x one fits (above m x fits c a)).0))
          high (no c) = omega arith

          wide : x ≡ v → Dec (i < m) → m ≤ w
          wide s (yes c) =
              let b = r.most (m - i) 0 (omega arith) (omega (arith, roots_other i (spine v g), ap (λ (z : ℕ). roots (spine z g)) s))
              (beyond m c (rw s at fits) (rw s at a)) in
              omega (arith, more (m - i) b.0 b.1)
          wide s (no c) = omega arith

      pub best_wider : y ≡ 0 → Best (beside f h) g (i + n) v
      best_wider z =
          record {
            low = k.low;
            has = omega (arith, k.has, roots_other i (spine v g), rw z at r.has);
            empty = λ s. k.empty (omega arith);
            lies = rw (← first_other) (lies_beside fit k.lies (rw z at r.lies));
            most = level (i + n) (omega arith) (λ m a b. omega (arith, b (sym z)));
          }

      pub best_stays : 1 ≤ y → Best (beside f h) g i v
      best_stays z =
          record {
            low = k.low;
            has = k.has;
            empty = k.empty;
            lies = lies_right fit h k.lies;
            most = level i (omega arith) (λ m a b. absurd (omega arith));
          }
