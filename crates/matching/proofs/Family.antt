-- The parent and the left sibling, found by depths alone, stand where opening and closing numbers say. Assumes nothing.
use mathlib.Core.Path.{◌≡◌, refl, sym, ap, ◌∙◌}
use mathlib.Core.Bool.{Bool, true, false}
use mathlib.Core.List.{List}
use Prim.Native.Nat.{ℕ, zero, suc, ◌+◌, ◌-◌, ◌≤◌, ◌<◌}
use native.Mathlib.Omega.{arith}
use native.Mathlib.Decide.{dec_lt, dec_le, ℕ_discrete}
use lib.Dec.{eqb}
use lib.ListN.{length}
use borrow.Author.Tests.{lt-ltb, le-ltb, eq-eqb, ne_eqb}
use Rattle.rows.specs.Rows.{Row, depth, Outline, last_row, closing, Ancestor, LeftOf}
use Rattle.rows.proofs.Depths.{inside_deeper, after_shallow, deeper_inside, inside_ends}
use Rattle.rows.proofs.Order.{Compared, less, same, more, compared, Later, in_tree, past_tree, later, window, behind_window}
use Rattle.matching.specs.Family.{last_shallower, parent, left_sibling}

-- the branches of last_shallower
shallower_here : (ds : List ℕ) (d n : ℕ) → depth ds (suc n) < d → last_shallower ds d (suc n) ≡ suc n
shallower_here ds d n h = rw (lt-ltb (depth ds (suc n)) d h, last_shallower)

shallower_before : (ds : List ℕ) (d n : ℕ) → d ≤ depth ds (suc n) → last_shallower ds d (suc n) ≡ last_shallower ds d n
shallower_before ds d n h = rw (le-ltb (depth ds (suc n)) d h, last_shallower)

-- row u is the last of the rows 1 to n that is shallower than d, 0 where none is
data Last (ds : List ℕ) (d n u : ℕ) : Type 0 where
  none : u ≡ 0 → ((x : ℕ) → 1 ≤ x → x ≤ n → d ≤ depth ds x) → Last ds d n u
  some : 1 ≤ u → u ≤ n → depth ds u < d → ((x : ℕ) → u < x → x ≤ n → d ≤ depth ds x) → Last ds d n u

last : (ds : List ℕ) (d n : ℕ) → Last ds d n (last_shallower ds d n)
last ds d zero = none refl (λ x a b. absurd (omega arith))
last ds d (suc n) = go (dec_lt (depth ds (suc n)) d) (last ds d n)
  where
    on : d ≤ depth ds (suc n) → (x : ℕ) → x ≤ suc n → (x ≤ n → d ≤ depth ds x) → Dec (x ≤ n) → d ≤ depth ds x
    on h x b f (yes i) = f i
    on h x b f (no i) = let e : x ≡ suc n = omega arith in rw e h

    go : Dec (depth ds (suc n) < d) → Last ds d n (last_shallower ds d n) → Last ds d (suc n) (last_shallower ds d (suc n))
    go (yes h) l = rw (shallower_here ds d n h) (some (omega arith) (omega arith) h (λ x a b. absurd (omega arith)))
    go (no h) (none e f) =
        rw (shallower_before ds d n (omega arith)) (none e (λ x a b. on (omega arith) x b (f x a) (dec_le x n)))
    go (no h) (some a b l f) =
        rw (shallower_before ds d n (omega arith)) (some a (omega arith) l (λ x i j. on (omega arith) x j (f x i) (dec_le x n)))

last_before : (ds : List ℕ) (d n m : ℕ) → ((x : ℕ) → n < x → x ≤ n + m → d ≤ depth ds x) → last_shallower ds d (n + m) ≡ last_shallower ds d n
last_before ds d n zero f = let e : n + 0 ≡ n = omega arith in rw e
last_before ds d n (suc m) f =
    let e : n + suc m ≡ suc (n + m) = omega arith in
    rw e (shallower_before ds d (n + m) (f (suc (n + m)) (omega arith) (omega arith)) ∙ last_before ds d n m (λ x a b. f x a (omega arith)))

-- both stand before the row
last_most : (ds : List ℕ) (d n : ℕ) → last_shallower ds d n ≤ n
last_most ds d n = go (last ds d n)
  where
    go : Last ds d n (last_shallower ds d n) → last_shallower ds d n ≤ n
    go (none e f) = omega arith
    go (some a b l f) = b

pub parent_before : (ds : List ℕ) (v : ℕ) → 1 ≤ v → parent ds v < v
parent_before ds zero a = absurd (omega arith)
parent_before ds (suc i) a = omega (arith, last_most ds (depth ds (suc i)) i)

pub left_before : (ds : List ℕ) (v : ℕ) → 1 ≤ v → left_sibling ds v < v
left_before ds zero a = absurd (omega arith)
left_before ds (suc i) a = go (eqb (depth ds s) (depth ds (suc i)))
  where
    s : ℕ
    s = last_shallower ds (suc (depth ds (suc i))) i

    go : (t : Bool) → elim t [ true ↦ s | false ↦ 0 ] < suc i
    go true = omega (arith, last_most ds (suc (depth ds (suc i))) i)
    go false = omega arith

-- p is the parent of v: the nearest of its ancestors (the others open before p and so are p's ancestors), and one less deep
pub record Parent (ds : List ℕ) (p v : ℕ) : Type 0 where
  pub above : Ancestor ds p v
  pub nearest : (u : ℕ) → Ancestor ds u v → u ≤ p
  pub step : depth ds v ≡ suc (depth ds p)

-- s is the left sibling of v: it has v's parent, v stands behind its tree, and what is left of v closes no later than s
pub record LeftSibling (ds : List ℕ) (s v : ℕ) : Type 0 where
  pub left : LeftOf ds s v
  pub alike : parent ds s ≡ parent ds v
  pub level : depth ds s ≡ depth ds v
  pub next : suc (last_row ds s) ≡ v
  pub last : (u : ℕ) → LeftOf ds u v → closing ds u ≤ closing ds s

-- a row is a root, or has a parent
pub data ParentView (ds : List ℕ) (v : ℕ) : Type 0 where
  root : parent ds v ≡ 0 → depth ds v ≡ 0 → ((u : ℕ) → Ancestor ds u v → ⊥) → ParentView ds v
  child : Parent ds (parent ds v) v → ParentView ds v

-- a row is its parent's first child (row 1 is that of row 0), and what is left of it is left of its parent; or it has a left sibling
pub data LeftView (ds : List ℕ) (v : ℕ) : Type 0 where
  first : left_sibling ds v ≡ 0 → suc (parent ds v) ≡ v → ((u : ℕ) → LeftOf ds u v → LeftOf ds u (parent ds v)) → LeftView ds v
  next : LeftSibling ds (left_sibling ds v) v → LeftView ds v

module _ (ds : List ℕ) (k : Outline ds) where
  -- an ancestor is shallower
  over_shallow : (u v : ℕ) → Row ds v → Ancestor ds u v → depth ds u < depth ds v
  over_shallow u v r a =
      let w = (window ds k u v (omega arith) r).0 a in inside_deeper ds u v a.0 a.1 w.1

  -- a row behind which all rows up to v are deeper is an ancestor of v
  deep_over : (u v : ℕ) → 1 ≤ u → u < v → v ≤ length ds → ((x : ℕ) → u < x → x ≤ v → depth ds u < depth ds x) → Ancestor ds u v
  deep_over u v a o h f = (window ds k u v (omega arith) (omega arith)).1 (o, deeper_inside ds u v (omega arith) (omega arith) h f)

  parent_at : (i p : ℕ) → i < length ds → last_shallower ds (depth ds (suc i)) i ≡ p → Last ds (depth ds (suc i)) i p → ParentView ds (suc i)
  parent_at i p h e (none z f) = root (e ∙ z) (flat (dec_le 1 i)) (λ u a. omega (arith, f u a.0 (omega arith), over_shallow u (suc i) (omega arith) a))
    where
      flat : Dec (1 ≤ i) → depth ds (suc i) ≡ 0
      flat (yes o) = omega (arith, f 1 (omega arith) o, k.first (omega arith))
      flat (no o) = let z : i ≡ 0 = omega arith in rw z (k.first (omega arith))
  parent_at i p h e (some a b l f) =
      child (rw e (record {
        above = deep_over p (suc i) a (omega arith) h (λ x o j. deep x o (dec_le x i) j);
        nearest = λ u c. near u c (dec_le u p);
        step = omega (arith, k.step p (omega arith) (omega arith), low (dec_le (suc p) i));
      }))
    where
      deep : (x : ℕ) → p < x → Dec (x ≤ i) → x ≤ suc i → depth ds p < depth ds x
      deep x o (yes j) m = omega (arith, f x o j)
      deep x o (no j) m = let z : x ≡ suc i = omega arith in rw z l

      near : (u : ℕ) → Ancestor ds u (suc i) → Dec (u ≤ p) → u ≤ p
      near u c (yes j) = j
      near u c (no j) = absurd (omega (arith, f u (omega arith) (omega arith), over_shallow u (suc i) (omega arith) c))

      low : Dec (suc p ≤ i) → depth ds (suc i) ≤ depth ds (suc p)
      low (yes j) = f (suc p) (omega arith) j
      low (no j) = let z : p ≡ i = omega arith in rw z (omega arith)

  pub parent_view : (v : ℕ) → Row ds v → ParentView ds v
  parent_view zero r = absurd (omega arith)
  parent_view (suc i) r = parent_at i (parent ds (suc i)) (omega arith) refl (last ds (depth ds (suc i)) i)

  -- the left sibling by its place: no deeper than v, and all between it and v is deeper
  module _ (i s : ℕ) (h : i < length ds) (a : 1 ≤ s) (b : s ≤ i) (f : (x : ℕ) → s < x → x ≤ i → depth ds (suc i) < depth ds x) where
    is_sibling : depth ds s ≡ depth ds (suc i) → LeftSibling ds s (suc i)
    is_sibling e =
        record {
          left = (behind_window ds k s (suc i) (omega arith) (omega arith)).1 (omega (arith, ends));
          alike = same_parent s a b e f;
          level = e;
          next = ap suc ends;
          last = λ u l. early u l (compared u s);
        }
      where
        short : Dec (last_row ds s ≤ i) → last_row ds s ≤ i
        short (yes o) = o
        short (no o) = absurd (omega (arith, inside_deeper ds s (suc i) a (omega arith) (omega arith)))

        ends : last_row ds s ≡ i
        ends =
            omega (arith, short (dec_le (last_row ds s) i), deeper_inside ds s i (omega arith) b (omega arith) (λ x o j. omega (arith, f x o j)))

        same_parent : (s : ℕ) → 1 ≤ s → s ≤ i → depth ds s ≡ depth ds (suc i) → ((x : ℕ) → s < x → x ≤ i → depth ds (suc i) < depth ds x)
            → parent ds s ≡ parent ds (suc i)
        same_parent zero a b e f = absurd (omega arith)
        same_parent (suc j) a b e f =
            let z : j + (i - j) ≡ i = omega arith in
            ap (λ (d : ℕ). last_shallower ds d j) e ∙ sym (rw z at (last_before ds (depth ds (suc i)) j (i - j) (λ x o m. from x o (omega arith) (dec_le x (suc j)))))
          where
            from : (x : ℕ) → j < x → x ≤ i → Dec (x ≤ suc j) → depth ds (suc i) ≤ depth ds x
            from x o m (yes n) = let z : x ≡ suc j = omega arith in rw z (omega arith)
            from x o m (no n) = omega (arith, f x (omega arith) m)

        early : (u : ℕ) → LeftOf ds u (suc i) → Compared u s → closing ds u ≤ closing ds s
        early u l (same o) = rw o (omega arith)
        early u l (more o) = omega (arith, (window ds k s u (omega arith) (omega arith)).1 (o, omega (arith, ends)))
        early u l (less o) = go (later ds k u s (omega arith) (omega arith) o)
          where
            go : Later ds k u s → closing ds u ≤ closing ds s
            go (past_tree c) = omega arith
            go (in_tree c) =
                let w = (window ds k u s (omega arith) (omega arith)).0 c in
                let y = (behind_window ds k u (suc i) (omega arith) (omega arith)).0 l in
                let z : last_row ds u ≡ i = omega (arith, ends, inside_ends ds u s (omega arith) (omega arith) w.1) in
                absurd (omega (arith, over_shallow u s (omega arith) c, rw z at (after_shallow ds u (omega arith))))

    -- a shallower row is the parent, right before v
    is_parent : depth ds s < depth ds (suc i) → s ≡ i
    is_parent e = go (dec_le (suc s) i)
      where
        go : Dec (suc s ≤ i) → s ≡ i
        go (yes o) = absurd (omega (arith, f (suc s) (omega arith) o, k.step s (omega arith) (omega arith)))
        go (no o) = omega arith

  first_left : (i : ℕ) → 1 ≤ i → i < length ds → depth ds i < depth ds (suc i) → (u : ℕ) → LeftOf ds u (suc i) → LeftOf ds u i
  first_left i a h e u l = go (compared u i)
    where
      o : last_row ds u < suc i
      o = (behind_window ds k u (suc i) (omega arith) (omega arith)).0 l

      up : Ancestor ds i (suc i)
      up = deep_over i (suc i) a (omega arith) h (λ x c j. let z : x ≡ suc i = omega arith in rw z e)

      ends : u < i → Dec (last_row ds u < i) → last_row ds u < i
      ends c (yes j) = j
      ends c (no j) =
          let z : last_row ds u ≡ i = omega (arith, o) in
          absurd (omega (arith, inside_deeper ds u i l.0 c (omega arith), rw z at (after_shallow ds u (omega arith))))

      go : Compared u i → LeftOf ds u i
      go (less c) = (behind_window ds k u i (omega arith) (omega arith)).1 (ends c (dec_lt (last_row ds u) i))
      go (same c) = absurd (omega (arith, up, ap (closing ds) c))
      go (more c) = absurd (omega arith)

  left_at : (i s : ℕ) → i < length ds → last_shallower ds (suc (depth ds (suc i))) i ≡ s → Last ds (suc (depth ds (suc i))) i s → LeftView ds (suc i)
  left_at i s h e (none z f) = go (dec_le 1 i)
    where
      go : Dec (1 ≤ i) → LeftView ds (suc i)
      go (yes o) = absurd (omega (arith, f 1 (omega arith) o, k.first (omega arith)))
      go (no o) = let y : i ≡ 0 = omega arith in rw y alone
        where
          alone : LeftView ds 1
          alone = first (rw (eq-eqb 0 (depth ds 1) (sym (k.first (omega arith))), left_sibling)) refl (λ u l. absurd (omega arith))
  left_at i s h e (some a b l f) = go (ℕ_discrete (depth ds s) (depth ds (suc i)))
    where
      d : depth ds (last_shallower ds (suc (depth ds (suc i))) i) ≡ depth ds s
      d = ap (depth ds) e

      is : depth ds s ≡ depth ds (suc i) → left_sibling ds (suc i) ≡ s
      is c = rw (eq-eqb (depth ds (last_shallower ds (suc (depth ds (suc i))) i)) (depth ds (suc i)) (d ∙ c), left_sibling) e

      is_not : (depth ds s ≡ depth ds (suc i) → ⊥) → left_sibling ds (suc i) ≡ 0
      is_not c = rw (ne_eqb (depth ds (last_shallower ds (suc (depth ds (suc i))) i)) (depth ds (suc i)) (λ z. c (sym d ∙ z)), left_sibling)

      go : Dec (depth ds s ≡ depth ds (suc i)) → LeftView ds (suc i)
      go (yes c) = next (rw (is c) (is_sibling i s h a b f c))
      go (no c) =
          let o : depth ds s < depth ds (suc i) = omega arith in
          let z : s ≡ i = is_parent i s h a b f o in
          let y : depth ds i < depth ds (suc i) = rw z at o in
          let p : parent ds (suc i) ≡ i = here i (omega arith) y in
          first (is_not c) (ap suc p) (λ u t. rw p (first_left i (omega arith) h y u t))
        where
          here : (i : ℕ) → 1 ≤ i → depth ds i < depth ds (suc i) → last_shallower ds (depth ds (suc i)) i ≡ i
          here zero o y = absurd (omega arith)
          here (suc j) o y = shallower_here ds (depth ds (suc (suc j))) j y

  pub left_view : (v : ℕ) → Row ds v → LeftView ds v
  left_view zero r = absurd (omega arith)
  left_view (suc i) r = left_at i (last_shallower ds (suc (depth ds (suc i))) i) (omega arith) refl (last ds (suc (depth ds (suc i))) i)
