-- The rows of a level: a row, its right siblings and its first child, as the forest from that row has them. Assumes nothing.
use mathlib.Core.Path.{◌≡◌, refl, sym, ap, ◌∙◌}
use mathlib.Core.List.{List}
use Prim.Native.Nat.{ℕ, zero, suc, ◌+◌, ◌≤◌, ◌<◌}
use native.Mathlib.Omega.{arith}
use native.Mathlib.Decide.{dec_lt, ℕ_discrete}
use lib.ListN.{length, get_or, drop_of_length-le}
use lib.Seq.{drop-cons}
use borrow.Author.Tests.{lt-ltb, le-ltb, eq-eqb, ne_eqb}
use Rattle.rows.specs.Rows.{Row, depth, Outline, descendants, last_row}
use Rattle.rows.specs.Forest.{Forest, nil, cons, forest_at, below}
use Rattle.rows.proofs.Depths.{inside_deeper, after_shallow}
use Rattle.rows.proofs.Windows.{at_step, at_end}
use Rattle.matching.specs.Family.{last_shallower, parent, right_sibling, descent, left_leaf}
use Rattle.matching.specs.CornerRow.{from_row, count_back, place}
use Rattle.matching.proofs.Lies.{roots}
use Rattle.matching.proofs.Cut.{root_at, other_trees, spine, levels}

-- rows that are as deep as d or deeper are no row's shallower one, and deeper rows are not counted back
shallower_skip : (ds : List ℕ) (d n m : ℕ) → ((u : ℕ) → n < u → u ≤ n + m → d ≤ depth ds u) → last_shallower ds d (n + m) ≡ last_shallower ds d n
shallower_skip ds d n zero h = let e : n + 0 ≡ n = omega arith in rw e
shallower_skip ds d n (suc m) h =
    let e : n + suc m ≡ suc (n + m) = omega arith in
    rw (e, le-ltb (depth ds (suc (n + m))) d (h (suc (n + m)) (omega arith) (omega arith)), last_shallower)
    (shallower_skip ds d n m (λ u a b. h u a (omega arith)))

back_skip : (ds : List ℕ) (d n m : ℕ) → ((u : ℕ) → n < u → u ≤ n + m → d < depth ds u) → count_back ds d (n + m) ≡ count_back ds d n
back_skip ds d n zero h = let e : n + 0 ≡ n = omega arith in rw e
back_skip ds d n (suc m) h =
    let e : n + suc m ≡ suc (n + m) = omega arith in
    let o : d < depth ds (suc (n + m)) = h (suc (n + m)) (omega arith) (omega arith) in
    rw (e, le-ltb (depth ds (suc (n + m))) d (omega arith), ne_eqb (depth ds (suc (n + m))) d (omega arith), count_back)
    (back_skip ds d n m (λ u a b. h u a (omega arith)))

back_one : (ds : List ℕ) (d n : ℕ) → depth ds (suc n) ≡ d → count_back ds d (suc n) ≡ suc (count_back ds d n)
back_one ds d n e = rw (le-ltb (depth ds (suc n)) d (omega arith), eq-eqb (depth ds (suc n)) d e, count_back)

-- the place of a first row, and of a first child, is 1
pub place_first : (ds : List ℕ) → place ds 1 ≡ 1
place_first ds = back_one ds (depth ds 1) 0 refl

place_child : (ds : List ℕ) (x : ℕ) → Row ds x → depth ds (suc x) ≡ suc (depth ds x) → place ds (suc x) ≡ 1
place_child ds zero r e = absurd (omega arith)
place_child ds (suc z) r e =
    back_one ds (depth ds (suc (suc z))) (suc z) refl ∙ ap suc (rw (lt-ltb (depth ds (suc z)) (depth ds (suc (suc z))) (omega arith), count_back))

-- its parent is the row before it
pub parent_child : (ds : List ℕ) (x : ℕ) → Row ds x → depth ds (suc x) ≡ suc (depth ds x) → parent ds (suc x) ≡ x
parent_child ds zero r e = absurd (omega arith)
parent_child ds (suc z) r e = rw (lt-ltb (depth ds (suc z)) (depth ds (suc (suc z))) (omega arith), last_shallower)

-- the parent of a root is 0
pub parent_root : (ds : List ℕ) (x : ℕ) → depth ds x ≡ 0 → parent ds x ≡ 0
parent_root ds zero e = refl
parent_root ds (suc z) e = rw e (let s : 0 + z ≡ z = omega arith in rw s at (shallower_skip ds 0 0 z (λ u a b. omega arith)))

-- a row has a right sibling, as deep as itself, or none
pub data Next (ds : List ℕ) (x : ℕ) : Type 0 where
  next : right_sibling ds x ≡ suc (last_row ds x) → Row ds (suc (last_row ds x)) → depth ds (suc (last_row ds x)) ≡ depth ds x → Next ds x
  last : right_sibling ds x ≡ 0 → (last_row ds x < length ds → depth ds (suc (last_row ds x)) < depth ds x) → Next ds x

pub next_of : (ds : List ℕ) (x : ℕ) → Row ds x → Next ds x
next_of ds zero r = absurd (omega arith)
next_of ds (suc z) r = go (dec_lt (last_row ds (suc z)) (length ds)) (ℕ_discrete (depth ds (suc (last_row ds (suc z)))) (depth ds (suc z)))
  where
    go : Dec (last_row ds (suc z) < length ds) → Dec (depth ds (suc (last_row ds (suc z))) ≡ depth ds (suc z)) → Next ds (suc z)
    go (yes o) (yes e) =
        next (rw (lt-ltb (last_row ds (suc z)) (length ds) o, eq-eqb (depth ds (suc (last_row ds (suc z)))) (depth ds (suc z)) e, right_sibling))
        (omega arith) e
    go (yes o) (no e) =
        last (rw (lt-ltb (last_row ds (suc z)) (length ds) o, ne_eqb (depth ds (suc (last_row ds (suc z)))) (depth ds (suc z)) e, right_sibling))
        (λ h. less (after_shallow ds (suc z) r) (dec_lt (depth ds (suc (last_row ds (suc z)))) (depth ds (suc z))))
      where
        less : depth ds (suc (last_row ds (suc z))) ≤ depth ds (suc z) → Dec (depth ds (suc (last_row ds (suc z))) < depth ds (suc z))
            → depth ds (suc (last_row ds (suc z))) < depth ds (suc z)
        less h (yes c) = c
        less h (no c) = absurd (e (omega arith))
    go (no o) e = last (rw (le-ltb (last_row ds (suc z)) (length ds) (omega arith), right_sibling)) (λ h. absurd (o h))

-- the right sibling is 0 or a row
pub right_fits : (ds : List ℕ) (w : ℕ) → right_sibling ds w ≤ length ds
right_fits ds zero = omega arith
right_fits ds (suc z) = go (dec_lt (last_row ds (suc z)) (length ds))
  where
    go : Dec (last_row ds (suc z) < length ds) → right_sibling ds (suc z) ≤ length ds
    go (yes o) = on (next_of ds (suc z) (omega arith))
      where
        on : Next ds (suc z) → right_sibling ds (suc z) ≤ length ds
        on (next e r d) = omega arith
        on (last e h) = omega arith
    go (no o) = rw (le-ltb (last_row ds (suc z)) (length ds) (omega arith), right_sibling) (omega arith)

-- and as deep
pub right_deep : (ds : List ℕ) (w : ℕ) → Row ds w → 1 ≤ right_sibling ds w → depth ds (right_sibling ds w) ≡ depth ds w
right_deep ds w r o = go (next_of ds w r)
  where
    go : Next ds w → depth ds (right_sibling ds w) ≡ depth ds w
    go (next e q d) = ap (depth ds) e ∙ d
    go (last e h) = absurd (omega arith)

-- a right sibling has the same parent, and the next place
module _ (ds : List ℕ) (x : ℕ) (r : Row ds x) (e : depth ds (suc (last_row ds x)) ≡ depth ds x) where
  pub parent_next : parent ds (suc (last_row ds x)) ≡ parent ds x
  parent_next = go x r e
    where
      go : (x : ℕ) → Row ds x → depth ds (suc (last_row ds x)) ≡ depth ds x → parent ds (suc (last_row ds x)) ≡ parent ds x
      go zero r e = absurd (omega arith)
      go (suc z) r e =
          let s : suc z + descendants ds (suc z) ≡ z + suc (descendants ds (suc z)) = omega arith in
          ap (λ (d : ℕ). last_shallower ds d (last_row ds (suc z))) e
          ∙ ap (last_shallower ds (depth ds (suc z))) s
          ∙ shallower_skip ds (depth ds (suc z)) z (suc (descendants ds (suc z))) (λ u a b. deep u a b (dec_lt (suc z) u))
        where
          deep : (u : ℕ) → z < u → u ≤ z + suc (descendants ds (suc z)) → Dec (suc z < u) → depth ds (suc z) ≤ depth ds u
          deep u a b (yes o) = omega (arith, inside_deeper ds (suc z) u (omega arith) o (omega arith))
          deep u a b (no o) = let s : u ≡ suc z = omega arith in omega (arith, ap (depth ds) s)

  place_next : place ds (suc (last_row ds x)) ≡ suc (place ds x)
  place_next =
      ap (λ (d : ℕ). count_back ds d (suc (last_row ds x))) e
      ∙ back_one ds (depth ds x) (last_row ds x) e
      ∙ ap suc (back_skip ds (depth ds x) x (descendants ds x) (λ u a b. inside_deeper ds x u r.0 a b))

-- the forest from a row: the tree at the row, and the forest from its right sibling
pub from_step : (ds : List ℕ) (x : ℕ) → Row ds x → from_row ds x ≡ cons x (below ds x) (from_row ds (right_sibling ds x))
from_step ds zero r = absurd (omega arith)
from_step ds (suc z) r = at_step ds z (depth ds (suc z)) (omega arith) refl ∙ ap (cons (suc z) (below ds (suc z))) (go (next_of ds (suc z) r))
  where
    go : Next ds (suc z) → forest_at ds (last_row ds (suc z)) (depth ds (suc z)) ≡ from_row ds (right_sibling ds (suc z))
    go (next s q e) = ap (forest_at ds (last_row ds (suc z))) (sym e) ∙ ap (from_row ds) (sym s)
    go (last s h) = at_end ds (last_row ds (suc z)) (depth ds (suc z)) h ∙ ap (from_row ds) (sym s)

-- a row is a leaf, or the next row is its first child
pub data Kids (ds : List ℕ) (x : ℕ) : Type 0 where
  leaf : below ds x ≡ nil → left_leaf ds x ≡ x → Kids ds x
  child : Row ds (suc x) → depth ds (suc x) ≡ suc (depth ds x) → below ds x ≡ from_row ds (suc x) → left_leaf ds x ≡ left_leaf ds (suc x) → Kids ds x

module _ (ds : List ℕ) (k : Outline ds) where
  pub kids_of : (x : ℕ) → Row ds x → Kids ds x
  kids_of zero r = absurd (omega arith)
  kids_of (suc z) r = go (dec_lt (suc z) (length ds)) (ℕ_discrete (depth ds (suc (suc z))) (suc (depth ds (suc z))))
    where
      go : Dec (suc z < length ds) → Dec (depth ds (suc (suc z)) ≡ suc (depth ds (suc z))) → Kids ds (suc z)
      go (yes o) (yes e) =
          child (omega arith) e (ap (forest_at ds (suc z)) (sym e))
          (rw (drop-cons ds (suc z) 0 o, eq-eqb (get_or ds (suc z) 0) (suc (get_or ds z 0)) e, e, descent) (omega arith))
      go (yes o) (no e) =
          leaf (at_end ds (suc z) (suc (depth ds (suc z)))
          (λ h. less (k.step (suc z) r (omega arith)) (dec_lt (depth ds (suc (suc z))) (suc (depth ds (suc z))))))
          (rw (drop-cons ds (suc z) 0 o, ne_eqb (get_or ds (suc z) 0) (suc (get_or ds z 0)) e, descent) (omega arith))
        where
          less : depth ds (suc (suc z)) ≤ suc (depth ds (suc z)) → Dec (depth ds (suc (suc z)) < suc (depth ds (suc z)))
              → depth ds (suc (suc z)) < suc (depth ds (suc z))
          less h (yes c) = c
          less h (no c) = absurd (e (omega arith))
      go (no o) e =
          let m : length ds ≤ suc z = omega arith in
          leaf (at_end ds (suc z) (suc (depth ds (suc z))) (λ h. absurd (o h))) (rw (drop_of_length-le ds m) (omega arith))

  -- the left-most leaf of a row's tree stands on the last level
  pub leaf_level : (x : ℕ) → Row ds x → suc (left_leaf ds x) ≡ x + levels (from_row ds x)
  leaf_level x r = rw (from_step ds x r) (omega (arith, go (below ds x) x r refl))
    where
      go : (g : Forest ℕ) (x : ℕ) → Row ds x → below ds x ≡ g → left_leaf ds x ≡ x + levels g
      go nil x r e = on (kids_of x r)
        where
          on : Kids ds x → left_leaf ds x ≡ x + 0
          on (leaf n s) = omega arith
          on (child q d n s) = let z : ◌≡◌ {A = ℕ} 0 1 = cc (from_step ds (suc x) q) in absurd (omega arith)
      go (cons a p q) x r e = on (kids_of x r) (go p (suc x))
        where
          on : Kids ds x → (Row ds (suc x) → below ds (suc x) ≡ p → left_leaf ds (suc x) ≡ suc x + levels p) → left_leaf ds x ≡ x + suc (levels p)
          on (leaf n s) ih = let z : ◌≡◌ {A = ℕ} 0 1 = cc in absurd (omega arith)
          on (child q d n s) ih = omega (arith, ih q (cc (from_step ds (suc x) q)))

  -- what stands v levels down from row x is the forest from row x + v
  pub record Level (x v : ℕ) : Type 0 where
    pub row : Row ds (x + v)
    pub deep : depth ds (x + v) ≡ depth ds x + v
    pub here : spine v (from_row ds x) ≡ from_row ds (x + v)
    pub leaf : left_leaf ds (x + v) ≡ left_leaf ds x

  pub level_of : (v x : ℕ) → Row ds x → v < levels (from_row ds x) → Level x v
  level_of zero x r h =
      let e : x + 0 ≡ x = omega arith in record { row = rw e r; deep = rw e (omega arith); here = ap (from_row ds) (sym e); leaf = ap (left_leaf ds) e }
  level_of (suc v) x r h = go (kids_of x r) (level_of v (suc x)) (rw (from_step ds x r) at h)
    where
      go : Kids ds x → (Row ds (suc x) → v < levels (from_row ds (suc x)) → Level (suc x) v) → suc v < suc (levels (below ds x)) → Level x (suc v)
      go (leaf n s) ih o = absurd (omega (arith, ap levels n))
      go (child q d n s) ih o =
          let l = ih q (omega (arith, ap levels n)) in
          let e : suc x + v ≡ x + suc v = omega arith in
          record {
            row = rw e at l.row;
            deep = omega (arith, rw e at l.deep, d);
            here = rw (from_step ds x r, n) (l.here ∙ ap (from_row ds) e);
            leaf = ap (left_leaf ds) (sym e) ∙ l.leaf ∙ sym s;
          }

  -- down the left-most path each row is the first child of the row before it
  module _ (x v : ℕ) (r : Row ds x) (h : suc v < levels (from_row ds x)) where
    first_child : (x + suc v ≡ suc (x + v)) × Row ds (x + v) × (depth ds (suc (x + v)) ≡ suc (depth ds (x + v)))
    first_child =
        let l = level_of v x r (omega arith) in
        let e : x + suc v ≡ suc (x + v) = omega arith in
        (e, l.row, omega (arith, l.deep, rw e at (level_of (suc v) x r h).deep))

    pub parent_level : parent ds (x + suc v) ≡ x + v
    parent_level = let c = first_child in rw c.0 (parent_child ds (x + v) c.1 c.2)

    pub place_level : place ds (x + suc v) ≡ 1
    place_level = let c = first_child in rw c.0 (place_child ds (x + v) c.1 c.2)

-- w is root i + 1 of the forest from row y: a sibling of y, or y itself
pub record Sibling (ds : List ℕ) (y i w : ℕ) : Type 0 where
  pub row : Row ds w
  pub deep : depth ds w ≡ depth ds y
  pub up : parent ds w ≡ parent ds y
  pub nth : place ds w ≡ place ds y + i
  pub rest : other_trees (suc i) (from_row ds y) ≡ from_row ds (right_sibling ds w)

pub sibling_of : (ds : List ℕ) (i y : ℕ) → Row ds y → suc i ≤ roots (from_row ds y) → Sibling ds y i (root_at (suc i) (from_row ds y))
sibling_of ds zero y r h = rw (from_step ds y r) (record { row = r; deep = refl; up = refl; nth = omega arith; rest = rw (from_step ds y r) })
sibling_of ds (suc i) y r h = go (next_of ds y r) (sibling_of ds i) (rw (from_step ds y r) at h)
  where
    go : Next ds y → ((y : ℕ) → Row ds y → suc i ≤ roots (from_row ds y) → Sibling ds y i (root_at (suc i) (from_row ds y)))
        → suc (suc i) ≤ suc (roots (from_row ds (right_sibling ds y))) → Sibling ds y (suc i) (root_at (suc (suc i)) (from_row ds y))
    go (last s n) ih o = absurd (omega (arith, ap (λ (x : ℕ). roots (from_row ds x)) s))
    go (next s q e) ih o =
        let l = ih (suc (last_row ds y)) q (omega (arith, ap (λ (x : ℕ). roots (from_row ds x)) s)) in
        let f : root_at (suc (suc i)) (from_row ds y) ≡ root_at (suc i) (from_row ds (suc (last_row ds y))) =
        ap (root_at (suc (suc i))) (from_step ds y r) ∙ ap (λ (x : ℕ). root_at (suc i) (from_row ds x)) s in
        rw f (
        record {
          row = l.row;
          deep = l.deep ∙ e;
          up = l.up ∙ parent_next ds y r e;
          nth = omega (arith, l.nth, place_next ds y r e);
          rest = ap (other_trees (suc (suc i))) (from_step ds y r) ∙ ap (λ (x : ℕ). other_trees (suc i) (from_row ds x)) s ∙ l.rest;
        }
        )
