-- The last shallower row, and by it the parent and the siblings of a row: a row's right sibling is the row whose left sibling it is. Assumes nothing.
use mathlib.Core.Path.{◌≡◌, refl, sym, ap, ◌∙◌}
use mathlib.Core.Bool.{Bool, true, false, ◌&&◌}
use mathlib.Core.Logic.{◌↔◌}
use mathlib.Core.List.{List}
use Prim.Native.Nat.{ℕ, zero, suc, ◌-◌, ◌≤◌, ◌<◌}
use native.Mathlib.Omega.{arith}
use native.Mathlib.Decide.{dec_lt, dec_le, ℕ_discrete}
use lib.Dec.{ltb, eqb}
use lib.ListN.{length}
use borrow.Author.Tests.{ltb-true, eqb-true, lt-ltb, le-ltb, eq-eqb, ne_eqb}
use Rattle.rows.specs.Rows.{Row, depth, last_row}
use Rattle.rows.proofs.Depths.{inside_deeper, deeper_inside}
use Rattle.rows.proofs.Order.{Compared, less, same, more, compared}
use Rattle.rows.proofs.Tests.{both_true}
use Rattle.matching.specs.Family.{last_shallower, parent, left_sibling, right_sibling}
use Rattle.matching.specs.Linked.{no_deeper}

module _ (ds : List ℕ) (d : ℕ) where
  -- row n is shallower than d, or the search goes on above it
  pub shallower_here : (n : ℕ) → depth ds n < d → last_shallower ds d n ≡ n
  shallower_here zero h = refl
  shallower_here (suc n) h = rw (lt-ltb (depth ds (suc n)) d h, last_shallower)

  pub shallower_past : (n : ℕ) → d ≤ depth ds (suc n) → last_shallower ds d (suc n) ≡ last_shallower ds d n
  shallower_past n h = rw (le-ltb (depth ds (suc n)) d h, last_shallower)

  -- the last shallower row is none after n, it is 0 or shallower, and the rows after it up to n are not
  pub shallower_within : (n : ℕ) → last_shallower ds d n ≤ n
  shallower_within zero = omega arith
  shallower_within (suc n) = go (dec_lt (depth ds (suc n)) d) (shallower_within n)
    where
      go : Dec (depth ds (suc n) < d) → last_shallower ds d n ≤ n → last_shallower ds d (suc n) ≤ suc n
      go (yes h) ih = omega (arith, shallower_here (suc n) h)
      go (no h) ih = omega (arith, shallower_past n (omega arith))

  pub shallower_depth : (n : ℕ) → 1 ≤ last_shallower ds d n → depth ds (last_shallower ds d n) < d
  shallower_depth zero l = absurd (omega arith)
  shallower_depth (suc n) l = go (dec_lt (depth ds (suc n)) d) (shallower_depth n)
    where
      go : Dec (depth ds (suc n) < d) → (1 ≤ last_shallower ds d n → depth ds (last_shallower ds d n) < d) → depth ds (last_shallower ds d (suc n)) < d
      go (yes h) ih = rw (shallower_here (suc n) h) h
      go (no h) ih = let e = shallower_past n (omega arith) in rw e (ih (rw e at l))

  pub shallower_after : (n x : ℕ) → last_shallower ds d n < x → x ≤ n → d ≤ depth ds x
  shallower_after zero x l h = absurd (omega arith)
  shallower_after (suc n) x l h = go (dec_lt (depth ds (suc n)) d) (compared x (suc n)) (shallower_after n x)
    where
      go : Dec (depth ds (suc n) < d) → Compared x (suc n) → (last_shallower ds d n < x → x ≤ n → d ≤ depth ds x) → d ≤ depth ds x
      go (yes p) o ih = absurd (omega (arith, shallower_here (suc n) p))
      go (no p) (less o) ih = ih (omega (arith, shallower_past n (omega arith))) (omega arith)
      go (no p) (same o) ih = rw o (omega arith)
      go (no p) (more o) ih = absurd (omega arith)

  -- and it is the only such row
  pub shallower_is : (u n : ℕ) → 1 ≤ u → u ≤ n → depth ds u < d → ((x : ℕ) → u < x → x ≤ n → d ≤ depth ds x) → last_shallower ds d n ≡ u
  shallower_is u n a o h all = go (compared (last_shallower ds d n) u)
    where
      go : Compared (last_shallower ds d n) u → last_shallower ds d n ≡ u
      go (less l) = absurd (omega (arith, shallower_after n u l o))
      go (same e) = e
      go (more l) = absurd (omega (arith, shallower_depth n (omega arith), all (last_shallower ds d n) l (shallower_within n)))

module _ (ds : List ℕ) where
  -- the last row shallower than e lies no later than the last one shallower than a greater d, so the search may start there ..
  pub shallower_skip : (e d : ℕ) → e ≤ d → (n : ℕ) → last_shallower ds e n ≡ last_shallower ds e (last_shallower ds d n)
  shallower_skip e d l zero = refl
  shallower_skip e d l (suc n) = go (dec_lt (depth ds (suc n)) d) (shallower_skip e d l n)
    where
      go : Dec (depth ds (suc n) < d) → last_shallower ds e n ≡ last_shallower ds e (last_shallower ds d n)
          → last_shallower ds e (suc n) ≡ last_shallower ds e (last_shallower ds d (suc n))
      go (yes h) ih = rw (shallower_here ds d (suc n) h)
      go (no h) ih = rw (shallower_past ds d n (omega arith)) (shallower_past ds e n (omega arith) ∙ ih)

  -- .. and from a row as deep as e or deeper goes on at its parent
  pub shallower_parent : (e u : ℕ) → e ≤ depth ds u → last_shallower ds e u ≡ last_shallower ds e (parent ds u)
  shallower_parent e zero h = refl
  shallower_parent e (suc j) h = shallower_past ds e j h ∙ shallower_skip e (depth ds (suc j)) h j

  -- the parent of a row is none after it
  pub parent_within : (v : ℕ) → parent ds v ≤ v
  parent_within zero = omega arith
  parent_within (suc i) = omega (arith, shallower_within ds (depth ds (suc i)) i)

  -- a row below depth 0 is no row 0
  pub deep_row : (d u : ℕ) → d < depth ds u → 1 ≤ u
  deep_row d zero h = absurd (omega arith)
  deep_row d (suc j) h = omega arith

  -- the last row before v that is no deeper: the search for it starts at the row before v
  pub no_deeper_from : (v : ℕ) → no_deeper ds v ≡ last_shallower ds (suc (depth ds v)) (v - 1)
  no_deeper_from zero = refl
  no_deeper_from (suc i) = let e : suc i - 1 ≡ i = omega arith in rw e

  pub no_deeper_before : (v : ℕ) → 1 ≤ v → no_deeper ds v < v
  no_deeper_before v a = omega (arith, no_deeper_from v, shallower_within ds (suc (depth ds v)) (v - 1))

  -- if it is as deep as v it is the left sibling, with the same parent ..
  pub left_as_deep : (v : ℕ) → depth ds (no_deeper ds v) ≡ depth ds v → (left_sibling ds v ≡ no_deeper ds v) × (parent ds v ≡ parent ds (no_deeper ds v))
  left_as_deep zero s = (refl, refl)
  left_as_deep (suc i) s = (
    rw (eq-eqb (depth ds (no_deeper ds (suc i))) (depth ds (suc i)) s, left_sibling),
    shallower_skip (depth ds (suc i)) (suc (depth ds (suc i))) (omega arith) i ∙ up (no_deeper ds (suc i)) s,
  )
    where
      up : (u : ℕ) → depth ds u ≡ depth ds (suc i) → last_shallower ds (depth ds (suc i)) u ≡ parent ds u
      up zero s = refl
      up (suc j) s = rw s (shallower_past ds (depth ds (suc i)) j (omega arith))

  -- .. else it is the parent
  pub left_none : (v : ℕ) → (depth ds (no_deeper ds v) ≡ depth ds v → ⊥) → (left_sibling ds v ≡ 0) × (parent ds v ≡ no_deeper ds v)
  left_none zero n = (refl, refl)
  left_none (suc i) n = (
    rw (ne_eqb (depth ds (no_deeper ds (suc i))) (depth ds (suc i)) n, left_sibling),
    shallower_skip (depth ds (suc i)) (suc (depth ds (suc i))) (omega arith) i ∙ here (no_deeper ds (suc i)) refl n,
  )
    where
      here : (u : ℕ) → u ≡ no_deeper ds (suc i) → (depth ds u ≡ depth ds (suc i) → ⊥) → last_shallower ds (depth ds (suc i)) u ≡ u
      here zero e n = refl
      here (suc j) e n =
          let l = rw (← e) at (shallower_depth ds (suc (depth ds (suc i))) i (omega arith)) in
          shallower_here ds (depth ds (suc i)) (suc j) (omega arith)

  -- the right sibling of a row: none, or the row behind its tree, which is as deep
  pub data Right (u : ℕ) : Type 0 where
    none : right_sibling ds u ≡ 0 → Right u
    next : right_sibling ds u ≡ suc (last_row ds u) → last_row ds u < length ds → depth ds (suc (last_row ds u)) ≡ depth ds u → Right u

  pub right : (u : ℕ) → Right u
  right zero = none refl
  right (suc i) = go (within && level) refl
    where
      within : Bool
      within = ltb (last_row ds (suc i)) (length ds)

      level : Bool
      level = eqb (depth ds (suc (last_row ds (suc i)))) (depth ds (suc i))

      go : (t : Bool) → (within && level) ≡ t → Right (suc i)
      go true e =
          let p = (both_true within level).0 e in
          next (rw (e, right_sibling)) (ltb-true (last_row ds (suc i)) (length ds) p.0) (eqb-true _ _ p.1)
      go false e = none (rw (e, right_sibling))

  right_next : (u : ℕ) → Row ds u → last_row ds u < length ds → depth ds (suc (last_row ds u)) ≡ depth ds u → right_sibling ds u ≡ suc (last_row ds u)
  right_next zero r l s = absurd (omega arith)
  right_next (suc i) r l s =
      rw ((both_true _ _).1 (lt-ltb (last_row ds (suc i)) (length ds) l, eq-eqb (depth ds (suc (last_row ds (suc i)))) (depth ds (suc i)) s), right_sibling)

  -- the right sibling of u is the row whose left sibling is u
  pub right_left : (u v : ℕ) → Row ds u → Row ds v → (right_sibling ds u ≡ v) ↔ (left_sibling ds v ≡ u)
  right_left u v r t = (λ e. forth (right u) e, λ e. back e (ℕ_discrete (depth ds (no_deeper ds v)) (depth ds v)))
    where
      -- the row behind the tree of u has u as the last row before it that is no deeper
      near : suc (last_row ds u) ≡ v → depth ds v ≡ depth ds u → no_deeper ds v ≡ u
      near q d =
          no_deeper_from v
          ∙ shallower_is ds (suc (depth ds v)) u (v - 1) r.0 (omega arith) (omega arith) (λ x a b. omega (arith, inside_deeper ds u x r.0 a (omega arith)))

      forth : Right u → right_sibling ds u ≡ v → left_sibling ds v ≡ u
      forth (none p) e = absurd (omega arith)
      forth (next p l s) e =
          let q : suc (last_row ds u) ≡ v = sym p ∙ e in
          let d : depth ds v ≡ depth ds u = ap (depth ds) (sym q) ∙ s in
          let n = near q d in
          (left_as_deep v (ap (depth ds) n ∙ sym d)).0 ∙ n

      behind : depth ds u ≡ depth ds v → v - 1 ≤ last_row ds u → u < v → Dec (v ≤ last_row ds u) → right_sibling ds u ≡ v
      behind d l o (yes h) = absurd (omega (arith, inside_deeper ds u v r.0 o h))
      behind d l o (no h) =
          let q : suc (last_row ds u) ≡ v = omega arith in
          right_next u r (omega arith) (ap (depth ds) q ∙ sym d) ∙ q

      deep : u ≡ no_deeper ds v → (x : ℕ) → u < x → x ≤ v - 1 → depth ds v < depth ds x
      deep q x a b = shallower_after ds (suc (depth ds v)) (v - 1) x (omega (arith, no_deeper_from v)) b

      back : left_sibling ds v ≡ u → Dec (depth ds (no_deeper ds v) ≡ depth ds v) → right_sibling ds u ≡ v
      back e (no n) = absurd (omega (arith, (left_none v n).0))
      back e (yes s) =
          let q : u ≡ no_deeper ds v = sym e ∙ (left_as_deep v s).0 in
          let d : depth ds u ≡ depth ds v = ap (depth ds) q ∙ s in
          let o : u < v = omega (arith, no_deeper_before v t.0) in
          behind d (deeper_inside ds u (v - 1) r (omega arith) (omega arith) (λ x a b. omega (arith, deep q x a b))) o (dec_le v (last_row ds u))
