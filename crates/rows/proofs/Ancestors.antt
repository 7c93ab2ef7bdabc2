-- The depth of a row is the number of its ancestors. Assumes nothing.
use mathlib.Core.Path.{◌≡◌, refl, sym, ap, ◌∙◌}
use mathlib.Core.Bool.{Bool, true, false, ◌&&◌}
use mathlib.Core.List.{List}
use Prim.Native.Nat.{ℕ, zero, suc, ◌+◌, ◌-◌, ◌≤◌, ◌<◌}
use native.Mathlib.Omega.{arith}
use native.Mathlib.Decide.{dec_lt, dec_le}
use lib.Dec.{leb, ltb}
use lib.ListN.{length}
use Rattle.std.proofs.lemmas.Bool.{false_from_ne_true}
use Rattle.std.proofs.lemmas.Bool.Decides.{nat_tests}
use Rattle.rows.specs.Rows.{Row, depth, Outline, last_row, is_ancestor, tally, ancestors}
use Rattle.rows.proofs.Depths.{after_shallow, inside_deeper}
use Rattle.rows.proofs.Order.{window}
use Rattle.rows.proofs.Tests.{same_test, ancestor_test, tally_true, tally_false, tally_same, tally_none}

module _ (ds : List ℕ) (k : Outline ds) where
  -- row u up to v has v in its tree and is shallower than e
  abbrev over : ℕ → ℕ → ℕ → Bool
  over v e u = leb v (last_row ds u) && ltb (depth ds u) e

  over_of : (v e u : ℕ) → over v e u ≡ true → (v ≤ last_row ds u) × (depth ds u < e)
  over_of v e u t = grind (arith, nat_tests)

  over_to : (v e u : ℕ) → v ≤ last_row ds u → depth ds u < e → over v e u ≡ true
  over_to v e u a b = grind (arith, nat_tests)

  over_not : (v e u : ℕ) → e ≤ depth ds u → over v e u ≡ false
  over_not v e u h = false_from_ne_true (over v e u) (λ t. omega (arith, over_of v e u t))

  -- the rows over the next row are those over this one that are shallower than the next
  over_next : (w e : ℕ) → Row ds (suc w) → (c : ℕ) → ((x : ℕ) → x < c → (x < e) × (x < depth ds (suc w))) → ((x : ℕ) → x < e → x < depth ds (suc w) → x < c)
      → (u : ℕ) → 1 ≤ u → u ≤ w → over (suc w) e u ≡ over w c u
  over_next w e r c f g u a b =
      same_test (over (suc w) e u) (over w c u)
      (λ t. let s = over_of (suc w) e u t in
      over_to w c u (omega arith) (g (depth ds u) s.1 (inside_deeper ds u (suc w) a (omega arith) s.0)))
      (λ t. let s = over_of w c u t in let n = f (depth ds u) s.1 in over_to (suc w) e u (on s.0 n.1 (dec_le (suc w) (last_row ds u))) n.0)
    where
      on : w ≤ last_row ds u → depth ds u < depth ds (suc w) → Dec (suc w ≤ last_row ds u) → suc w ≤ last_row ds u
      on s n (yes h) = h
      on s n (no h) =
          let e : last_row ds u ≡ w = omega arith in absurd (omega (arith, rw e at (after_shallow ds u (omega arith))))

  -- so one row over v stands at each depth up to v's
  path : (v e : ℕ) → v ≤ length ds → (1 ≤ v → e ≤ suc (depth ds v)) → (v ≡ 0 → e ≡ 0) → tally (over v e) v ≡ e
  path zero e h l z = sym (z refl)
  path (suc w) e h l z = go (dec_lt (depth ds (suc w)) e) (path w)
    where
      below : (c : ℕ) → c ≤ depth ds (suc w) → (1 ≤ w → c ≤ suc (depth ds w)) × (w ≡ 0 → c ≡ 0)
      below c m = (λ o. omega (arith, k.step w (omega arith) (omega arith)), λ o. first o)
        where
          first : w ≡ 0 → c ≡ 0
          first o = omega (arith, k.first (omega arith), ap (λ (x : ℕ). depth ds (suc x)) o)

      go : Dec (depth ds (suc w) < e) → ((c : ℕ) → w ≤ length ds → (1 ≤ w → c ≤ suc (depth ds w)) → (w ≡ 0 → c ≡ 0) → tally (over w c) w ≡ c)
          → tally (over (suc w) e) (suc w) ≡ e
      go (yes u) ih =
          let c = depth ds (suc w) in
          let b = below c (omega arith) in
          let s : e ≡ suc c = omega (arith, l (omega arith)) in
          tally_true (over (suc w) e) w (over_to (suc w) e (suc w) (omega arith) u)
          ∙ ap suc
          (tally_same (over (suc w) e) (over w c) w (over_next w e (omega arith) c (λ x o. (omega arith, o)) (λ x o n. n))
          ∙ ih c (omega arith) b.0 b.1)
          ∙ sym s
      go (no u) ih =
          let b = below e (omega arith) in
          tally_false (over (suc w) e) w (over_not (suc w) e (suc w) (omega arith))
          ∙ tally_same (over (suc w) e) (over w e) w (over_next w e (omega arith) e (λ x o. (o, omega arith)) (λ x o n. o))
          ∙ ih e (omega arith) b.0 b.1

  pub depth_ancestors : (v : ℕ) → Row ds v → ancestors ds v ≡ depth ds v
  depth_ancestors v r =
      let s : v + (length ds - v) ≡ length ds = omega arith in
      ap (tally (λ u. is_ancestor ds u v)) (sym s)
      ∙ tally_none (λ u. is_ancestor ds u v) v (length ds - v) (λ u a b. later u a)
      ∙ tally_same (λ u. is_ancestor ds u v) (over v (depth ds v)) v (λ u a b. here u a b)
      ∙ path v (depth ds v) r.1 (λ o. omega arith) (λ o. absurd (omega arith))
    where
      later : (u : ℕ) → v < u → is_ancestor ds u v ≡ false
      later u o = false_from_ne_true (is_ancestor ds u v) (λ t. omega (arith, (ancestor_test ds u v).0 t))

      here : (u : ℕ) → 1 ≤ u → u ≤ v → is_ancestor ds u v ≡ over v (depth ds v) u
      here u a b =
          same_test (is_ancestor ds u v) (over v (depth ds v) u)
          (λ t.
          let w = (window ds k u v (omega arith) r).0 ((ancestor_test ds u v).0 t) in
          over_to v (depth ds v) u w.1 (inside_deeper ds u v a w.0 w.1))
          (λ t.
          let w = over_of v (depth ds v) u t in
          (ancestor_test ds u v).1 ((window ds k u v (omega arith) r).1 (strict u b w.1, w.0)))
        where
          strict : (u : ℕ) → u ≤ v → depth ds u < depth ds v → u < v
          strict u b o = go (dec_lt u v)
            where
              go : Dec (u < v) → u < v
              go (yes h) = h
              go (no h) = let e : u ≡ v = omega arith in absurd (omega (arith, ap (depth ds) e))
