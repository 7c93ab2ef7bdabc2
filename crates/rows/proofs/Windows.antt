-- The forest below a row is what the window of its descendants draws. Assumes nothing.
use mathlib.Core.Path.{◌≡◌, refl, sym, ap, ap₂, ◌∙◌}
use mathlib.Core.List.{List, [], ◌∷◌}
use Prim.Native.Nat.{ℕ, zero, suc, ◌+◌, ◌-◌, ◌≤◌, ◌<◌}
use native.Mathlib.Nat.{lt_of_not-le}
use native.Mathlib.Omega.{arith}
use native.Mathlib.Decide.{dec_lt, dec_le}
use lib.ListN.{length, get_or, drop, drop_of_length-le}
use lib.Seq.{drop-cons, drop-drop, drop-nil}
use Rattle.rows.specs.Rows.{Row, depth, Outline, deeper, descendants, last_row}
use Rattle.rows.specs.Forest.{Forest, nil, cons, size, grow, numbers, forest_at, forest, below}
use Rattle.rows.specs.Stands.{Stands}
use Rattle.rows.proofs.Deeper.{deeper_lt, deeper_ge}
use Rattle.rows.proofs.Depths.{last_fits, inside_deeper, after_shallow, deeper_inside}
use Rattle.rows.proofs.Order.{Compared, less, same, more, compared}
use Rattle.rows.proofs.Flat.{grow_lt, grow_eq, grow_gt}

grow_none : (ds : List ℕ) (d : ℕ) → grow {A = ℕ} ds [] d ≡ nil
grow_none [] d = refl
grow_none (e ∷ ds) d = refl

-- the deeper rows at the front are passed over
grow_past : (ds ws : List ℕ) (d : ℕ) → grow ds ws d ≡ grow (drop (deeper d ds) ds) (drop (deeper d ds) ws) d
grow_past [] ws d = refl
grow_past (e ∷ ds) [] d = rw drop-nil (sym (grow_none (drop (deeper d (e ∷ ds)) (e ∷ ds)) d))
grow_past (e ∷ ds) (a ∷ ws) d = go (dec_lt d e) (grow_past ds ws d)
  where
    go : Dec (d < e) → grow ds ws d ≡ grow (drop (deeper d ds) ds) (drop (deeper d ds) ws) d
        → grow (e ∷ ds) (a ∷ ws) d ≡ grow (drop (deeper d (e ∷ ds)) (e ∷ ds)) (drop (deeper d (e ∷ ds)) (a ∷ ws)) d
    go (yes u) ih = rw (deeper_lt d e ds u, grow_gt a ds ws e d u) ih
    go (no u) ih = rw (deeper_ge d e ds (omega arith))

drop_numbers : (k v n : ℕ) → drop k (numbers v n) ≡ numbers (v + k) (n - k)
drop_numbers zero v n = let e : v + 0 ≡ v = omega arith in let o : n - 0 ≡ n = omega arith in rw (e, o)
drop_numbers (suc k) v zero = let o : 0 - suc k ≡ 0 = omega arith in rw o
drop_numbers (suc k) v (suc n) =
    let e : v + suc k ≡ suc v + k = omega arith in let o : suc n - suc k ≡ n - k = omega arith in rw (e, o) (drop_numbers k (suc v) n)

module _ (ds : List ℕ) (z d : ℕ) where
  -- the trees behind row z: one more, or none
  pub at_step : z < length ds → depth ds (suc z) ≡ d → forest_at ds z d ≡ cons (suc z) (forest_at ds (suc z) (suc d)) (forest_at ds (last_row ds (suc z)) d)
  at_step h e =
      let n : length ds - z ≡ suc (length ds - suc z) = omega arith in
      let m = descendants ds (suc z) in
      let a : suc (suc z) + descendants ds (suc z) ≡ suc (suc z + descendants ds (suc z)) = omega arith in
      let b : length ds - suc z - descendants ds (suc z) ≡ length ds - (suc z + descendants ds (suc z)) = omega arith in
      let s : grow (drop (suc z) ds) (numbers (suc (suc z)) (length ds - suc z)) d ≡ forest_at ds (last_row ds (suc z)) d =
      grow_past (drop (suc z) ds) (numbers (suc (suc z)) (length ds - suc z)) d
      ∙ ap (λ (k : ℕ). grow (drop k (drop (suc z) ds)) (drop k (numbers (suc (suc z)) (length ds - suc z))) d) (ap (λ (x : ℕ). deeper x (drop (suc z) ds)) (sym e))
      ∙ ap₂ (λ (x y : List ℕ). grow x y d) (drop-drop m (suc z) ds)
      (drop_numbers m (suc (suc z)) (length ds - suc z) ∙ ap₂ numbers a b) in
      ap₂ (λ (x y : List ℕ). grow x y d) (drop-cons ds z 0 h ∙ ap (λ (x : ℕ). x ∷ drop (suc z) ds) e) (ap (numbers (suc z)) n)
      ∙ grow_eq (suc z) (drop (suc z) ds) (numbers (suc (suc z)) (length ds - suc z)) d
      ∙ ap (cons (suc z) (forest_at ds (suc z) (suc d))) s

  pub at_end : (z < length ds → depth ds (suc z) < d) → forest_at ds z d ≡ nil
  at_end h = go (dec_lt z (length ds))
    where
      go : Dec (z < length ds) → forest_at ds z d ≡ nil
      go (yes o) =
          let n : length ds - z ≡ suc (length ds - suc z) = omega arith in
          rw (drop-cons ds z 0 o, n) (grow_lt (suc z) (drop (suc z) ds) (numbers (suc (suc z)) (length ds - suc z)) (get_or ds z 0) d (h o))
      go (no o) = let m : length ds ≤ z = omega arith in rw (drop_of_length-le ds m)

-- of the trees of depth d behind row z: they stand there, and their rows are those up to the first shallower one
pub record Window (ds : List ℕ) (z d : ℕ) (f : Forest ℕ) : Type 0 where
  pub stands : Stands ds z f
  pub fits : z + size f ≤ length ds
  pub rows : (v : ℕ) → z < v → v ≤ z + size f → d ≤ depth ds v
  pub ends : z + size f < length ds → depth ds (suc (z + size f)) < d

module _ (ds : List ℕ) (k : Outline ds) where
  -- the window of the rows below row v is as long as v has descendants
  below_size : (v d : ℕ) (f : Forest ℕ) → Row ds v → depth ds v ≡ d → Window ds v (suc d) f → descendants ds v ≡ size f
  below_size v d f r e w =
      let most = deeper_inside ds v (v + size f) r (omega arith) w.fits (λ x a b. omega (arith, w.rows x a b)) in
      let least : last_row ds v < suc (v + size f) =
      lt_of_not-le (λ u. omega (arith, w.ends (omega (arith, last_fits ds v r)), inside_deeper ds v (suc (v + size f)) r.0 (omega arith) u)) in
      omega arith

  window_cons : (z d : ℕ) (f g : Forest ℕ) → z < length ds → depth ds (suc z) ≡ d → Window ds (suc z) (suc d) f → Window ds (last_row ds (suc z)) d g
      → Window ds z d (cons (suc z) f g)
  window_cons z d f g h e wf wg =
      let n = below_size (suc z) d f (omega arith) e wf in
      let s : last_row ds (suc z) ≡ suc (z + size f) = omega arith in
      let t : z + suc (size f + size g) ≡ suc (z + size f) + size g = omega arith in
      let w : Window ds (suc (z + size f)) d g = rw s at wg in
      record {
        stands = (refl, h, n, wf.stands, w.stands);
        fits = omega (arith, w.fits);
        rows = λ v a b. rows w v a b (compared (suc z) v) (dec_le v (suc z + size f));
        ends = rw t w.ends;
      }
    where
      rows : Window ds (suc (z + size f)) d g → (v : ℕ) → z < v → v ≤ z + suc (size f + size g) → Compared (suc z) v → Dec (v ≤ suc z + size f) → d ≤ depth ds v
      rows w v a b (less o) (yes i) = omega (arith, wf.rows v o i)
      rows w v a b (less o) (no i) = w.rows v (omega arith) (omega arith)
      rows w v a b (same o) i = omega (arith, ap (depth ds) o)
      rows w v a b (more o) i = absurd (omega arith)

  window_nil : (z d : ℕ) → z ≤ length ds → (z < length ds → depth ds (suc z) < d) → Window ds z d nil
  window_nil z d l h =
      let s : z + 0 ≡ z = omega arith in
      record { stands = tt; fits = omega arith; rows = λ v a b. absurd (omega arith); ends = rw s h }

  window_to : (n z d : ℕ) → length ds < z + n → z ≤ length ds → (z < length ds → depth ds (suc z) ≤ d) → Window ds z d (forest_at ds z d)
  window_to zero z d m l c = absurd (omega arith)
  window_to (suc n) z d m l c = go (dec_lt z (length ds)) (compared (depth ds (suc z)) d) (window_to n)
    where
      end : (z < length ds → depth ds (suc z) < d) → Window ds z d (forest_at ds z d)
      end h = rw (at_end ds z d h) (window_nil z d l h)

      go : Dec (z < length ds) → Compared (depth ds (suc z)) d
          → ((z d : ℕ) → length ds < z + n → z ≤ length ds → (z < length ds → depth ds (suc z) ≤ d) → Window ds z d (forest_at ds z d)) → Window ds z d (forest_at ds z d)
      go (no h) o ih = end (λ i. absurd (h i))
      go (yes h) (less o) ih = end (λ i. o)
      go (yes h) (more o) ih = absurd (omega (arith, c h))
      go (yes h) (same o) ih =
          let r : Row ds (suc z) = omega arith in
          let f = last_fits ds (suc z) r in
          let a = after_shallow ds (suc z) r in
          rw (at_step ds z d h o) (window_cons z d (forest_at ds (suc z) (suc d)) (forest_at ds (last_row ds (suc z)) d) h o
          (ih (suc z) (suc d) (omega arith) (omega arith) (λ i. omega (arith, k.step (suc z) r (omega arith))))
          (ih (last_row ds (suc z)) d (omega arith) (omega arith) (λ i. omega arith)))

  pub window_at : (z d : ℕ) → z ≤ length ds → (z < length ds → depth ds (suc z) ≤ d) → Window ds z d (forest_at ds z d)
  window_at z d l c = window_to (suc (length ds)) z d (omega arith) l c

  -- so the forest below a row stands behind it and has its descendants
  pub window_below : (v : ℕ) → Row ds v → Window ds v (suc (depth ds v)) (below ds v)
  window_below zero r = absurd (omega arith)
  window_below (suc i) r = window_at (suc i) (suc (depth ds (suc i))) r.1 (λ h. k.step (suc i) r (omega arith))

  pub size_below : (v : ℕ) → Row ds v → size (below ds v) ≡ descendants ds v
  size_below v r = sym (below_size v (depth ds v) (below ds v) r refl (window_below v r))

  -- and the whole forest stands in the whole table
  window_whole : Window ds 0 0 (forest ds)
  window_whole = window_at 0 0 (omega arith) (λ h. omega (arith, k.first (omega arith)))

  pub stands_forest : Stands ds 0 (forest ds)
  stands_forest = window_whole.stands

  pub size_forest : size (forest ds) ≡ length ds
  size_forest =
      let least : length ds < suc (size (forest ds)) = lt_of_not-le (λ h. omega (arith, window_whole.ends (omega arith))) in
      omega (arith, window_whole.fits)
