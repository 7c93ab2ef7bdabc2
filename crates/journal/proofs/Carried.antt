-- What the steps of an accepted strike leave together: the struck slices. Assumes nothing.
use mathlib.Core.Path.{◌≡◌, refl, sym, ap, ap₂, ◌∙◌}
use mathlib.Core.List.{List, [], ◌∷◌, ◌++◌}
use Prim.Native.Nat.{ℕ, zero, suc, ◌+◌, ◌-◌, ◌≤◌, ◌<◌}
use native.Mathlib.Omega.{arith}
use lib.ListN.{length, get_or, take, drop}
use lib.Seq.{length-take-le, take-append-le, drop_at, take-take, get_or-take}
use Rattle.rows.specs.Rows.{at, Row, depth, descendants}
use Rattle.rows.proofs.Depths.{last_fits, inside_deeper}
use Rattle.rows.proofs.AtLaws.{at_row}
use Rattle.journal.specs.Strike.{first_by, strike_depths, without}
use Rattle.journal.specs.Lent.{Lent, used_depths, used_labels, struck}
use Rattle.journal.specs.Refusals.{Strikable}
use Rattle.journal.proofs.Shifts.{changed}

module _ (f : ℕ → ℕ) where
  take_first : (n b : ℕ) (xs : List ℕ) → take n (first_by f b xs) ≡ first_by f b (take n xs)
  take_first n zero xs = refl
  take_first zero (suc b) xs = refl
  take_first (suc n) (suc b) [] = refl
  take_first (suc n) (suc b) (x ∷ xs) = ap (λ (l : List ℕ). f x ∷ l) (take_first n b xs)

  drop_first : (n b : ℕ) (xs : List ℕ) → b ≤ n → drop n (first_by f b xs) ≡ drop n xs
  drop_first n zero xs h = refl
  drop_first zero (suc b) xs h = absurd (omega arith)
  drop_first (suc n) (suc b) [] h = refl
  drop_first (suc n) (suc b) (x ∷ xs) h = drop_first n b xs (omega arith)

  -- the used rows are changed, the slots behind them stay
  pub take_changed : (r n b : ℕ) (xs : List ℕ) → r ≤ n → r ≤ length xs → take n (changed f r b xs) ≡ changed f r b (take n xs)
  take_changed zero n b xs h l = take_first n b xs
  take_changed (suc r) zero b xs h l = absurd (omega arith)
  take_changed (suc r) (suc n) b [] h l = absurd (omega arith)
  take_changed (suc r) (suc n) b (x ∷ xs) h l = ap (λ (l : List ℕ). x ∷ l) (take_changed r n b xs (omega arith) (omega arith))

  pub drop_changed : (r n b : ℕ) (xs : List ℕ) → r + b ≤ n → r ≤ length xs → drop n (changed f r b xs) ≡ drop n xs
  drop_changed zero n b xs h l = drop_first n b xs (omega arith)
  drop_changed (suc r) zero b xs h l = absurd (omega arith)
  drop_changed (suc r) (suc n) b [] h l = absurd (omega arith)
  drop_changed (suc r) (suc n) b (x ∷ xs) h l = drop_changed r n b xs (omega arith) (omega arith)

  -- without the row before the changed ones
  without_changed : (r b : ℕ) (xs : List ℕ) → 1 ≤ r → r ≤ length xs → without (changed f r b xs) r ≡ take (r - 1) xs ++ first_by f b (drop r xs)
  without_changed zero b xs h l = absurd (omega arith)
  without_changed (suc i) b xs h l =
      let n : length (take (suc i) xs) ≡ suc i = length-take-le (suc i) xs l in
      let z : suc i - 1 ≡ i = omega arith in
      rw z (ap₂ ◌++◌ (take-append-le i (take (suc i) xs) _ (omega arith) ∙ take-take i (suc i) xs (omega arith)) (drop_at (take (suc i) xs) _ (suc i) n))

module _ (s : Lent) (r b : ℕ) (k : Strikable s r) (e : b ≡ descendants (used_depths s) r) where
  used : length (used_depths s) ≡ s.rows
  used = length-take-le s.rows s.depths k.sound.fits

  there : Row (used_depths s) r
  there = (k.first, omega (arith, k.last, used))

  pub below_fits : r + b ≤ s.rows
  below_fits = omega (arith, last_fits (used_depths s) r there, used)

  pub below_deep : (i : ℕ) → r ≤ i → i < r + b → 1 ≤ get_or s.depths i 0
  below_deep i l h =
      omega (
        arith,
        inside_deeper (used_depths s) r (suc i) k.first (omega arith) (omega arith),
        get_or-take s.rows s.depths i 0 (omega (arith, below_fits)),
      )

  -- the words of the entry
  pub entry_label : get_or s.labels (r - 1) 0 ≡ at (used_labels s) r
  entry_label = sym (at_row (used_labels s) r k.first ∙ get_or-take s.rows s.labels (r - 1) 0 (omega (arith, k.first, k.last)))

  pub entry_depth : get_or s.depths (r - 1) 0 ≡ depth (used_depths s) r
  entry_depth = sym (at_row (used_depths s) r k.first ∙ get_or-take s.rows s.depths (r - 1) 0 (omega (arith, k.first, k.last)))

  -- the depths, once the descendants are lowered and the gap is closed
  pub depths_struck : (xs ys : List ℕ) → xs ≡ changed (λ d. d - 1) r b s.depths → ys ≡ without (take s.rows xs) r ++ (0 ∷ drop s.rows xs)
      → ys ≡ (struck s r).depths
  depths_struck xs ys p q =
      let f : r ≤ length s.depths = omega (arith, k.last, k.sound.fits) in
      q
      ∙ ap (λ (l : List ℕ). without (take s.rows l) r ++ (0 ∷ drop s.rows l)) p
      ∙ ap₂ (λ (l m : List ℕ). l ++ (0 ∷ m))
      (ap (λ (l : List ℕ). without l r) (take_changed (λ d. d - 1) r s.rows b s.depths k.last f)
      ∙ without_changed (λ d. d - 1) r b (used_depths s) k.first there.1
      ∙ plain r k.first e)
      (drop_changed (λ d. d - 1) r s.rows b s.depths below_fits f)
    where
      plain : (r : ℕ) → 1 ≤ r → b ≡ descendants (used_depths s) r
          → take (r - 1) (used_depths s) ++ first_by (λ d. d - 1) b (drop r (used_depths s)) ≡ strike_depths (used_depths s) r
      plain zero h e = absurd (omega arith)
      plain (suc i) h e = let z : suc i - 1 ≡ i = omega arith in rw (z, e)
