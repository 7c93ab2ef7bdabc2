-- Parts of a forest: its first trees, the others, and what stands down its left-most path. Assumes nothing.
use mathlib.Core.Path.{◌≡◌, refl, ap, ◌∙◌}
use Prim.Native.Nat.{ℕ, zero, suc, ◌+◌, ◌-◌, ◌≤◌, ◌<◌}
use native.Mathlib.Nat.{zero-add, suc-add}
use native.Mathlib.Omega.{arith}
use native.Mathlib.Decide.{dec_lt}
use Rattle.rows.specs.Forest.{Forest, nil, cons, beside}
use Rattle.matching.proofs.Lies.{roots}

-- the number that root i carries, counted from 1; 0 where there is none
abbrev pub root_at : ℕ → Forest ℕ → ℕ
root_at zero g = 0
root_at (suc i) nil = 0
root_at (suc zero) (cons a f g) = a
root_at (suc (suc i)) (cons a f g) = root_at (suc i) g

module _ {A : Type 0} where
  -- the first i trees, and the others
  abbrev pub first_trees : ℕ → Forest A → Forest A
  first_trees zero f = nil
  first_trees (suc i) nil = nil
  first_trees (suc i) (cons a f g) = cons a f (first_trees i g)

  abbrev pub other_trees : ℕ → Forest A → Forest A
  other_trees zero f = f
  other_trees (suc i) nil = nil
  other_trees (suc i) (cons a f g) = other_trees i g

  -- what stands v levels down the left-most path, and how many levels that path has
  abbrev pub spine : ℕ → Forest A → Forest A
  spine zero g = g
  spine (suc v) nil = nil
  spine (suc v) (cons a p q) = spine v p

  abbrev pub levels : Forest A → ℕ
  levels nil = 0
  levels (cons a p q) = suc (levels p)

  pub first_all : (f : Forest A) → first_trees (roots f) f ≡ f
  first_all nil = refl
  first_all (cons a f g) = rw (first_all g)

  first_nil : (i : ℕ) → first_trees i nil ≡ nil
  first_nil zero = refl
  first_nil (suc i) = refl

  pub first_other : (i j : ℕ) (f : Forest A) → beside (first_trees i f) (first_trees j (other_trees i f)) ≡ first_trees (i + j) f
  first_other zero j f = rw zero-add
  first_other (suc i) j nil = simp first_nil
  first_other (suc i) j (cons a f g) = rw (suc-add i j, first_other i j g)

  pub roots_first : (i : ℕ) (f : Forest A) → i ≤ roots f → roots (first_trees i f) ≡ i
  roots_first zero f h = refl
  roots_first (suc i) nil h = omega arith
  roots_first (suc i) (cons a f g) h = rw (roots_first i g (omega arith))

  pub roots_other : (i : ℕ) (f : Forest A) → roots (other_trees i f) ≡ roots f - i
  roots_other zero f = omega arith
  roots_other (suc i) nil = omega arith
  roots_other (suc i) (cons a f g) = omega (arith, roots_other i g)

  -- a front part of some first trees is itself some first trees
  pub front : (x y : Forest A) (i : ℕ) (f : Forest A) → first_trees i f ≡ beside x y → (first_trees (roots x) f ≡ x) × (roots x ≤ i)
  front nil y i f e = (refl, omega arith)
  front (cons a x x') y zero f e = let z : ◌≡◌ {A = ℕ} 0 1 = cc in absurd (omega arith)
  front (cons a x x') y (suc i) nil e = let z : ◌≡◌ {A = ℕ} 0 1 = cc in absurd (omega arith)
  front (cons a x x') y (suc i) (cons b f g) e = let k = front x' y i g (cc) in (cc k.0, omega arith)

  -- trees stand on each level, and none past the last
  pub level_some : (v : ℕ) (g : Forest A) → v < levels g → 1 ≤ roots (spine v g)
  level_some v nil h = absurd (omega arith)
  level_some zero (cons a p q) h = omega arith
  level_some (suc v) (cons a p q) h = level_some v p (omega arith)

  pub level_none : (g : Forest A) (v : ℕ) → levels g ≤ v → spine v g ≡ nil
  level_none nil zero h = refl
  level_none nil (suc v) h = refl
  level_none (cons a p q) zero h = absurd (omega arith)
  level_none (cons a p q) (suc v) h = level_none p v (omega arith)

  pub some_level : (v : ℕ) (g : Forest A) → 1 ≤ roots (spine v g) → v < levels g
  some_level v g o = go (dec_lt v (levels g))
    where
      go : Dec (v < levels g) → v < levels g
      go (yes u) = u
      go (no u) = absurd (omega (arith, ap roots (level_none g v (omega arith))))

  pub spine_suc : (v : ℕ) (g : Forest A) → spine (suc v) g ≡ spine 1 (spine v g)
  spine_suc zero g = refl
  spine_suc (suc v) nil = refl
  spine_suc (suc v) (cons a p q) = spine_suc v p

-- the roots of the other trees are those behind the first i
pub root_other : (i n : ℕ) (g : Forest ℕ) → root_at (suc n) (other_trees i g) ≡ root_at (i + suc n) g
root_other zero n g = let e : 0 + suc n ≡ suc n = omega arith in rw e
root_other (suc i) n nil = let e : suc i + suc n ≡ suc (i + suc n) = omega arith in rw e
root_other (suc i) n (cons a f g) =
    let e : suc i + suc n ≡ suc (suc (i + n)) = omega arith in
    let s : i + suc n ≡ suc (i + n) = omega arith in
    rw e (root_other i n g ∙ ap (λ (m : ℕ). root_at m g) s)
