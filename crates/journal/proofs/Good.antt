-- Well-formed tables, row by row from the first. Assumes nothing.
use mathlib.Core.Path.{◌≡◌, refl}
use mathlib.Core.List.{List, [], ◌∷◌, ◌++◌}
use Prim.Native.Nat.{ℕ, zero, suc, ◌≤◌, ◌<◌}
use native.Mathlib.Omega.{arith}
use lib.ListN.{length, get_or, take, drop}
use Rattle.rows.specs.Limits.{deepest}
use Rattle.rows.specs.Rows.{Row, depth, WellFormed}
use Rattle.rows.specs.FirstBad.{most_at}
use Rattle.rows.proofs.Flat.{Steps, outline_steps, steps_outline}

-- the first depth is at most most, each later one at most one more than the one before, and none exceeds the deepest
abbrev pub Good : ℕ → List ℕ → Type 0
Good most [] = Unit {0}
Good most (d ∷ ds) = (d ≤ most) × (d ≤ deepest) × Good (suc d) ds

pub well_good : (ds : List ℕ) → WellFormed ds → Good 0 ds
well_good ds w = go 0 ds (outline_steps ds w.outline) (λ i h. w.shallow (suc i) (omega arith))
  where
    go : (m : ℕ) (ds : List ℕ) → Steps m ds → ((i : ℕ) → i < length ds → get_or ds i 0 ≤ deepest) → Good m ds
    go m [] k l = tt
    go m (d ∷ ds) k l = (k.0, l 0 (omega arith), go (suc d) ds k.1 (λ i h. l (suc i) (omega arith)))

pub good_well : (ds : List ℕ) → Good 0 ds → WellFormed ds
good_well ds g = record { outline = steps_outline ds (steps 0 ds g); shallow = λ v r. shallow v r }
  where
    steps : (m : ℕ) (ds : List ℕ) → Good m ds → Steps m ds
    steps m [] g = tt
    steps m (d ∷ ds) g = (g.0, steps (suc d) ds g.2)

    low : (m : ℕ) (ds : List ℕ) (i : ℕ) → Good m ds → i < length ds → get_or ds i 0 ≤ deepest
    low m [] i g h = absurd (omega arith)
    low m (d ∷ ds) zero g h = g.1
    low m (d ∷ ds) (suc i) g h = low (suc d) ds i g.2 (omega arith)

    shallow : (v : ℕ) → Row ds v → depth ds v ≤ deepest
    shallow zero r = absurd (omega arith)
    shallow (suc i) r = low 0 ds i g (omega arith)

-- the most that the row behind the first i may be deep
abbrev pub most_from : ℕ → ℕ → List ℕ → ℕ
most_from m zero ds = m
most_from m (suc i) [] = m
most_from m (suc i) (e ∷ ds) = most_from (suc e) i ds

pub most_at_lem : (ds : List ℕ) (i : ℕ) → i ≤ length ds → most_from 0 i ds ≡ most_at ds (suc i)
most_at_lem ds zero h = refl
most_at_lem ds (suc i) h = go 0 ds i h
  where
    go : (m : ℕ) (ds : List ℕ) (i : ℕ) → i < length ds → most_from m (suc i) ds ≡ suc (get_or ds i 0)
    go m [] i h = absurd (omega arith)
    go m (e ∷ ds) zero h = refl
    go m (e ∷ ds) (suc i) h = go (suc e) ds i (omega arith)

pub good_behind : (m i : ℕ) (ds : List ℕ) → Good m ds → Good (most_from m i ds) (drop i ds)
good_behind m zero ds g = g
good_behind m (suc i) [] g = tt
good_behind m (suc i) (e ∷ ds) g = good_behind (suc e) i ds g.2

-- other rows behind the first i
pub good_put : (m i : ℕ) (ds xs : List ℕ) → i ≤ length ds → Good m ds → Good (most_from m i ds) xs → Good m (take i ds ++ xs)
good_put m zero ds xs h g k = k
good_put m (suc i) [] xs h g k = absurd (omega arith)
good_put m (suc i) (e ∷ ds) xs h g k = (g.0, g.1, good_put (suc e) i ds xs (omega arith) g.2 k)

pub good_rest : (m i : ℕ) (ds xs : List ℕ) → i ≤ length ds → Good m (take i ds ++ xs) → Good (most_from m i ds) xs
good_rest m zero ds xs h g = g
good_rest m (suc i) [] xs h g = absurd (omega arith)
good_rest m (suc i) (e ∷ ds) xs h g = good_rest (suc e) i ds xs (omega arith) g.2

-- the same by an index, of every depth
pub depth_low : (ds : List ℕ) → WellFormed ds → (i : ℕ) → i < length ds → get_or ds i 0 ≤ deepest
depth_low ds w i h = w.shallow (suc i) (omega arith)
