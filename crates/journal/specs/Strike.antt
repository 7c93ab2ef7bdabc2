-- Document 01, "Strike, undo and journal": what a strike and an undo make of a table's used rows. Rows are numbered from 1. Assumes nothing.
use Rattle.std.specs.Prelude.{List, [], ◌∷◌, ◌++◌, ℕ, zero, suc, ◌-◌, take, drop}
use Rattle.rows.specs.Rows.{descendants}

-- the first n of a list, each changed by f
abbrev pub first_by : (ℕ → ℕ) → ℕ → List ℕ → List ℕ
first_by f zero xs = xs
first_by f (suc n) [] = []
first_by f (suc n) (x ∷ xs) = f x ∷ first_by f n xs

-- the first n rows lose one from their depths
abbrev pub lower : ℕ → List ℕ → List ℕ
lower n ds = first_by (λ d. d - 1) n ds

-- the first n rows gain one
abbrev pub raise : ℕ → List ℕ → List ℕ
raise n ds = first_by suc n ds

-- the depths that a strike of row r leaves: row r goes, its descendants lose one from their depths, later rows move up a place
abbrev pub strike_depths : List ℕ → ℕ → List ℕ
strike_depths ds zero = ds
strike_depths ds (suc i) = take i ds ++ lower (descendants ds (suc i)) (drop (suc i) ds)

-- what the rows carry, without what row r carried
abbrev pub without : {A : Type 0} → List A → ℕ → List A
without xs zero = xs
without xs (suc i) = take i xs ++ drop (suc i) xs

-- the depths that an undo leaves: a row of depth d returns at place r, and the n rows that were its descendants gain one
abbrev pub undo_depths : List ℕ → ℕ → ℕ → ℕ → List ℕ
undo_depths ds zero d n = ds
undo_depths ds (suc i) d n = take i ds ++ (d ∷ raise n (drop i ds))

-- what the rows carry, with a put back at place r
abbrev pub put_back : {A : Type 0} → List A → ℕ → A → List A
put_back xs zero a = xs
put_back xs (suc i) a = take i xs ++ (a ∷ drop i xs)
