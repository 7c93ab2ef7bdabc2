-- Ordered forests, whose entries carry something (a label, a row's number), and the tables that draw them. Assumes nothing.
use Rattle.std.specs.Prelude.{true, false, List, [], ◌∷◌, ◌++◌, ℕ, zero, suc, ◌+◌, ◌-◌, eqb, ltb, length, drop}
use Rattle.rows.specs.Rows.{depth}

-- nothing; or a first tree, by what its root carries and the forest below the root, and the forest beside that tree
pub data Forest (A : Type 0) : Type 0 where
  nil : Forest A
  cons : A → Forest A → Forest A → Forest A

module _ {A : Type 0} where
  -- how many entries there are
  abbrev pub size : Forest A → ℕ
  size nil = 0
  size (cons a f g) = suc (size f + size g)

  -- two forests side by side
  abbrev pub beside : Forest A → Forest A → Forest A
  beside nil h = h
  beside (cons a f g) h = cons a f (beside g h)

  -- the rows of a forest whose roots have depth d, in preorder: their depths, and what they carry
  abbrev pub depths : ℕ → Forest A → List ℕ
  depths d nil = []
  depths d (cons a f g) = d ∷ (depths (suc d) f ++ depths d g)

  abbrev pub carried : Forest A → List A
  carried nil = []
  carried (cons a f g) = a ∷ (carried f ++ carried g)

  -- the trees of depth d that rows draw: a shallower row ends them, a deeper row is below one already taken
  abbrev pub grow : List ℕ → List A → ℕ → Forest A
  grow [] ws d = nil
  grow (e ∷ ds) [] d = nil
  grow (e ∷ ds) (a ∷ ws) d =
      elim (ltb e d) [ true ↦ nil | false ↦ elim (eqb e d) [ true ↦ cons a (grow ds ws (suc d)) (grow ds ws d) | false ↦ grow ds ws d ] ]

-- the n numbers from v on
abbrev pub numbers : ℕ → ℕ → List ℕ
numbers v zero = []
numbers v (suc n) = v ∷ numbers (suc v) n

-- the trees of depth d that stand behind the first z rows, each entry its row's number
abbrev pub forest_at : List ℕ → ℕ → ℕ → Forest ℕ
forest_at ds z d = grow (drop z ds) (numbers (suc z) (length ds - z)) d

-- the forest of a table's rows
abbrev pub forest : List ℕ → Forest ℕ
forest ds = forest_at ds 0 0

-- the forest below row v: of row 0 it is the whole
abbrev pub below : List ℕ → ℕ → Forest ℕ
below ds zero = forest ds
below ds (suc i) = forest_at ds (suc i) (suc (depth ds (suc i)))
