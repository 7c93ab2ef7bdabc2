-- Document 01, "Embedding": a recipe in a listing, by the rows of their tables, and the same by their forests.
-- `Fit v t` says that recipe row v fits listing row t; what a row carries enters through it alone. Assumes nothing.
use Rattle.std.specs.Prelude.{◌≡◌, List, ◌↔◌, ℕ, length}
use Rattle.rows.specs.Rows.{at, Row, Ancestor, LeftOf}
use Rattle.rows.specs.Forest.{Forest, nil, cons, beside}

-- today's fit: equal labels
abbrev pub SameLabel : List ℕ → List ℕ → ℕ → ℕ → Type 0
SameLabel rl tl v t = at rl v ≡ at tl t

-- e embeds the rows S of the recipe: one to one into the listing's rows, each fits its image, and ancestry holds between
-- two rows exactly if it holds between their images, and likewise left-of
pub record Embeds (Fit : ℕ → ℕ → Type 0) (rd td : List ℕ) (S : ℕ → Type 0) (e : ℕ → ℕ) : Type 0 where
  pub lands : (v : ℕ) → S v → Row td (e v)
  pub fits : (v : ℕ) → S v → Fit v (e v)
  pub once : (u v : ℕ) → S u → S v → e u ≡ e v → u ≡ v
  pub ancestor : (u v : ℕ) → S u → S v → Ancestor rd u v ↔ Ancestor td (e u) (e v)
  pub left : (u v : ℕ) → S u → S v → LeftOf rd u v ↔ LeftOf td (e u) (e v)

-- the map m lists an image for each recipe row and is an embedding (000, Definition 1)
pub record Embedding (Fit : ℕ → ℕ → Type 0) (rd td m : List ℕ) : Type 0 where
  pub count : length m ≡ length rd
  pub embeds : Embeds Fit rd td (Row rd) (at m)

-- the listing includes the recipe
abbrev pub Included : (ℕ → ℕ → Type 0) → List ℕ → List ℕ → Type 0
Included Fit rd td = (m : List ℕ) × Embedding Fit rd td m

-- the same on forests: p lies in f, with other entries between
pub data LiesIn {A B : Type 0} (fit : A → B → Type 0) : Forest A → Forest B → Type 0 where
  done : {f : Forest B} → LiesIn fit nil f
  pair : {a : A} {b : B} {p q : Forest A} {f g : Forest B} → fit a b → LiesIn fit p f → LiesIn fit q g → LiesIn fit (cons a p q) (cons b f g)
  skip : {b : B} {p : Forest A} {f g : Forest B} → LiesIn fit p (beside f g) → LiesIn fit p (cons b f g)
