-- The room in which the corners of the chains asked are kept, level below level. Assumes nothing.
use Rattle.std.specs.Prelude.{◌≡◌, Bool, true, false, List, [], ◌∷◌, ℕ, zero, suc, ◌+◌, ◌≤◌, ◌<◌, min, eqb, length, get_or}
use Rattle.rows.specs.Rows.{at}
use Rattle.matching.specs.CornerRow.{close_row, join_row}
use Rattle.matching.specs.Shape.{word}
use Rattle.matching.specs.Asked.{chain, noted}

-- the words of the room
abbrev pub room_words : ℕ
room_words = 14592

-- how much n levels of depth need for a recipe of m rows, where the first keeps q corners: each next one at most twice as many, and
-- at most m
abbrev pub room_for : ℕ → ℕ → ℕ → ℕ
room_for m q zero = 0
room_for m q (suc n) = q + room_for m (min m (q + q)) n

-- of the room rs, the q words from base on became what `value` says, and all others stayed: ss
pub record Written (rs : List ℕ) (base q : ℕ) (value : ℕ → ℕ) (ss : List ℕ) : Type 0 where
  pub size : length ss ≡ length rs
  pub new : (i : ℕ) → i < q → get_or ss (base + i) 0 ≡ value i
  pub before : (j : ℕ) → j < base → get_or ss j 0 ≡ get_or rs j 0
  pub after : (j : ℕ) → base + q ≤ j → get_or ss j 0 ≡ get_or rs j 0

-- a recipe row has the label a; recipe row v has the label of listing row t
abbrev pub named : List ℕ → ℕ → ℕ → Bool
named rl v a = eqb (at rl v) a

abbrev pub same_label : List ℕ → List ℕ → ℕ → ℕ → Bool
same_label rl tl v t = eqb (at rl v) (at tl t)

-- the recipe that a shape and its labels are of: the depth words of its rows
abbrev pub depth_words : List ℕ → ℕ → ℕ → List ℕ
depth_words ws v zero = []
depth_words ws v (suc n) = word 3 ws v ∷ depth_words ws (suc v) n

abbrev pub recipe_of : List ℕ → List ℕ → List ℕ
recipe_of ws rl = depth_words ws 1 (length rl)

-- what each loop writes. Close a row with the label a over the corners of the rows below it:
abbrev pub closed : List ℕ → List ℕ → ℕ → List ℕ → List ℕ → ℕ → ℕ → ℕ
closed ws rl a asked rs base i = close_row (named rl) (recipe_of ws rl) (chain asked i) a (get_or rs (base + i) 0)

-- the corner, kept from base on, of the chain after the corner a; 0 where there is none
unfoldable pub following : List ℕ → List ℕ → List ℕ → ℕ → ℕ → ℕ
following ws asked rs base a = elim (eqb (word 1 ws a) 0) [ true ↦ 0 | false ↦ get_or rs (base + noted asked (word 1 ws a)) 0 ]

-- join the tree whose corners are kept behind the q corners from base on:
abbrev pub joined : List ℕ → List ℕ → List ℕ → List ℕ → ℕ → ℕ → ℕ → ℕ
joined ws rl asked rs base q i =
    join_row (recipe_of ws rl) (get_or rs (base + i) 0) (get_or rs (base + q + i) 0) (following ws asked rs (base + q) (get_or rs (base + i) 0))

-- the corner of a row with the label a that has no row below it, and join it:
abbrev pub alone : List ℕ → List ℕ → ℕ → ℕ → ℕ
alone ws rl a x = close_row (named rl) (recipe_of ws rl) x a 0

abbrev pub joined_alone : List ℕ → List ℕ → ℕ → List ℕ → List ℕ → ℕ → ℕ → ℕ
joined_alone ws rl a asked rs base i =
    join_row (recipe_of ws rl) (get_or rs (base + i) 0) (alone ws rl a (chain asked i)) (alone ws rl a (word 1 ws (get_or rs (base + i) 0)))

-- what a join reads is there: rows of the recipe, and the corner on the chain after among the z kept behind the q corners
pub record Joins (ws rl asked rs : List ℕ) (base q z i : ℕ) : Type 0 where
  pub left : get_or rs (base + i) 0 ≤ length (recipe_of ws rl)
  pub tree : get_or rs (base + q + i) 0 ≤ length (recipe_of ws rl)
  pub right : word 1 ws (get_or rs (base + i) 0) ≤ 256
  pub place : 1 ≤ word 1 ws (get_or rs (base + i) 0) → noted asked (word 1 ws (get_or rs (base + i) 0)) < z
  pub next : following ws asked rs (base + q) (get_or rs (base + i) 0) ≤ length (recipe_of ws rl)
