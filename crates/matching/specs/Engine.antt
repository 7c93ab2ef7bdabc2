-- What the two corner functions do: the corners of the chains asked, of a forest and of a tree that joins. Assumes nothing.
use Rattle.std.specs.Prelude.{◌≡◌, ◌↔◌, Bool, true, false, Option, Some, None, IfSome, List, [], ◌∷◌, ℕ, suc, ◌+◌, ◌-◌, ◌≤◌, ◌<◌, eqb, length, get_or}
use Rattle.std.specs.declared.ops.ControlFlow.{ControlFlow}
use Rattle.std.specs.declared.ops.ControlFlow.TheVariants.{Continue, Break}
use Rattle.rows.specs.Limits.{listing_rows, deepest}
use Rattle.rows.specs.Rows.{at, Row, depth, descendants, last_row, Outline, WellFormed}
use Rattle.rows.specs.Forest.{Forest, nil, cons, below}
use Rattle.rows.specs.Embedding.{SameLabel}
use Rattle.matching.specs.Family.{right_sibling}
use Rattle.matching.specs.CornerRow.{join_row, corner_at}
use Rattle.matching.specs.Shape.{word, Shape, Foreign, Kinds}
use Rattle.matching.specs.Asked.{Asked, Keep, chain, path_chains}
use Rattle.matching.specs.EarliestClose.{Holds}
use Rattle.matching.specs.Placing.{HeldIn, FirstIn}
use Rattle.matching.specs.Path.{Path, Told, Kept, Logged}
use Rattle.matching.specs.Room.{room_words, room_for, recipe_of, same_label}
use Rattle.matching.specs.declared.plain.Plain.{Plain}

-- the shape and labels of a recipe, and the depths and labels of a listing, are whole
pub record Ready (ws rl td tl : List ℕ) : Type 0 where
  pub outline : Outline (recipe_of ws rl)
  pub shallow : (v : ℕ) → Row (recipe_of ws rl) v → depth (recipe_of ws rl) v ≤ deepest
  pub shape : Shape (recipe_of ws rl) ws
  pub listing : WellFormed td
  pub kinds : Kinds rl ws
  pub names : length tl ≡ length td
  pub few : length td ≤ listing_rows

-- q chains are asked, and from base on there is room for them and for the levels below depth d
pub record Begins (ws rl asked rs : List ℕ) (base q d : ℕ) : Type 0 where
  pub chains : Asked (length (recipe_of ws rl)) asked q
  pub words : length rs ≡ room_words
  pub room : base + room_for (length (recipe_of ws rl)) q (64 - d) ≤ room_words

-- then the q words from base on are what `value` says, the chains asked and the room before base stayed
pub record Ends (ws rl asked rs : List ℕ) (base q : ℕ) (value : ℕ → ℕ) (us ss : List ℕ) : Type 0 where
  pub chains : Asked (length (recipe_of ws rl)) us q
  pub keep : Keep asked us q
  pub words : length ss ≡ room_words
  pub before : (j : ℕ) → j < base → get_or ss j 0 ≡ get_or rs j 0
  pub corners : (i : ℕ) → i < q → get_or ss (base + i) 0 ≡ value i
  pub path : path_chains us ≡ path_chains asked

-- the tree whose first row stands behind `first` rows
abbrev pub tree_at : List ℕ → ℕ → Forest ℕ
tree_at td first = cons (suc first) (below td (suc first)) nil

-- the corner on chain x of the listing's forest f
abbrev pub corner_of : List ℕ → List ℕ → List ℕ → Forest ℕ → ℕ → ℕ
corner_of ws rl tl f x = corner_at (same_label rl tl) (recipe_of ws rl) f x

-- the corner a, with the tree joined, on chain x
abbrev pub with_tree : List ℕ → List ℕ → List ℕ → List ℕ → ℕ → ℕ → ℕ → ℕ
with_tree ws rl td tl first x a =
    join_row (recipe_of ws rl) a (corner_of ws rl tl (tree_at td first) x) (corner_of ws rl tl (tree_at td first) (right_sibling (recipe_of ws rl) a))

-- chains are asked, of which the first k make a path: its first row is sought; where k is 0, none is
pub record Sought (ws rl asked : List ℕ) (q k : ℕ) : Type 0 where
  pub some : 1 ≤ q
  pub few : k ≤ q
  pub path : Path (recipe_of ws rl) asked k

-- a pass over the listing rows behind `first` rows, up to row `last`, found row t: the first to close that holds the row sought
pub record Found (ws rl td tl asked ls : List ℕ) (k first last t : ℕ) (us ss ms : List ℕ) : Type 0 where
  pub some : 1 ≤ k
  pub found : FirstIn td (Holds (SameLabel rl tl) (recipe_of ws rl) td (chain asked 0)) (suc first) last t
  pub words : Asked (length (recipe_of ws rl)) us k × (length ss ≡ room_words)
  pub logged : Logged (SameLabel rl tl) (recipe_of ws rl) td asked k ls first t us ms

-- or it went through, with the corners that `value` says: none of these rows holds the row sought, and the log tells of them all
pub record Through (ws rl td tl asked rs ls : List ℕ) (base q : ℕ) (value : ℕ → ℕ) (k first last : ℕ) (us ss ms : List ℕ) : Type 0 where
  pub ends : Ends ws rl asked rs base q value us ss
  pub none : 1 ≤ k → HeldIn (SameLabel rl tl) (recipe_of ws rl) td (chain asked 0) (suc first) last → ⊥
  pub told : (y : ℕ) → first < y → y ≤ last → Told (SameLabel rl tl) (recipe_of ws rl) td asked k ms y
  pub kept : Kept ls (suc first) last ms

-- how a pass ends: it breaks with the row found, or it went through and goes on behind row `last`
abbrev pub Passed : (ws rl td tl asked rs ls : List ℕ) (base q : ℕ) (value : ℕ → ℕ) (k first last : ℕ) → ControlFlow ℕ ℕ → (us ss ms : List ℕ) → Type 0
Passed ws rl td tl asked rs ls base q value k first last (Continue r) us ss ms =
    (r ≡ last) × Through ws rl td tl asked rs ls base q value k first last us ss ms
Passed ws rl td tl asked rs ls base q value k first last (Break t) us ss ms = Found ws rl td tl asked ls k first last t us ss ms

-- a test of all rows below the listing row behind `first` rows, by how many rows stand before them, goes well, and r is the last of them
pub record TreeTo (Tested : ℕ → Bool → Type 0) (td : List ℕ) (first r : ℕ) : Type 0 where
  pub last : r ≡ last_row td (suc first)
  pub tested : (y : ℕ) → suc first < y → y ≤ r → Tested (y - 1) true

-- so it is where a row is given; else there are rows below it
abbrev pub TreeEnd : (Tested : ℕ → Bool → Type 0) (td : List ℕ) (first : ℕ) → Option ℕ → Type 0
TreeEnd Tested td first (Some r) = TreeTo Tested td first r
TreeEnd Tested td first None = 1 ≤ descendants td (suc first)

-- all rows below the listing row behind `first` rows have labels of kinds that the recipe has not, and r is the last of them
pub record BareTo (ws td tl : List ℕ) (first r : ℕ) : Type 0 where
  pub last : r ≡ last_row td (suc first)
  pub foreign : (y : ℕ) → suc first < y → y ≤ r → Foreign ws (at tl y)

-- such a row is bare; one that is not has rows below it
abbrev pub Bare : (ws td tl : List ℕ) (first : ℕ) → Option ℕ → Type 0
Bare ws td tl first (Some r) = BareTo ws td tl first r
Bare ws td tl first None = 1 ≤ descendants td (suc first)

-- the left-most leaf of one of the first z chains asked has the label a
abbrev pub LeafAsked : List ℕ → List ℕ → List ℕ → ℕ → ℕ → Type 0
LeafAsked ws rl asked z a = (i : ℕ) × (i < z) × (at rl (word 2 ws (chain asked i)) ≡ a)

-- the row that a corner at row v needs next: its right sibling, or else its parent
abbrev pub next_row : List ℕ → ℕ → ℕ
next_row ws v = elim (eqb (word 1 ws v) 0) [ true ↦ word 0 ws v | false ↦ word 1 ws v ]

-- such a leaf, and the row that it needs next, have the label a
abbrev pub PairAsked : List ℕ → List ℕ → List ℕ → ℕ → ℕ → Type 0
PairAsked ws rl asked z a =
    (i : ℕ) × (i < z) × (at rl (word 2 ws (chain asked i)) ≡ a) × (at rl (next_row ws (word 2 ws (chain asked i))) ≡ a)

-- whether there is such a leaf is given, unless there is such a pair
abbrev pub Gain : (ws rl asked : List ℕ) (z a : ℕ) → Option Bool → Type 0
Gain ws rl asked z a (Some joins) = ((joins ≡ true) ↔ LeafAsked ws rl asked z a) × (PairAsked ws rl asked z a → ⊥)
Gain ws rl asked z a None = PairAsked ws rl asked z a

-- the rows of the tree of the listing row behind `first` rows all bear one label, and r is the last of them
pub record OneLabelTo (td tl : List ℕ) (first r : ℕ) : Type 0 where
  pub last : r ≡ last_row td (suc first)
  pub same : (y : ℕ) → first < y → y ≤ r → at tl y ≡ at tl (suc first)

-- so it is where a row is given
abbrev pub OneLabel : (td tl : List ℕ) (first : ℕ) → Option ℕ → Type 0
OneLabel td tl first (Some r) = OneLabelTo td tl first r
OneLabel td tl first None = Unit {0}

-- such a tree gives the first z chains asked no more than its first row alone; where it does not join, it gives them nothing
pub record PlainTo (ws rl td tl asked : List ℕ) (z first : ℕ) (p : Plain) : Type 0 where
  pub tree : OneLabelTo td tl first p.end
  pub alone : PairAsked ws rl asked z (at tl (suc first)) → ⊥
  pub idle : p.joins ≡ false → LeafAsked ws rl asked z (at tl (suc first)) → ⊥

-- so it is where a tree is given
abbrev pub PlainTree : (ws rl td tl asked : List ℕ) (z first : ℕ) → Option Plain → Type 0
PlainTree ws rl td tl asked z first (Some p) = PlainTo ws rl td tl asked z first p
PlainTree ws rl td tl asked z first None = Unit {0}

-- t is the first listing row to close that holds recipe row 1, and the log tells of its tree and of row 1's chain
pub record KnownAt (ws rl td tl ls : List ℕ) (t : ℕ) : Type 0 where
  pub first : FirstIn td (Holds (SameLabel rl tl) (recipe_of ws rl) td 1) 1 (length td) t
  pub path : Path (recipe_of ws rl) (1 ∷ []) 1
  pub told : (y : ℕ) → t ≤ y → y ≤ last_row td t → Told (SameLabel rl tl) (recipe_of ws rl) td (1 ∷ []) 1 ls y

-- so it is where a row is given
abbrev pub Known : (ws rl td tl ls : List ℕ) → Option ℕ → Type 0
Known ws rl td tl ls t = IfSome t (KnownAt ws rl td tl ls)
