-- A path down the recipe, and the log in which a pass notes for each listing row which rows of the path its tree includes.
-- Assumes nothing.
use Rattle.std.specs.Prelude.{◌≡◌, true, false, Option, Some, None, List, ℕ, suc, ◌+◌, ◌-◌, ◌*◌, ◌/◌, ◌%◌, ◌≤◌, ◌<◌, leb, length, get_or, set, drop}
use Rattle.rows.specs.Limits.{listing_rows}
use Rattle.rows.specs.Rows.{at, Row, depth, descendants, last_row, Ancestor, LeftOf}
use Rattle.matching.specs.Family.{parent}
use Rattle.matching.specs.CornerRow.{Chained}
use Rattle.matching.specs.EarliestClose.{Holds}
use Rattle.matching.specs.Placing.{HeldIn}
use Rattle.matching.specs.Shape.{word}
use Rattle.matching.specs.Asked.{Asked, Keep, Asks, chain}
use Rattle.matching.specs.Room.{room_words, room_for}

-- the first k chains asked make a path down the recipe: each begins at a row with rows below it, which is a child of a row of the chain before
pub record Path (rd asked : List ℕ) (k : ℕ) : Type 0 where
  pub rows : (i : ℕ) → i < k → Row rd (chain asked i)
  pub inner : (i : ℕ) → i < k → 1 ≤ descendants rd (chain asked i)
  pub down : (i : ℕ) → suc i < k → Chained rd (chain asked i) (parent rd (chain asked (suc i)))

-- row v stands at place i of this path, i levels below its first row: on one of its chains, above the next, with rows below it
pub record OnPath (rd asked : List ℕ) (k i v : ℕ) : Type 0 where
  pub nth : ℕ
  pub few : nth < k
  pub row : Row rd v
  pub inner : 1 ≤ descendants rd v
  pub on : Chained rd (chain asked nth) v
  pub deep : depth rd v ≡ depth rd (chain asked 0) + i
  pub high : suc nth < k → depth rd v < depth rd (chain asked (suc nth))

-- all chains asked make a path, and there is room for the levels of a pass with it that begins no higher than its first row stands
pub record PathAsked (rd asked : List ℕ) (k : ℕ) : Type 0 where
  pub some : 1 ≤ k
  pub chains : Asked (length rd) asked k
  pub path : Path rd asked k
  pub room : room_for (length rd) k (64 - depth rd (chain asked 0)) ≤ room_words

-- of the chains us, so many are asked: the k of ws, where u has the left-most leaf of the last of them; else row u too, or none where that
-- would be more than `most`, and all is as it was
pub data AsksNext (shape ws : List ℕ) (k most u : ℕ) (us : List ℕ) (r : Option ℕ) : Type 0 where
  chained : word 2 shape u ≡ word 2 shape (chain ws (k - 1)) → us ≡ ws → r ≡ Some k → AsksNext shape ws k most u us r
  asks : (n : ℕ) → (word 2 shape u ≡ word 2 shape (chain ws (k - 1)) → ⊥) → k < most → Asks ws k u us n → r ≡ Some n → AsksNext shape ws k most u us r
  stops : (word 2 shape u ≡ word 2 shape (chain ws (k - 1)) → ⊥) → most ≤ k → us ≡ ws → r ≡ None → AsksNext shape ws k most u us r

-- the tree at listing row t includes recipe row v with all its descendants
abbrev pub Within : (ℕ → ℕ → Type 0) → List ℕ → List ℕ → ℕ → ℕ → Type 0
Within Fit rd td v t = HeldIn Fit rd td v t (last_row td t)

-- the log has six bits for each listing row: for the first 3,072 rows the lower six of their bytes, for the others the upper two of three bytes
abbrev pub log_bytes : ℕ
log_bytes = 3072

unfoldable pub logged : List ℕ → ℕ → ℕ
logged ls t =
    elim (leb t log_bytes) [
      | true ↦ at ls t % 64
      | false ↦ elim (leb t listing_rows) [ true ↦ at ls (t - 3072) / 64 + 4 * (at ls (t - 2048) / 64) + 16 * (at ls (t - 1024) / 64) | false ↦ 0 ]
    ]

-- the upper two bits of byte i become x
abbrev pub topped : List ℕ → ℕ → ℕ → List ℕ
topped ls i x = set ls i (64 * x + get_or ls i 0 % 64)

-- of listing row t and recipe row v at place i of a path: the log has at most i for t if t holds v; and where t fits v, only if t's tree
-- includes v
abbrev pub Tells : (ℕ → ℕ → Type 0) → List ℕ → List ℕ → List ℕ → ℕ → ℕ → ℕ → Type 0
Tells Fit rd td ls t i v = (Holds Fit rd td v t → logged ls t ≤ i) × (Fit v t → logged ls t ≤ i → Within Fit rd td v t)

-- so the log tells of listing row t and the rows of the path behind its first, which is sought itself, as far as six bits go: 63 is the
-- place of no row
abbrev pub Told : (ℕ → ℕ → Type 0) → List ℕ → List ℕ → List ℕ → ℕ → List ℕ → ℕ → Type 0
Told Fit rd td asked k ls t = (i v : ℕ) → 1 ≤ i → i < 63 → OnPath rd asked k i v → Tells Fit rd td ls t i v

-- the log ls got `place` for the row behind `first` rows, unless there is no path: ms
pub record Put (ls : List ℕ) (first place k : ℕ) (ms : List ℕ) : Type 0 where
  pub size : length ms ≡ log_bytes
  pub here : 1 ≤ k → logged ms (suc first) ≡ place
  pub others : (y : ℕ) → (y ≡ suc first → ⊥) → logged ms y ≡ logged ls y

-- of the log ls all that changed stands at the rows lo to hi: ms
pub record Kept (ls : List ℕ) (lo hi : ℕ) (ms : List ℕ) : Type 0 where
  pub size : length ms ≡ log_bytes
  pub stays : (y : ℕ) → (lo ≤ y → y ≤ hi → ⊥) → logged ms y ≡ logged ls y

-- the log ls got 63, the place of no row, for the rows behind `first` rows up to row r, unless there is no path: ms
pub record Blank (ls : List ℕ) (first r k : ℕ) (ms : List ℕ) : Type 0 where
  pub none : 1 ≤ k → (y : ℕ) → first < y → y ≤ r → logged ms y ≡ 63
  pub kept : Kept ls (suc first) r ms

-- a search behind `first` rows came upon row t: the path still stands in the chains us, the log tells of the tree at t, and of the rows
-- before the search and behind that tree it says what it did
pub record Logged (Fit : ℕ → ℕ → Type 0) (rd td asked : List ℕ) (k : ℕ) (ls : List ℕ) (first t : ℕ) (us ms : List ℕ) : Type 0 where
  pub keep : Keep asked us k
  pub told : (y : ℕ) → t ≤ y → y ≤ last_row td t → Told Fit rd td asked k ms y
  pub kept : Kept ls (suc first) (last_row td t) ms

-- the corner w on the i-th of a path's k chains tells of it: it is a row, and stands above the next chain
abbrev pub Met : List ℕ → List ℕ → ℕ → ℕ → ℕ → Type 0
Met ws asked k i w = (1 ≤ w) × (suc i < k → word 3 ws w < word 3 ws (chain asked (suc i)))

-- of the k corners from base on, r is how far the first that tells of the path stands below the path's first row; 63 where none does
pub data FirstPlace (ws asked rs : List ℕ) (base k r : ℕ) : Type 0 where
  met : (i : ℕ) → i < k → ((j : ℕ) → j < i → Met ws asked k j (get_or rs (base + j) 0) → ⊥) → Met ws asked k i (get_or rs (base + i) 0)
      → r ≡ word 3 ws (get_or rs (base + i) 0) - word 3 ws (chain asked 0) → FirstPlace ws asked rs base k r
  none : ((j : ℕ) → j < k → Met ws asked k j (get_or rs (base + j) 0) → ⊥) → r ≡ 63 → FirstPlace ws asked rs base k r

-- slot c of the map m is as before in m', or row c stands on the path behind its first row and has got its place as a mark, and so have the rows
-- of the path between. The place is below `end`
pub data Slot (rd asked : List ℕ) (k end : ℕ) (m m' : List ℕ) (c : ℕ) : Type 0 where
  stays : at m' c ≡ at m c → Slot rd asked k end m m' c
  marked : (i : ℕ) → 1 ≤ i → i < end → OnPath rd asked k i c → at m' c ≡ i → (chain asked 0 < parent rd c → 1 ≤ at m' (parent rd c))
      → Slot rd asked k end m m' c

-- so it is of all slots of the map; those behind the recipe's rows stayed
pub record Marks (rd asked : List ℕ) (k end : ℕ) (m m' : List ℕ) : Type 0 where
  pub size : length m' ≡ length m
  pub rest : drop (length rd) m' ≡ drop (length rd) m
  pub slots : (c : ℕ) → Slot rd asked k end m m' c

-- what the marks in the map say, once its first n rows have their images. A mark at a later row c says where on a path c stands whose
-- upper rows have images or marks themselves; and of c the log tells for the listing rows below the image of one of its ancestors, right of
-- the images of all rows left of c
pub record Marked (Fit : ℕ → ℕ → Type 0) (rd td ls m : List ℕ) (n : ℕ) : Type 0 where
  pub up : (c : ℕ) → n < c → c ≤ length rd → 1 ≤ at m c → n < parent rd c → 1 ≤ at m (parent rd c)
  pub told : (c : ℕ) → n < c → c ≤ length rd → 1 ≤ at m c
      → (v : ℕ) × Ancestor rd v c × (v ≤ n)
      × ((t : ℕ) → at m v ≤ t → t ≤ last_row td (at m v) → ((y : ℕ) → y ≤ n → LeftOf rd y c → last_row td (at m y) < t)
      → Tells Fit rd td ls t (at m c) c)
