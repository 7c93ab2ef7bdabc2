-- The chains that are asked: a list of recipe rows, how many of them make the path sought, and for each row its place in the list. Assumes nothing.
use Rattle.std.specs.Prelude.{◌≡◌, List, ℕ, suc, ◌+◌, ◌≤◌, ◌<◌, length, get_or}
use Rattle.matching.specs.Shape.{word}

-- the i-th chain asked, and the place noted for row y
abbrev pub chain : List ℕ → ℕ → ℕ
chain ws i = get_or ws i 0

abbrev pub noted : List ℕ → ℕ → ℕ
noted ws y = get_or ws (256 + y) 0

-- how many of the chains asked, from the first on, make the path that is sought
abbrev pub path_chains : List ℕ → ℕ
path_chains ws = get_or ws 256 0

-- of the 513 words, the first z chains asked are different rows of the m rows, each noted at its place
pub record Asked (m : ℕ) (ws : List ℕ) (z : ℕ) : Type 0 where
  pub size : length ws ≡ 513
  pub rows : (i : ℕ) → i < z → (1 ≤ chain ws i) × (chain ws i ≤ m)
  pub places : (i : ℕ) → i < z → noted ws (chain ws i) ≡ i

-- row y is among the first z
abbrev pub Member : List ℕ → ℕ → ℕ → Type 0
Member ws z y = (noted ws y < z) × (chain ws (noted ws y) ≡ y)

-- the first z stay as they were
abbrev pub Keep : List ℕ → List ℕ → ℕ → Type 0
Keep ws us z = (i : ℕ) → i < z → chain us i ≡ chain ws i

-- from the first z of ws, row y asked too: us, of which n are asked
pub record Asks (ws : List ℕ) (z y : ℕ) (us : List ℕ) (n : ℕ) : Type 0 where
  pub least : z ≤ n
  pub most : n ≤ suc z
  pub keep : Keep ws us z
  pub asked : (m : ℕ) → m ≤ 256 → y ≤ m → Asked m ws z → Asked m us n
  pub member : 1 ≤ y → Member us n y
  pub path : path_chains us ≡ path_chains ws

-- the chain after the corner that stands at i in room; 0 where there is none
abbrev pub after : List ℕ → List ℕ → ℕ → ℕ
after shape room i = word 1 shape (get_or room i 0)

-- from the first q of ws, the chain after each of the first k corners that room keeps from base on asked too: us, of which n are asked
pub record Extends (shape ws room : List ℕ) (base q k : ℕ) (us : List ℕ) (n : ℕ) : Type 0 where
  pub least : q ≤ n
  pub most : n ≤ q + k
  pub keep : Keep ws us q
  pub asked : (m : ℕ) → m ≤ 256 → ((i : ℕ) → i < k → after shape room (base + i) ≤ m) → Asked m ws q → Asked m us n
  pub member : (i : ℕ) → i < k → 1 ≤ after shape room (base + i) → Member us n (after shape room (base + i))
  pub path : path_chains us ≡ path_chains ws
