-- The recipe's shape in words, four for each row from row 0 on: parent, right sibling, left-most leaf, depth. Assumes nothing.
use Rattle.std.specs.Prelude.{◌≡◌, List, [], ◌∷◌, ℕ, ◌+◌, ◌*◌, ◌/◌, ◌%◌, ◌^◌, ◌≤◌, length, get_or}
use Rattle.std.specs.Int.Bits.{bit_and}
use Rattle.rows.specs.Rows.{at, depth}
use Rattle.matching.specs.Family.{parent, right_sibling, left_leaf}
use Rattle.matching.specs.declared.shape.Node.{Node}

-- the words of the rows, and behind them those of the kinds
unfoldable pub words : List Node → List ℕ → List ℕ
words [] ks = ks
words (r ∷ rs) ks = r.parent ∷ r.right ∷ r.leaf ∷ r.depth ∷ words rs ks

-- behind the words of the rows there is a bit for each of 2,048 kinds of labels, sixteen in a word: labels that leave the same
-- remainder are of one kind
abbrev pub kind_word : ℕ → ℕ
kind_word a = 1028 + a % 128

abbrev pub kind_bit : ℕ → ℕ
kind_bit a = 2 ^ (a / 128 % 16)

-- among the words ks of the kinds, that of label a is not noted; those of the first i labels are
abbrev pub Clear : List ℕ → ℕ → Type 0
Clear ks a = bit_and (get_or ks (a % 128) 0) (kind_bit a) ≡ 0

pub record Noted (rl ks : List ℕ) (i : ℕ) : Type 0 where
  pub size : length ks ≡ 128
  pub kinds : (v : ℕ) → 1 ≤ v → v ≤ i → Clear ks (at rl v) → ⊥

-- no label of this one's kind is noted
abbrev pub Foreign : List ℕ → ℕ → Type 0
Foreign ws a = bit_and (get_or ws (kind_word a) 0) (kind_bit a) ≡ 0

-- the kinds of all the recipe's labels are noted
abbrev pub Kinds : List ℕ → List ℕ → Type 0
Kinds rl ws = (v : ℕ) → 1 ≤ v → v ≤ length rl → Foreign ws (at rl v) → ⊥

-- the k-th word of row v
abbrev pub word : ℕ → List ℕ → ℕ → ℕ
word k ws v = get_or ws (4 * v + k) 0

-- the words say what the recipe's depths do; those of row 0 are 0
pub record Shape (rd ws : List ℕ) : Type 0 where
  pub few : length rd ≤ 256
  pub parents : (v : ℕ) → v ≤ length rd → word 0 ws v ≡ parent rd v
  pub rights : (v : ℕ) → v ≤ length rd → word 1 ws v ≡ right_sibling rd v
  pub leaves : (v : ℕ) → v ≤ length rd → word 2 ws v ≡ left_leaf rd v
  pub depths : (v : ℕ) → v ≤ length rd → word 3 ws v ≡ depth rd v
