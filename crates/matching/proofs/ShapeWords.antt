-- The words of a shape: those of a row are its node's, and behind them stand those of the kinds. Assumes nothing.
use mathlib.Core.Path.{◌≡◌, refl, sym, ◌∙◌}
use mathlib.Core.List.{List, [], ◌∷◌}
use Prim.Native.Nat.{ℕ, zero, suc, ◌+◌, ◌*◌, ◌%◌, ◌≤◌, ◌<◌}
use native.Mathlib.Omega.{arith}
use lib.ListN.{length, get_or, set, length-set}
use lib.Seq.{get_or-set_same, get_or-set_other}
use Rattle.matching.specs.declared.shape.Node.{Node}
use Rattle.matching.specs.Shape.{words, word, kind_word, Shape}

-- the node of row v; beyond the last row nothing
abbrev pub node : List Node → ℕ → Node
node rs v = get_or rs v (record { parent = 0; right = 0; leaf = 0; depth = 0 })

-- the words ws have the node n at row v
pub record Has (ws : List ℕ) (v : ℕ) (n : Node) : Type 0 where
  pub parent : word 0 ws v ≡ n.parent
  pub right : word 1 ws v ≡ n.right
  pub leaf : word 2 ws v ≡ n.leaf
  pub depth : word 3 ws v ≡ n.depth

step : (v k : ℕ) → 4 * suc v + k ≡ suc (suc (suc (suc (4 * v + k))))
step v k = omega arith

pub has : (rs : List Node) (ks : List ℕ) (v : ℕ) → v < length rs → Has (words rs ks) v (node rs v)
unfolding words
has [] ks v h = absurd (omega arith)
has (r ∷ rs) ks zero h = record { parent = refl; right = refl; leaf = refl; depth = refl }
has (r ∷ rs) ks (suc v) h =
    let k = has rs ks v (omega arith) in
    record { parent = rw (step v 0) k.parent; right = rw (step v 1) k.right; leaf = rw (step v 2) k.leaf; depth = rw (step v 3) k.depth }

-- one node is stored, and the words of other rows stay
module _ (rs : List Node) (ks : List ℕ) (v : ℕ) (n : Node) where
  pub has_new : v < length rs → Has (words (set rs v n) ks) v n
  has_new h = rw (get_or-set_same rs v n (node [] 0) h) at (has (set rs v n) ks v (omega (arith, length-set rs v n)))

  pub kept : (u : ℕ) → u < length rs → (u ≡ v → ⊥) → (k : ℕ) → k < 4 → word k (words (set rs v n) ks) u ≡ word k (words rs ks) u
  kept u h o = go
    where
      old : Has (words (set rs v n) ks) u (node rs u)
      old = rw (get_or-set_other rs v u n (node [] 0) o) at (has (set rs v n) ks u (omega (arith, length-set rs v n)))

      go : (k : ℕ) → k < 4 → word k (words (set rs v n) ks) u ≡ word k (words rs ks) u
      go zero l = old.parent ∙ sym (has rs ks u h).parent
      go (suc zero) l = old.right ∙ sym (has rs ks u h).right
      go (suc (suc zero)) l = old.leaf ∙ sym (has rs ks u h).leaf
      go (suc (suc (suc zero))) l = old.depth ∙ sym (has rs ks u h).depth
      go (suc (suc (suc (suc k)))) l = absurd (omega arith)

pub size_of : (rs : List Node) (ks : List ℕ) → length rs ≡ 257 → length ks ≡ 128 → length (words rs ks) ≡ 1156
unfolding words
size_of rs ks h l = omega (arith, go rs)
  where
    go : (rs : List Node) → length (words rs ks) ≡ 4 * length rs + length ks
    go [] = omega arith
    go (r ∷ rs) = omega (arith, go rs)

-- the word of a label's kind
pub kind_of : (rs : List Node) (ks : List ℕ) (a : ℕ) → length rs ≡ 257 → get_or (words rs ks) (kind_word a) 0 ≡ get_or ks (a % 128) 0
unfolding words
kind_of rs ks a h = let e : kind_word a ≡ 4 * length rs + a % 128 = omega arith in rw e (go rs (a % 128))
  where
    go : (rs : List Node) (j : ℕ) → get_or (words rs ks) (4 * length rs + j) 0 ≡ get_or ks j 0
    go [] j = let e : 4 * 0 + j ≡ j = omega arith in rw e refl
    go (r ∷ rs) j = rw (step (length rs) j) (go rs j)

-- the words of the kinds say nothing of the rows
pub shape_kept : (rd : List ℕ) (rs : List Node) (ks ks' : List ℕ) → length rs ≡ 257 → Shape rd (words rs ks) → Shape rd (words rs ks')
shape_kept rd rs ks ks' h k =
    record {
      few = k.few;
      parents = λ v o. (at ks' v o).parent ∙ sym (at ks v o).parent ∙ k.parents v o;
      rights = λ v o. (at ks' v o).right ∙ sym (at ks v o).right ∙ k.rights v o;
      leaves = λ v o. (at ks' v o).leaf ∙ sym (at ks v o).leaf ∙ k.leaves v o;
      depths = λ v o. (at ks' v o).depth ∙ sym (at ks v o).depth ∙ k.depths v o;
    }
  where
    at : (ks : List ℕ) (v : ℕ) → v ≤ length rd → Has (words rs ks) v (node rs v)
    at ks v o = has rs ks v (omega (arith, k.few))
