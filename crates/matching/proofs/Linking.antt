-- A shape in the making: nothing, one more left-most leaf, one more linked row, and the end, each by the nodes that are stored. Assumes nothing.
use mathlib.Core.Path.{◌≡◌, refl, sym, ◌∙◌}
use mathlib.Core.List.{List, []}
use Prim.Native.Nat.{ℕ, zero, suc, ◌-◌, ◌≤◌, ◌<◌}
use native.Mathlib.Omega.{arith}
use native.Mathlib.Decide.{ℕ_discrete}
use lib.ListN.{length, set, length-set, replicate}
use Rattle.std.proofs.lemmas.List.{length-replicate, get_or-replicate}
use borrow.Author.Tests.{lt-ltb, le-ltb}
use Rattle.rows.specs.Rows.{Row, depth}
use Rattle.rows.proofs.Order.{Compared, less, same, more, compared}
use Rattle.matching.specs.Family.{parent, left_sibling, right_sibling, left_leaf}
use Rattle.matching.specs.declared.shape.Node.{Node}
use Rattle.matching.specs.Shape.{words, word, Shape}
use Rattle.matching.specs.Linked.{Rooted, Leaved, before, Linked}
use Rattle.matching.proofs.Siblings.{Right, none, next, right, right_left}
use Rattle.matching.proofs.Family.{left_before}
use Rattle.matching.proofs.ShapeWords.{node, Has, has, has_new, kept, size_of}

-- a row before v stays, any other counts as 0; so only row v itself changes when v is passed
before_yes : (v w : ℕ) → w < v → before v w ≡ w
before_yes v w h = rw (lt-ltb w v h, before)

before_no : (v w : ℕ) → v ≤ w → before v w ≡ 0
before_no v w h = rw (le-ltb w v h, before)

before_pass : (v w : ℕ) → (w ≡ v → ⊥) → before v w ≡ before (suc v) w
before_pass v w n = go (compared w v)
  where
    go : Compared w v → before v w ≡ before (suc v) w
    go (less h) = before_yes v w h ∙ sym (before_yes (suc v) w (omega arith))
    go (same h) = absurd (n h)
    go (more h) = before_no v w (omega arith) ∙ sym (before_no (suc v) w (omega arith))

-- a right sibling comes after its row, within the table
right_after : (rd : List ℕ) (v : ℕ) → before (suc v) (right_sibling rd v) ≡ 0
right_after rd v = go (right rd v)
  where
    go : Right rd v → before (suc v) (right_sibling rd v) ≡ 0
    go (none p) = rw p (before_yes (suc v) 0 (omega arith))
    go (next p l s) = before_no (suc v) (right_sibling rd v) (omega arith)

right_within : (rd : List ℕ) (v : ℕ) → right_sibling rd v ≤ length rd
right_within rd v = go (right rd v)
  where
    go : Right rd v → right_sibling rd v ≤ length rd
    go (none p) = omega arith
    go (next p l s) = omega arith

-- nothing is stored yet
pub rooted : (rd : List ℕ) → length rd ≤ 256 → Rooted rd (words (replicate 257 (node [] 0)) (replicate 128 0))
rooted rd few = record { few = few; size = size_of _ _ full (length-replicate {A = ℕ} 128 0); parent = root.parent; leaf = root.leaf; depth = root.depth }
  where
    full : length (replicate 257 (node [] 0)) ≡ 257
    full = length-replicate 257 (node [] 0)

    root : Has (words (replicate 257 (node [] 0)) (replicate 128 0)) 0 (node [] 0)
    root = rw (get_or-replicate 257 0 (node [] 0) (node [] 0) (omega arith)) at (has (replicate 257 (node [] 0)) (replicate 128 0) 0 (omega (arith, full)))

module _ (rd : List ℕ) (rs : List Node) (ks : List ℕ) (full : length rs ≡ 257) (rest : length ks ≡ 128) where
  -- the left-most leaf of row v is stored
  pub leave_row : (v x : ℕ) → Row rd v → Leaved rd (words rs ks) v → x ≡ left_leaf rd v
      → Leaved rd (words (set rs v (record { parent = (node rs v).parent; right = (node rs v).right; leaf = x; depth = (node rs v).depth })) ks) (v - 1)
  leave_row v x row k e = record {
    root = record {
      few = k.root.few;
      size = size_of _ _ (simp length-set full) rest;
      parent = other 0 (omega arith) (λ e. omega arith) 0 (omega arith) ∙ k.root.parent;
      leaf = other 0 (omega arith) (λ e. omega arith) 2 (omega arith) ∙ k.root.leaf;
      depth = other 0 (omega arith) (λ e. omega arith) 3 (omega arith) ∙ k.root.depth;
    };
    leaves = λ u l h. leaves u l h (ℕ_discrete u v);
  }
    where
      n : Node
      n = record { parent = (node rs v).parent; right = (node rs v).right; leaf = x; depth = (node rs v).depth }

      other : (u : ℕ) → u < length rs → (u ≡ v → ⊥) → (i : ℕ) → i < 4 → word i (words (set rs v n) ks) u ≡ word i (words rs ks) u
      other = kept rs ks v n

      leaves : (u : ℕ) → v - 1 < u → u ≤ length rd → Dec (u ≡ v) → word 2 (words (set rs v n) ks) u ≡ left_leaf rd u
      leaves u l h (yes q) = rw q ((has_new rs ks v n (omega (arith, k.root.few))).leaf ∙ e)
      leaves u l h (no o) = other u (omega (arith, k.root.few)) o 2 (omega arith) ∙ k.leaves u (omega arith) h

  -- one more row: v is stored as the right sibling of its left sibling, then its parent, no right sibling, and its depth
  module _ (v left up d : ℕ) (row : Row rd v) (k : Linked rd (words rs ks) v)
      (is-left : left ≡ left_sibling rd v) (is_up : up ≡ parent rd v) (is-deep : d ≡ depth rd v) where
    abbrev sibling : Node
    sibling = record { parent = (node rs left).parent; right = v; leaf = (node rs left).leaf; depth = (node rs left).depth }

    abbrev rs₁ : List Node
    rs₁ = set rs left sibling

    abbrev linked : Node
    linked = record { parent = up; right = 0; leaf = (node rs₁ v).leaf; depth = d }

    abbrev ws₁ : List ℕ
    ws₁ = words rs₁ ks

    abbrev ws₂ : List ℕ
    ws₂ = words (set rs₁ v linked) ks

    full₁ : length rs₁ ≡ 257
    full₁ = length-set rs left sibling ∙ full

    left_first : left < v
    left_first = omega (arith, left_before rd v row.0)

    old : Has (words rs ks) left (node rs left)
    old = has rs ks left (omega (arith, k.few, left_first))

    beside : Has ws₁ left sibling
    beside = has_new rs ks left sibling (omega (arith, k.few, left_first))

    new : Has ws₂ v linked
    new = has_new rs₁ ks v linked (omega (arith, k.few, full₁))

    -- the left sibling's other words stay, ..
    at_left : (i : ℕ) → i < 4 → (i ≡ 1 → ⊥) → word i ws₁ left ≡ word i (words rs ks) left
    at_left zero l n = beside.parent ∙ sym old.parent
    at_left (suc zero) l n = absurd (n refl)
    at_left (suc (suc zero)) l n = beside.leaf ∙ sym old.leaf
    at_left (suc (suc (suc zero))) l n = beside.depth ∙ sym old.depth
    at_left (suc (suc (suc (suc i)))) l n = absurd (omega arith)

    -- .. and those of all rows but v
    first : (u : ℕ) → u ≤ length rd → Dec (u ≡ left) → (i : ℕ) → i < 4 → (i ≡ 1 → ⊥) → word i ws₁ u ≡ word i (words rs ks) u
    first u h (yes e) i l n = rw e (at_left i l n)
    first u h (no o) i l n = kept rs ks left sibling u (omega (arith, k.few)) o i l

    second : (u : ℕ) → u ≤ length rd → (u ≡ v → ⊥) → (i : ℕ) → i < 4 → word i ws₂ u ≡ word i ws₁ u
    second u h o = kept rs₁ ks v linked u (omega (arith, k.few, full₁)) o

    still : (u : ℕ) → u ≤ length rd → (u ≡ v → ⊥) → (i : ℕ) → i < 4 → (i ≡ 1 → ⊥) → word i ws₂ u ≡ word i (words rs ks) u
    still u h o i l n = second u h o i l ∙ first u h (ℕ_discrete u left) i l n

    parents : (u : ℕ) → u < suc v → Dec (u ≡ v) → word 0 ws₂ u ≡ parent rd u
    parents u h (yes e) = rw e (new.parent ∙ is_up)
    parents u h (no n) = still u (omega arith) n 0 (omega arith) (λ e. omega arith) ∙ k.parents u (omega arith)

    depths : (u : ℕ) → u < suc v → Dec (u ≡ v) → word 3 ws₂ u ≡ depth rd u
    depths u h (yes e) = rw e (new.depth ∙ is-deep)
    depths u h (no n) = still u (omega arith) n 3 (omega arith) (λ e. omega arith) ∙ k.depths u (omega arith)

    leaves : (u : ℕ) → u ≤ length rd → Dec (u ≡ v) → word 2 ws₂ u ≡ left_leaf rd u
    leaves u h (yes e) =
        rw e (new.leaf ∙ sym (has rs₁ ks v (omega (arith, k.few, full₁))).leaf ∙ first v row.1 (ℕ_discrete v left) 2 (omega arith) (λ e. omega arith) ∙ k.leaves v row.1)
    leaves u h (no n) = still u h n 2 (omega arith) (λ e. omega arith) ∙ k.leaves u h

    rights : (u : ℕ) → 1 ≤ u → u < suc v → Dec (u ≡ v) → Dec (u ≡ left) → word 1 ws₂ u ≡ before (suc v) (right_sibling rd u)
    rights u a h (yes e) l = rw e (new.right ∙ sym (right_after rd v))
    rights u a h (no n) (yes l) =
        let s : right_sibling rd u ≡ v = (right_left rd u v (omega arith) row).1 (sym (l ∙ is-left)) in
        second u (omega arith) n 1 (omega arith) ∙ rw (s, l) (beside.right ∙ sym (before_yes (suc v) v (omega arith)))
    rights u a h (no n) (no l) =
        second u (omega arith) n 1 (omega arith)
        ∙ kept rs ks left sibling u (omega (arith, k.few)) l 1 (omega arith)
        ∙ k.rights u a (omega arith)
        ∙ before_pass v (right_sibling rd u) (λ e. l (sym (is-left ∙ (right_left rd u v (omega arith) row).0 e)))

    pub link_row : Linked rd ws₂ (suc v)
    link_row = record {
      few = k.few;
      size = size_of _ _ (length-set rs₁ v linked ∙ full₁) rest;
      parents = λ u h. parents u h (ℕ_discrete u v);
      rights = λ u a h. rights u a h (ℕ_discrete u v) (ℕ_discrete u left);
      leaves = λ u h. leaves u h (ℕ_discrete u v);
      depths = λ u h. depths u h (ℕ_discrete u v);
    }

  -- the end: all rows are linked, and row 0 has no right sibling
  pub link_end : Linked rd (words rs ks) (suc (length rd))
      → Shape rd (words (set rs 0 (record { parent = (node rs 0).parent; right = 0; leaf = (node rs 0).leaf; depth = (node rs 0).depth })) ks)
  link_end k = record {
    few = k.few;
    parents = parents;
    rights = rights;
    leaves = leaves;
    depths = depths;
  }
    where
      n : Node
      n = record { parent = (node rs 0).parent; right = 0; leaf = (node rs 0).leaf; depth = (node rs 0).depth }

      old : Has (words rs ks) 0 (node rs 0)
      old = has rs ks 0 (omega arith)

      new : Has (words (set rs 0 n) ks) 0 n
      new = has_new rs ks 0 n (omega arith)

      other : (j : ℕ) → suc j ≤ length rd → (i : ℕ) → i < 4 → word i (words (set rs 0 n) ks) (suc j) ≡ word i (words rs ks) (suc j)
      other j h = kept rs ks 0 n (suc j) (omega (arith, k.few)) (λ e. omega arith)

      parents : (u : ℕ) → u ≤ length rd → word 0 (words (set rs 0 n) ks) u ≡ parent rd u
      parents zero h = new.parent ∙ sym old.parent ∙ k.parents 0 (omega arith)
      parents (suc j) h = other j h 0 (omega arith) ∙ k.parents (suc j) (omega arith)

      leaves : (u : ℕ) → u ≤ length rd → word 2 (words (set rs 0 n) ks) u ≡ left_leaf rd u
      leaves zero h = new.leaf ∙ sym old.leaf ∙ k.leaves 0 h
      leaves (suc j) h = other j h 2 (omega arith) ∙ k.leaves (suc j) h

      depths : (u : ℕ) → u ≤ length rd → word 3 (words (set rs 0 n) ks) u ≡ depth rd u
      depths zero h = new.depth ∙ sym old.depth ∙ k.depths 0 (omega arith)
      depths (suc j) h = other j h 3 (omega arith) ∙ k.depths (suc j) (omega arith)

      rights : (u : ℕ) → u ≤ length rd → word 1 (words (set rs 0 n) ks) u ≡ right_sibling rd u
      rights zero h = new.right
      rights (suc j) h =
          other j h 1 (omega arith)
          ∙ k.rights (suc j) (omega arith) (omega arith)
          ∙ before_yes (suc (length rd)) (right_sibling rd (suc j)) (omega (arith, right_within rd (suc j)))
