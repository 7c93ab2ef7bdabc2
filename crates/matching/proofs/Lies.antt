-- Laws of inclusion between forests: larger targets, smaller patterns, and that greed is safe. Assumes nothing.
use mathlib.Core.Path.{◌≡◌, refl, sym, ap, ◌∙◌}
use Prim.Native.Nat.{ℕ, suc, ◌≤◌}
use native.Mathlib.Omega.{arith}
use Rattle.rows.specs.Forest.{Forest, nil, cons, beside}
use Rattle.rows.specs.Embedding.{LiesIn, done, pair, skip}
use Rattle.rows.proofs.Flat.{beside_nil, beside_assoc}

-- how many trees a forest has
abbrev pub roots : {A : Type 0} → Forest A → ℕ
roots nil = 0
roots (cons a f g) = suc (roots g)

-- where x and y side by side are u and v side by side, and x has no more trees than u, y ends with v
suffix : {A : Type 0} (x y u v : Forest A) → beside x y ≡ beside u v → roots x ≤ roots u → (z : Forest A) × (y ≡ beside z v)
suffix nil y u v e h = (u, e)
suffix (cons a x x') y nil v e h = absurd (omega arith)
suffix (cons a x x') y (cons b u u') v e h = suffix x' y u' v (cc) (omega arith)

module _ {A B : Type 0} (fit : A → B → Type 0) where
  -- a larger target
  pub lies_left : (h : Forest B) {p : Forest A} {f : Forest B} → LiesIn fit p f → LiesIn fit p (beside h f)
  lies_left nil i = i
  lies_left (cons b h r) i = skip (lies_left h (lies_left r i))

  pub lies_right : (h : Forest B) {p : Forest A} {f : Forest B} → LiesIn fit p f → LiesIn fit p (beside f h)
  lies_right h done = done
  lies_right h (pair k i j) = pair k i (lies_right h j)
  lies_right h (skip i) = skip (rw beside_assoc at (lies_right h i))

  -- side by side
  pub lies_beside : {p q : Forest A} {f g : Forest B} → LiesIn fit p f → LiesIn fit q g → LiesIn fit (beside p q) (beside f g)
  lies_beside {f} done j = lies_left f j
  lies_beside (pair k i i') j = pair k i (lies_beside i' j)
  lies_beside (skip i) j = skip (rw beside_assoc at (lies_beside i j))

  -- a smaller pattern: without its first trees, without its last
  pub lies_after : {a : A} {p q : Forest A} {f : Forest B} → LiesIn fit (cons a p q) f → LiesIn fit q f
  lies_after (pair {f} k i j) = skip (lies_left f j)
  lies_after (skip i) = skip (lies_after i)

  pub lies_drop : (p : Forest A) {q : Forest A} {f : Forest B} → LiesIn fit (beside p q) f → LiesIn fit q f
  lies_drop nil i = i
  lies_drop (cons a p r) i = lies_drop r (lies_after i)

  lies_rest : {a : A} {p q r : Forest A} {f : Forest B} → ((g : Forest B) → LiesIn fit q g → LiesIn fit r g) → LiesIn fit (cons a p q) f
      → LiesIn fit (cons a p r) f
  lies_rest k (pair {g} h i j) = pair h i (k g j)
  lies_rest k (skip i) = skip (lies_rest k i)

  pub lies_take : (p q : Forest A) {f : Forest B} → LiesIn fit (beside p q) f → LiesIn fit p f
  lies_take nil q i = done
  lies_take (cons a p r) q i = lies_rest (λ g j. lies_take r q j) i

  -- what lies in two forests side by side: some first trees lie in the first, the others in the second
  pub record Split (p : Forest A) (f g : Forest B) : Type 0 where
    pub first : Forest A
    pub second : Forest A
    pub whole : p ≡ beside first second
    pub left : LiesIn fit first f
    pub right : LiesIn fit second g

  pub split : (f g : Forest B) {p : Forest A} → LiesIn fit p (beside f g) → Split p f g
  split nil g {p} i = record { first = nil; second = p; whole = refl; left = done; right = i }
  split (cons b f r) g done = record { first = nil; second = nil; whole = refl; left = done; right = done }
  split (cons b f r) g (pair {a} {p} k i j) =
      let s = split r g j in
      record { first = cons a p s.first; second = s.second; whole = ap (cons a p) s.whole; left = pair k i s.left; right = s.right }
  split (cons b f r) g (skip i) =
      let s = split f (beside r g) i in
      let t = split r g s.right in
      record {
        first = beside s.first t.first;
        second = t.second;
        whole = s.whole ∙ ap (beside s.first) t.whole ∙ sym (beside_assoc s.first t.first t.second);
        left = skip (lies_beside s.left t.left);
        right = t.right;
      }

  -- greed is safe: if f has room for no more first trees of p q than p, and all of p q lies in f g, then q lies in g
  pub greedy : (p q : Forest A) (f g : Forest B) → ((x y : Forest A) → beside p q ≡ beside x y → LiesIn fit x f → roots x ≤ roots p)
      → LiesIn fit (beside p q) (beside f g) → LiesIn fit q g
  greedy p q f g most i =
      let s = split f g i in
      let z = suffix s.first s.second p q (sym s.whole) (most s.first s.second s.whole s.left) in
      lies_drop z.0 (rw z.1 at s.right)

  -- what lies in one tree: in the forest below its root, or it is one tree, whose root fits
  pub data InTree (b : B) (f : Forest B) (p : Forest A) : Type 0 where
    inside : LiesIn fit p f → InTree b f p
    root : (a : A) (q : Forest A) → p ≡ cons a q nil → fit a b → LiesIn fit q f → InTree b f p

  pub in_tree : (b : B) (f : Forest B) (p : Forest A) → 1 ≤ roots p → LiesIn fit p (cons b f nil) → InTree b f p
  in_tree b f p one done = absurd (omega arith)
  in_tree b f p one (pair {a} {p = q} k i done) = root a q refl k i
  in_tree b f p one (skip i) = inside (rw beside_nil at i)
