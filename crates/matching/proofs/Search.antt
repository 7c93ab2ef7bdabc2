-- What a search for recipe rows in listing rows tells, by the first row of each. Assumes nothing.
use mathlib.Core.Path.{◌≡◌, refl, sym, ap, ◌∙◌}
use mathlib.Core.Bool.{Bool, true, false, false≢true}
use mathlib.Core.List.{List}
use mathlib.Core.Logic.{◌↔◌, ◌⊎◌, inl, inr, ⊎_elim}
use Prim.Native.Nat.{ℕ, suc, ◌+◌, ◌≤◌, ◌<◌}
use native.Mathlib.Numerals.{add-one}
use native.Mathlib.Omega.{arith}
use lib.ListN.{length, get_or}
use Rattle.rows.specs.Rows.{at, Outline, last_row}
use Rattle.rows.specs.Forest.{Forest, nil, cons, size, beside, forest}
use Rattle.rows.specs.Embedding.{SameLabel, LiesIn, done, pair, skip}
use Rattle.rows.proofs.Depths.{last_fits, inside_ends}
use Rattle.rows.proofs.Flat.{size_beside}
use Rattle.rows.proofs.Stands.{stands_skip}
use Rattle.rows.proofs.Windows.{stands_forest, size_forest}
use Rattle.matching.specs.Judge.{Searchable, Draws, Tells}

module _ (ds ls : List ℕ) where
  -- the rows of a whole table can be searched, ..
  pub searchable_table : length ds ≡ length ls → Searchable ds ls 0 (length ds)
  searchable_table e = record { slices = e; order = omega arith; inside = omega arith; whole = λ v a b. last_fits ds v (omega arith) }

  -- .. the tree at one of them, which ends at y, ends among them, and the rows below that one can be searched
  module _ (z e v y : ℕ) (k : Searchable ds ls z e) (a : z < v) (b : v ≤ e) (last : y ≡ last_row ds v) where
    pub tree_ends : (v ≤ y) × (y ≤ e)
    tree_ends = omega (arith, k.whole v a b)

    pub searchable_below : Searchable ds ls v y
    searchable_below =
        record {
          slices = k.slices;
          order = tree_ends.0;
          inside = omega (arith, k.inside, tree_ends);
          whole = λ w i j. rw last (inside_ends ds v w (omega (arith, k.inside)) (omega arith) (omega arith));
        }

-- a table's rows draw its forest
pub draws_forest : (ds : List ℕ) → Outline ds → Draws ds 0 (length ds) (forest ds)
draws_forest ds k = record { stands = stands_forest ds k; last = omega (arith, size_forest ds k) }

-- the rows after z up to e, of which the first has its tree up to y, draw a first tree
data FirstTree (ds : List ℕ) (z e y : ℕ) : Forest ℕ → Type 0 where
  first_tree : {b : ℕ} {f g : Forest ℕ} → b ≡ suc z → Draws ds (z + 1) y f → Draws ds y e g → Draws ds (z + 1) e (beside f g) → FirstTree ds z e y (cons b f g)

split : (ds : List ℕ) (z e y : ℕ) → z < e → y ≡ last_row ds (z + 1) → (f : Forest ℕ) → Draws ds z e f → FirstTree ds z e y f
split ds z e y h last nil k = absurd (omega (arith, k.last))
split ds z e y h last (cons b f g) k =
    let s = k.stands in
    let n : z + 1 ≡ suc z = add-one z in
    let o : y ≡ suc (z + size f) = omega (arith, rw n at last, s.2) in
    first_tree {f = f} {g = g} s.0 (record { stands = rw n s.3; last = omega arith }) (record { stands = rw o s.4; last = omega (arith, k.last) })
    (record { stands = rw n (stands_skip ds z b f g s); last = omega (arith, k.last, size_beside f g) })

-- where a first tree lies: never in nothing, else with its root on the first row or in the rows after that one
module _ {A B : Type 0} (fit : A → B → Type 0) where
  abbrev Where : Forest A → Forest B → Type 0
  Where nil f = Unit {0}
  Where (cons a p q) nil = ⊥
  Where (cons a p q) (cons b f g) = (fit a b × LiesIn fit p f × LiesIn fit q g) ⊎ LiesIn fit (cons a p q) (beside f g)

  lies_where : (p : Forest A) (f : Forest B) → LiesIn fit p f → Where p f
  lies_where p f done = tt
  lies_where p f (pair h i j) = inl (h, i, j)
  lies_where nil f (skip i) = tt
  lies_where (cons a p q) f (skip i) = inr i

module _ (rd rl td tl : List ℕ) where
  -- no recipe rows lie in any listing rows, some lie in none
  pub tells_empty : (a e c d : ℕ) → a ≡ e → Tells rd rl a e td tl c d true
  tells_empty a e c d h nil f k l = (λ e. done, λ i. refl)
  tells_empty a e c d h (cons v p q) f k l = absurd (omega (arith, k.last))

  pub tells_none : (a e c d : ℕ) → a < e → d ≤ c → Tells rd rl a e td tl c d false
  tells_none a e c d h o nil f k l = absurd (omega (arith, k.last))
  tells_none a e c d h o (cons v p q) nil k l = (λ n. absurd (false≢true n), λ i. absurd (lies_where (SameLabel rl tl) (cons v p q) nil i))
  tells_none a e c d h o (cons v p q) (cons b f g) k l = absurd (omega (arith, l.last))

  -- the first recipe row after a, whose tree ends at y, is tried on the first listing row after c, whose tree ends at x
  module _ (a e y c d : ℕ) (h : a < e) (end : y ≡ last_row rd (a + 1)) (o : c < d) (x : ℕ) (stop : x ≡ last_row td (c + 1)) where
    abbrev Below : Bool → Type 0
    Below r = Tells rd rl (a + 1) y td tl (c + 1) x r

    abbrev Behind : Bool → Type 0
    Behind r = Tells rd rl y e td tl x d r

    -- it fits there: the labels are equal, what is below it lies below the listing row, and what is behind it lies behind
    pub tells_found : get_or tl c 0 ≡ get_or rl a 0 → (u w : Bool) → u ≡ true → Below u → w ≡ true → Behind w → Tells rd rl a e td tl c d true
    tells_found same u w i below j behind p f k l = go (split rd a e y h end p k) (split td c d x o stop f l)
      where
        go : {p f : Forest ℕ} → FirstTree rd a e y p → FirstTree td c d x f → (true ≡ true) ↔ LiesIn (SameLabel rl tl) p f
        go (first_tree v m n s) (first_tree b m' n' s') =
            (λ t. pair (ap (at rl) v ∙ sym same ∙ sym (ap (at tl) b)) ((below _ _ m m').0 i) ((behind _ _ n n').0 j), λ t. refl)

    -- it does not fit there, for one of three reasons
    pub data Fails : Type 0 where
      other_label : (get_or tl c 0 ≡ get_or rl a 0 → ⊥) → Fails
      not_below : (u : Bool) → u ≡ false → Below u → Fails
      not_behind : (w : Bool) → w ≡ false → Behind w → Fails

    -- then the listing rows after that one tell it
    pub tells_skip : Fails → (r : Bool) → Tells rd rl a e td tl (c + 1) d r → Tells rd rl a e td tl c d r
    tells_skip fails r next p f k l = go (split rd a e y h end p k) (split td c d x o stop f l) k
      where
        go : {p f : Forest ℕ} → FirstTree rd a e y p → FirstTree td c d x f → Draws rd a e p → (r ≡ true) ↔ LiesIn (SameLabel rl tl) p f
        go (first_tree {b = v} {f = p} {g = q} i m n s) (first_tree {b = b} {f = f} {g = g} j m' n' s') k =
            let rest = next (cons v p q) (beside f g) k s' in (
              λ t. skip (rest.0 t),
              λ t. ⊎_elim (λ w. absurd (never fails w)) rest.1 (lies_where (SameLabel rl tl) (cons v p q) (cons b f g) t),
            )
          where
            never : Fails → (SameLabel rl tl v b × LiesIn (SameLabel rl tl) p f × LiesIn (SameLabel rl tl) q g) → ⊥
            never (other_label why) t = why (sym (ap (at tl) j) ∙ sym t.0 ∙ ap (at rl) i)
            never (not_below u why told) t = false≢true (sym why ∙ (told p f m m').1 t.1)
            never (not_behind w why told) t = false≢true (sym why ∙ (told q g n n').1 t.2)
