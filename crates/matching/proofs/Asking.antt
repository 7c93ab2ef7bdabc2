-- A path down the recipe, asked row by row, and the marks of its rows in the map. Assumes nothing.
use mathlib.Core.Path.{◌≡◌, refl, sym, ap, ◌∙◌}
use mathlib.Core.List.{List, [], ◌∷◌}
use Prim.Native.Nat.{ℕ, zero, suc, ◌+◌, ◌-◌, ◌≤◌, ◌<◌}
use native.Mathlib.Omega.{arith}
use native.Mathlib.Decide.{dec_lt, dec_le, ℕ_discrete}
use lib.ListN.{length, get_or, drop, set, length-set}
use lib.Seq.{get_or-set_same, drop-set-lt}
use Rattle.std.proofs.Common.{Some, None}
use Rattle.rows.specs.Rows.{at, Row, Outline, depth, descendants}
use Rattle.rows.specs.Forest.{size}
use Rattle.rows.proofs.DescendantLaws.{count_on}
use Rattle.rows.proofs.Windows.{size_below}
use Rattle.matching.specs.Family.{parent, right_sibling, left_leaf}
use Rattle.matching.specs.Asked.{chain, noted, Asked, Asks}
use Rattle.matching.specs.CornerRow.{Chained}
use Rattle.matching.specs.Shape.{Shape}
use Rattle.matching.specs.Room.{recipe_of}
use Rattle.matching.specs.Engine.{Ready}
use Rattle.matching.specs.Path.{Path, OnPath, AsksNext, chained, asks, stops, Slot, stays, marked, Marks}
use Rattle.matching.proofs.Chains.{chained_deep}
use Rattle.matching.proofs.Family.{parent_before, ParentView, root, child, parent_view}
use Rattle.matching.proofs.Level.{Kids, leaf, child, kids_of, parent_child, Next, next, last, next_of, parent_next}
use Rattle.matching.proofs.PathLaws.{path_tree}
use Rattle.matching.proofs.Placing.{at_other}

-- the recipe of a question has its shape
pub shape_of : {ws rl td tl rd : List ℕ} → Ready ws rl td tl → recipe_of ws rl ≡ rd → Shape rd ws × Outline rd
shape_of k e = (rw e at k.shape, rw e at k.outline)

-- c is a child of row u
abbrev pub Child : List ℕ → ℕ → ℕ → Type 0
Child rd u c = Row rd c × (parent rd c ≡ u)

module _ (rd : List ℕ) (k : Outline rd) where
  -- a row has rows below it just where its left-most leaf is another, and then the next row is its first child
  module _ (u : ℕ) (r : Row rd u) where
    pub leaf_bare : left_leaf rd u ≡ u → descendants rd u ≡ 0
    leaf_bare e = go (kids_of rd k u r)
      where
        go : Kids rd u → descendants rd u ≡ 0
        go (leaf n s) = sym (size_below rd k u r) ∙ ap size n
        go (child q d n s) = absurd (omega arith)

    pub inner_row : (left_leaf rd u ≡ u → ⊥) → 1 ≤ descendants rd u
    inner_row n = go u r n (kids_of rd k u r)
      where
        go : (u : ℕ) → Row rd u → (left_leaf rd u ≡ u → ⊥) → Kids rd u → 1 ≤ descendants rd u
        go zero r n _ = absurd (omega arith)
        go (suc i) r n (leaf m s) = absurd (n s)
        go (suc i) r n (child q d m s) = omega (arith, count_on rd (get_or rd i 0) (suc i) (omega arith) (omega arith))

    pub first_child : 1 ≤ descendants rd u → Child rd u (suc u)
    first_child o = go (kids_of rd k u r)
      where
        go : Kids rd u → Child rd u (suc u)
        go (leaf n s) = absurd (omega (arith, leaf_bare s))
        go (child q d n s) = (q, parent_child rd u r d)

-- a right sibling is a later child of the same row
pub next_child : (rd : List ℕ) (u c : ℕ) → Child rd u c → 1 ≤ right_sibling rd c → Child rd u (right_sibling rd c) × (c < right_sibling rd c)
next_child rd u c h o = go (next_of rd c h.0)
  where
    go : Next rd c → Child rd u (right_sibling rd c) × (c < right_sibling rd c)
    go (next s q e) = rw s ((q, parent_next rd c h.0 e ∙ h.1), omega arith)
    go (last s e) = absurd (omega arith)

-- how many rows from row c on there are; none from row 0 on
abbrev pub rows_from : ℕ → ℕ → ℕ
rows_from n zero = 0
rows_from n (suc c) = n - c

-- a row that is not among the k asked gets a place of its own
module _ (asked us : List ℕ) (u k n : ℕ) (x : Asks asked k u us n) (one : 1 ≤ u) (fresh : (i : ℕ) → i < k → chain asked i ≡ u → ⊥) where
  behind : Dec (noted us u < k) → k ≤ noted us u
  behind (yes l) = absurd (fresh (noted us u) l (sym (x.keep (noted us u) l) ∙ (x.member one).1))
  behind (no l) = omega arith

  here : (noted us u ≡ k) × (n ≡ suc k)
  here = omega (arith, behind (dec_lt (noted us u) k), (x.member one).0, x.most)

  pub asks_more : n ≡ suc k
  asks_more = here.1

  pub asks_new : chain us k ≡ u
  asks_new = ap (chain us) (sym here.0) ∙ (x.member one).1

-- marks at places before `end` are marks at places before a later one
pub marks_wide : (rd asked : List ℕ) (k end far : ℕ) (m m' : List ℕ) → end ≤ far → Marks rd asked k end m m' → Marks rd asked k far m m'
marks_wide rd asked k end far m m' l h = record { size = h.size; rest = h.rest; slots = λ c. go c (h.slots c) }
  where
    go : (c : ℕ) → Slot rd asked k end m m' c → Slot rd asked k far m m' c
    go c (stays e) = stays e
    go c (marked i a b o e u) = marked i a (omega arith) o e u

pub marks_none : (rd asked : List ℕ) (k : ℕ) (m : List ℕ) → Marks rd asked k 1 m m
marks_none rd asked k m = record { size = refl; rest = refl; slots = λ c. stays refl }

-- a slot of a recipe's row is there
pub slot_fits : (rd m₀ m : List ℕ) (x : ℕ) → Row rd x → length rd ≤ length m₀ → length m ≡ length m₀ → x - 1 < length m
slot_fits rd m₀ m x r h e = omega arith

mark_here : (rd m₀ m : List ℕ) (u i : ℕ) → Row rd u → length rd ≤ length m₀ → length m ≡ length m₀ → at (set m (u - 1) i) u ≡ i
mark_here rd m₀ m u i r h e =
    let q : suc (u - 1) ≡ u = omega arith in ap (at (set m (u - 1) i)) (sym q) ∙ get_or-set_same m (u - 1) i 0 (slot_fits rd m₀ m u r h e)

-- the rows of the path before place i have marks, then the one at place i
pub marks_one : (rd asked : List ℕ) (k i : ℕ) (m₀ m : List ℕ) (u : ℕ) → length rd ≤ length m₀ → 1 ≤ i → OnPath rd asked k i u
    → (chain asked 0 < parent rd u → 1 ≤ at m (parent rd u)) → Marks rd asked k i m₀ m → Marks rd asked k (suc i) m₀ (set m (u - 1) i)
marks_one rd asked k i m₀ m u room one on up h =
    record {
      size = length-set m (u - 1) i ∙ h.size;
      rest = drop-set-lt (length rd) m (u - 1) i (omega (arith, on.row)) ∙ h.rest;
      slots = λ c. slot c (ℕ_discrete c u) (h.slots c);
    }
  where
    m' : List ℕ
    m' = set m (u - 1) i

    here : at m' u ≡ i
    here = mark_here rd m₀ m u i on.row room h.size

    other : (c : ℕ) → (c ≡ u → ⊥) → at m' c ≡ at m c
    other c n = at_other m (u - 1) i c (λ e. n (omega (arith, on.row, e)))

    -- a mark above is still one
    above : (c : ℕ) → 1 ≤ at m c → Dec (c ≡ u) → 1 ≤ at m' c
    above c a (yes e) = rw (e, here) one
    above c a (no n) = rw (other c n) a

    slot : (c : ℕ) → Dec (c ≡ u) → Slot rd asked k i m₀ m c → Slot rd asked k (suc i) m₀ m' c
    slot c (yes e) s =
        rw e (marked i one (omega arith) on here (λ o. rw (other (parent rd u) (λ z. omega (arith, parent_before rd u on.row.0))) (up o)))
    slot c (no n) (stays e) = stays (other c n ∙ e)
    slot c (no n) (marked j a b o e up) = marked j a (omega arith) o (other c n ∙ e) (λ g. above (parent rd c) (up g) (ℕ_discrete (parent rd c) u))

-- the chains of a path from row v on are asked, u is the next row, at place i: a child of the row of the last of them that stands at the
-- place before. The rows behind v up to that one have marks
pub record Asking (rd asked m₀ m : List ℕ) (v u k i : ℕ) : Type 0 where
  pub some : 1 ≤ k
  pub one : 1 ≤ i
  pub chains : Asked (length rd) asked k
  pub path : Path rd asked k
  pub first : chain asked 0 ≡ v
  pub row : Row rd u
  pub on : Chained rd (chain asked (k - 1)) (parent rd u)
  pub deep : depth rd u ≡ depth rd (chain asked 0) + i
  pub up : chain asked 0 < parent rd u → 1 ≤ at m (parent rd u)
  pub marks : Marks rd asked k i m₀ m

-- then u stands on the path
pub record Stood (rd asked m₀ m : List ℕ) (v u k i : ℕ) : Type 0 where
  pub some : 1 ≤ k
  pub one : 1 ≤ i
  pub chains : Asked (length rd) asked k
  pub path : Path rd asked k
  pub first : chain asked 0 ≡ v
  pub on : Chained rd (chain asked (k - 1)) u
  pub spot : OnPath rd asked k i u
  pub up : chain asked 0 < parent rd u → 1 ≤ at m (parent rd u)
  pub marks : Marks rd asked k i m₀ m

-- where no step is made, all is as it was
pub asking_stop : {shape asked us : List ℕ} {u k most : ℕ} → AsksNext shape asked k most u us None → us ≡ asked
asking_stop (chained e s z) = s
asking_stop (asks n d o y z) = absurd cc
asking_stop (stops d o s z) = s

module _ (rd : List ℕ) (kr : Outline rd) (few : length rd ≤ 256) where
  -- a child is one deeper
  child_deep : (u w : ℕ) → 1 ≤ u → Child rd u w → depth rd w ≡ suc (depth rd u)
  child_deep u w o c = go (parent_view rd kr w c.0)
    where
      go : ParentView rd w → depth rd w ≡ suc (depth rd u)
      go (root z d f) = absurd (omega (arith, c.1))
      go (child p) = p.step ∙ ap (λ (x : ℕ). suc (depth rd x)) c.1

  -- row v is asked, and w is a child of it
  pub asking_first : (asked us m : List ℕ) (v w n : ℕ) → length asked ≡ 513 → Row rd v → 1 ≤ descendants rd v → Asks asked 0 v us n → Child rd v w
      → (n ≡ 1) × Asking rd us m m v w n 1
  asking_first asked us m v w n s r inner x c = (one, rw one asking)
    where
      none : (i : ℕ) → i < 0 → chain asked i ≡ v → ⊥
      none i h e = omega arith

      one : n ≡ 1
      one = asks_more asked us v 0 n x r.0 none

      new : chain us 0 ≡ v
      new = asks_new asked us v 0 n x r.0 none

      asking : Asking rd us m m v w 1 1
      asking =
          record {
            some = omega arith;
            one = omega arith;
            chains = rw one at (x.asked (length rd) few r.1 (record { size = s; rows = λ i h. absurd (omega arith); places = λ i h. absurd (omega arith) }));
            path = record {
              rows = λ i h. let e : i ≡ 0 = omega arith in rw (e, new) r;
              inner = λ i h. let e : i ≡ 0 = omega arith in rw (e, new) inner;
              down = λ i h. absurd (omega arith);
            };
            first = new;
            row = c.0;
            on = rw (new, c.1) (omega arith, refl);
            deep = rw new (omega (arith, child_deep v w r.0 c));
            up = λ h. absurd (omega (arith, new, c.1));
            marks = marks_none rd us 1 m;
          }

  module _ (asked m₀ m : List ℕ) (v u k i : ℕ) (a : Asking rd asked m₀ m v u k i) (inner : 1 ≤ descendants rd u) where
    final : k - 1 < k
    final = omega (arith, a.some)

    later : chain asked (k - 1) < u
    later = omega (arith, a.on.0, parent_before rd u a.row.0)

    -- u stands on the last of the chains, ..
    pub asking_chained : left_leaf rd u ≡ left_leaf rd (chain asked (k - 1)) → Stood rd asked m₀ m v u k i
    asking_chained e =
        record {
          some = a.some;
          one = a.one;
          chains = a.chains;
          path = a.path;
          first = a.first;
          on = (omega (arith, later), e);
          spot = record {
            nth = k - 1;
            few = final;
            row = a.row;
            inner = inner;
            on = (omega (arith, later), e);
            deep = a.deep;
            high = λ h. absurd (omega arith);
          };
          up = a.up;
          marks = a.marks;
        }

    -- .. or begins one of its own
    module _ (us : List ℕ) (n : ℕ) (x : Asks asked k u us n) where
      fresh : (j : ℕ) → j < k → chain asked j ≡ u → ⊥
      fresh j h e = omega (arith, later, (path_tree rd kr asked k a.path j (k - 1) (omega arith) final).0)

      new : chain us k ≡ u
      new = asks_new asked us u k n x a.row.0 fresh

      pub asking_more : n ≡ suc k
      asking_more = asks_more asked us u k n x a.row.0 fresh

      -- what holds of the chains asked before, and of u
      each : (P : ℕ → Type 0) → ((j : ℕ) → j < k → P (chain asked j)) → P u → (j : ℕ) → j < suc k → P (chain us j)
      each P f p j h = go (dec_lt j k)
        where
          go : Dec (j < k) → P (chain us j)
          go (yes l) = rw (x.keep j l) (f j l)
          go (no l) = let e : j ≡ k = omega arith in rw (e, new) p

      top : chain us 0 ≡ chain asked 0
      top = x.keep 0 a.some

      -- a row at a place before u's stands on the path as before
      on_more : (j c : ℕ) → j < i → OnPath rd asked k j c → OnPath rd us (suc k) j c
      on_more j c l o =
          record {
            nth = o.nth;
            few = omega (arith, o.few);
            row = o.row;
            inner = o.inner;
            on = rw (x.keep o.nth o.few) o.on;
            deep = rw top o.deep;
            high = λ h. high (dec_lt (suc o.nth) k);
          }
        where
          high : Dec (suc o.nth < k) → depth rd c < depth rd (chain us (suc o.nth))
          high (yes h) = rw (x.keep (suc o.nth) h) (o.high h)
          high (no h) = let e : suc o.nth ≡ k = omega (arith, o.few) in rw (e, new) (omega (arith, o.deep, a.deep))

      slot_more : (c : ℕ) → Slot rd asked k i m₀ m c → Slot rd us (suc k) i m₀ m c
      slot_more c (stays e) = stays e
      slot_more c (marked j b l o e up) = marked j b l (on_more j c l o) e (λ h. up (rw top at h))

      down : (j : ℕ) → suc j < suc k → Dec (suc j < k) → Chained rd (chain us j) (parent rd (chain us (suc j)))
      down j h (yes l) = rw (x.keep (suc j) l, x.keep j (omega arith)) (a.path.down j l)
      down j h (no l) = let e : suc j ≡ k = omega arith in let d : j ≡ k - 1 = omega arith in rw (e, new, x.keep j (omega arith), d) a.on

      pub asking_asked : Stood rd us m₀ m v u n i
      asking_asked =
          rw asking_more (
          record {
            some = omega arith;
            one = a.one;
            chains = rw asking_more at (x.asked (length rd) few a.row.1 a.chains);
            path = record {
              rows = each (Row rd) a.path.rows a.row;
              inner = each (λ y. 1 ≤ descendants rd y) a.path.inner inner;
              down = λ j h. down j h (dec_lt (suc j) k);
            };
            first = top ∙ a.first;
            on = let e : suc k - 1 ≡ k = omega arith in rw (e, new) (omega arith, refl);
            spot = record {
              nth = k;
              few = omega arith;
              row = a.row;
              inner = inner;
              on = rw new (omega arith, refl);
              deep = rw top a.deep;
              high = λ h. absurd (omega arith);
            };
            up = λ h. a.up (rw top at h);
            marks = record { size = a.marks.size; rest = a.marks.rest; slots = λ c. slot_more c (a.marks.slots c) };
          }
          )

  -- so it is after one more step
  pub asking_step : (shape asked us m₀ m : List ℕ) (v u k i most n : ℕ) → Shape rd shape → Asking rd asked m₀ m v u k i → AsksNext shape asked k most u us (Some n)
      → 1 ≤ descendants rd u → k ≤ most → (n ≤ most) × Stood rd us m₀ m v u n i
  asking_step shape asked us m₀ m v u k i most n h a x inner l = go x
    where
      go : AsksNext shape asked k most u us (Some n) → (n ≤ most) × Stood rd us m₀ m v u n i
      go (chained e s z) =
          let q : n ≡ k = cc in
          let r = a.chains.rows (k - 1) (omega (arith, a.some)) in
          rw (s, q) (l, asking_chained asked m₀ m v u k i a inner (sym (h.leaves u a.row.1) ∙ e ∙ h.leaves (chain asked (k - 1)) r.1))
      go (asks n' d o y z) =
          let q : n ≡ n' = cc in
          rw q (omega (arith, asking_more asked m₀ m v u k i a inner us n' y), asking_asked asked m₀ m v u k i a inner us n' y)
      go (stops d o s z) = absurd cc

  -- it gets its mark, and a child of it is next
  pub asking_next : (asked m₀ m : List ℕ) (v u k i w : ℕ) → length rd ≤ length m₀ → Stood rd asked m₀ m v u k i → Child rd u w
      → Asking rd asked m₀ (set m (u - 1) i) v w k (suc i)
  asking_next asked m₀ m v u k i w room s c =
      record {
        some = s.some;
        one = omega arith;
        chains = s.chains;
        path = s.path;
        first = s.first;
        row = c.0;
        on = rw c.1 s.on;
        deep = omega (arith, child_deep u w s.spot.row.0 c, s.spot.deep);
        up = λ h. rw (c.1, here) s.one;
        marks = marks_one rd asked k i m₀ m u room s.one s.spot s.up s.marks;
      }
    where
      here : at (set m (u - 1) i) u ≡ i
      here = mark_here rd m₀ m u i s.spot.row room s.marks.size

-- down row 1's chain: row i + 1 is next, at place i, and the rows behind row 1 before it have marks
pub record Chaining (rd m₀ m : List ℕ) (i : ℕ) : Type 0 where
  pub one : 1 ≤ i
  pub row : Row rd (suc i)
  pub on : Chained rd 1 (suc i)
  pub over : parent rd (suc i) ≡ i
  pub up : 1 < i → 1 ≤ at m i
  pub marks : Marks rd (1 ∷ []) 1 i m₀ m

module _ (rd : List ℕ) (kr : Outline rd) where
  -- the first child stands on the chain of its parent
  child_leaf : (u : ℕ) → Row rd u → 1 ≤ descendants rd u → left_leaf rd (suc u) ≡ left_leaf rd u
  child_leaf u r o = go (kids_of rd kr u r)
    where
      go : Kids rd u → left_leaf rd (suc u) ≡ left_leaf rd u
      go (leaf n s) = absurd (omega (arith, leaf_bare rd kr u r s))
      go (child q d n s) = sym s

  pub chaining_next : (m₀ m : List ℕ) (i : ℕ) → length rd ≤ length m₀ → Chaining rd m₀ m i → 1 ≤ descendants rd (suc i) → Chaining rd m₀ (set m i i) (suc i)
  chaining_next m₀ m i room a o =
      let c = first_child rd kr (suc i) a.row o in
      record {
        one = omega arith;
        row = c.0;
        on = (omega arith, child_leaf (suc i) a.row o ∙ a.on.1);
        over = c.1;
        up = λ h. rw (get_or-set_same m i i 0 (omega (arith, a.row, a.marks.size))) a.one;
        marks = let e : suc i - 1 ≡ i = omega arith in
            rw e at (marks_one rd (1 ∷ []) 1 i m₀ m (suc i) room a.one spot (λ h. rw a.over (a.up (omega (arith, a.over)))) a.marks);
      }
    where
      spot : OnPath rd (1 ∷ []) 1 i (suc i)
      spot =
          record {
            nth = 0;
            few = omega arith;
            row = a.row;
            inner = o;
            on = a.on;
            deep = omega (arith, chained_deep rd kr 1 (omega (arith, a.row)) (suc i) a.on);
            high = λ h. absurd (omega arith);
          }
