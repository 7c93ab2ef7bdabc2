-- A pass over a forest of the listing, tree by tree from left to right. Assumes nothing.
use mathlib.Core.Path.{◌≡◌, refl, sym, ap, ap₂, ◌∙◌}
use mathlib.Core.List.{List}
use Prim.Native.Nat.{ℕ, suc, ◌+◌, ◌-◌, ◌≤◌, ◌<◌}
use native.Mathlib.Omega.{arith}
use native.Mathlib.Decide.{dec_lt, dec_le}
use lib.ListN.{length, get_or}
use Rattle.rows.specs.Rows.{at, Row, depth, Outline, last_row}
use Rattle.rows.specs.Forest.{Forest, nil, cons, size, beside, forest_at, below}
use Rattle.rows.specs.Stands.{Stands}
use Rattle.rows.specs.Embedding.{SameLabel}
use Rattle.rows.proofs.Depths.{inside_ends}
use Rattle.rows.proofs.Flat.{beside_nil, beside_assoc, size_beside}
use Rattle.rows.proofs.Stands.{stands_skip, stands_same}
use Rattle.rows.proofs.Windows.{Window, window_at, window_below, size_below}
use Rattle.matching.specs.CornerRow.{OnChain}
use Rattle.matching.specs.Shape.{Foreign}
use Rattle.matching.specs.Asked.{chain}
use Rattle.matching.specs.Placing.{HeldIn}
use Rattle.matching.specs.Room.{Written, same_label, recipe_of}
use Rattle.matching.specs.Path.{log_bytes, Told, Kept}
use Rattle.matching.specs.Engine.{Ready, Begins, Ends, Sought, Found, Through, tree_at, corner_of, with_tree}
use Rattle.matching.proofs.CornerRow.{corner_nothing, corner_join, corner_on}
use Rattle.matching.proofs.Foreign.{foreign_holds, foreign_tells, beside_same, foreign_struck}
use Rattle.matching.proofs.Passes.{none_more, found_more}
use Rattle.matching.proofs.PathLaws.{path_same, told_same, kept_wide, kept_both, kept_none}
use Rattle.matching.proofs.Written.{room_levels}

-- the first tree of a forest that stands behind z rows, and the trees beside it
record First (td : List ℕ) (z : ℕ) (h : Forest ℕ) : Type 0 where
  others : Forest ℕ
  is : h ≡ cons (suc z) (below td (suc z)) others
  stands : Stands td (last_row td (suc z)) others

first_tree : (td : List ℕ) → Outline td → (z : ℕ) (h : Forest ℕ) → Stands td z h → 1 ≤ size h → First td z h
first_tree td o z nil s l = absurd (omega arith)
first_tree td o z (cons a f g) s l =
    let r : Row td (suc z) = (omega arith, s.1) in
    let e = stands_same td (suc z) f (below td (suc z)) s.3 (window_below td o (suc z) r).stands (sym s.2 ∙ sym (size_below td o (suc z) r)) in
    let n : suc (z + size f) ≡ last_row td (suc z) = omega (arith, s.2) in
    record { others = g; is = ap₂ (λ (b : ℕ) (x : Forest ℕ). cons b x g) s.0 e; stands = rw n at s.4 }

-- of the rows behind `first` rows those up to row r are joined: the forest done has with what is left beside it the corners of the whole, none
-- of these rows holds the row sought, and the log tells of them all
pub record Sofar (ws rl td tl asked rs ls : List ℕ) (base q l first : ℕ) (us ss ms : List ℕ) (r : ℕ) : Type 0 where
  pub start : first ≤ r
  pub none : 1 ≤ l → HeldIn (SameLabel rl tl) (recipe_of ws rl) td (chain asked 0) (suc first) r → ⊥
  pub left : Forest ℕ
  pub stands : Stands td r left
  pub rows : r + size left ≡ first + size (forest_at td first (depth td (suc first)))
  pub done : Forest ℕ
  pub whole : (x : ℕ) → Row (recipe_of ws rl) x → corner_of ws rl tl (beside done left) x ≡ corner_of ws rl tl (forest_at td first (depth td (suc first))) x
  pub ends : Ends ws rl asked rs base q (λ i. corner_of ws rl tl done (chain asked i)) us ss
  pub told : (y : ℕ) → first < y → y ≤ r → Told (SameLabel rl tl) (recipe_of ws rl) td asked l ms y
  pub kept : Kept ls (suc first) r ms

-- the pass over the forest behind `first` rows begins: rs is the room rs₀ with no corners yet from base on
pub record Starts (ws rl td tl asked rs₀ : List ℕ) (base q l first : ℕ) (rs : List ℕ) : Type 0 where
  pub ready : Ready ws rl td tl
  pub begins : Begins ws rl asked rs₀ base q (depth td (suc first))
  pub inside : first < length td
  pub sought : Sought ws rl asked q l
  pub clear : Written rs₀ base q (λ i. 0) rs

pub starts : {ws rl td tl asked rs₀ rs : List ℕ} {base q l first : ℕ} → Ready ws rl td tl → Begins ws rl asked rs₀ base q (depth td (suc first)) → first < length td
    → Sought ws rl asked q l → Written rs₀ base q (λ i. 0) rs → Starts ws rl td tl asked rs₀ base q l first rs
starts k b h g w = record { ready = k; begins = b; inside = h; sought = g; clear = w }

module _ {ws rl td tl asked rs₀ rs : List ℕ} {base q l first : ℕ} (st : Starts ws rl td tl asked rs₀ base q l first rs) where
  abbrev d : ℕ
  d = depth td (suc first)

  abbrev Fit : ℕ → ℕ → Type 0
  Fit = SameLabel rl tl

  abbrev end : ℕ
  end = first + size (forest_at td first d)

  abbrev So : List ℕ → List ℕ → List ℕ → List ℕ → ℕ → Type 0
  So ls us ss ms r = Sofar ws rl td tl asked rs ls base q l first us ss ms r

  window : Window td first d (forest_at td first d)
  window = window_at td st.ready.listing.outline first d (omega (arith, st.inside)) (λ n. omega arith)

  fits_end : end ≤ length td
  fits_end = window.fits

  pub so_none : (ls : List ℕ) → length ls ≡ log_bytes → So ls asked rs ls first
  so_none ls size-log =
      record {
        start = omega arith;
        none = λ o i. omega (arith, i.1, i.2);
        left = forest_at td first d;
        stands = window.stands;
        rows = refl;
        done = nil;
        whole = λ x r. refl;
        ends = record {
          chains = st.begins.chains;
          keep = λ i n. refl;
          words = st.clear.size ∙ st.begins.words;
          before = λ j n. refl;
          corners = λ i n. st.clear.new i n ∙ sym (corner_nothing (same_label rl tl) (recipe_of ws rl) (chain asked i));
          path = refl;
        };
        told = λ y a c. absurd (omega arith);
        kept = kept_none ls (suc first) first size-log;
      }

  module _ {ls us ss ms : List ℕ} {r : ℕ} (s : So ls us ss ms r) where
    pub so_fits : (i : ℕ) → i < q → OnChain (recipe_of ws rl) (chain us i) (get_or ss (base + i) 0)
    so_fits i n =
        rw (s.ends.keep i n, s.ends.corners i n) (corner_on (same_label rl tl) (recipe_of ws rl) st.ready.outline s.done (chain asked i) (st.begins.chains.rows i n).1)

    -- the pass ends behind the last tree
    pub so_end : (r < length td → depth td (suc r) < d)
        → (r ≡ end) × Through ws rl td tl asked rs₀ ls base q (λ i. corner_of ws rl tl (forest_at td first d) (chain asked i)) l first end us ss ms
    so_end e =
        let z = at_end (dec_lt r end) in
        let f = sym (beside_nil s.done) ∙ ap (beside s.done) (sym (nothing s.left (omega (arith, s.rows)))) in (
          z,
          record {
            ends = record {
              chains = s.ends.chains;
              keep = s.ends.keep;
              words = s.ends.words;
              before = λ j n. s.ends.before j n ∙ st.clear.before j n;
              corners = λ i n.
                  s.ends.corners i n ∙ ap (λ (g : Forest ℕ). corner_of ws rl tl g (chain asked i)) f ∙ s.whole (chain asked i) (st.begins.chains.rows i n);
              path = s.ends.path;
            };
            none = λ o i. s.none o (rw z i);
            told = λ y a c. s.told y a (omega arith);
            kept = rw z at s.kept;
          },
        )
      where
        at_end : Dec (r < end) → r ≡ end
        at_end (yes o) = absurd (omega (arith, window.rows (suc r) (omega (arith, s.start)) (omega arith), e (omega (arith, fits_end))))
        at_end (no o) = omega (arith, s.rows)

        nothing : (f : Forest ℕ) → size f ≡ 0 → f ≡ nil
        nothing nil n = refl
        nothing (cons a f g) n = absurd (omega arith)

    kept_path : (i : ℕ) → i < l → chain us i ≡ chain asked i
    kept_path i o = s.ends.keep i (omega (arith, st.sought.few))

    pub so_sought : Sought ws rl us q l
    so_sought = record { some = st.sought.some; few = st.sought.few; path = path_same (recipe_of ws rl) asked us l kept_path st.sought.path }

    module _ (n : r < length td) (o : d ≤ depth td (suc r)) where
      row : Row td (suc r)
      row = omega arith

      abbrev last : ℕ
      last = last_row td (suc r)

      pub so_begins : Begins ws rl us ss base q (depth td (suc r))
      so_begins =
          record {
            chains = s.ends.chains;
            words = s.ends.words;
            room = omega (arith, st.begins.room, room_levels (length (recipe_of ws rl)) q (64 - depth td (suc r)) (64 - d) (omega arith));
          }

      more : 1 ≤ size s.left
      more = go (dec_lt r end)
        where
          go : Dec (r < end) → 1 ≤ size s.left
          go (yes i) = omega (arith, s.rows)
          go (no i) =
              let e : r ≡ end = omega (arith, s.rows) in
              absurd (omega (arith, rw (← e) at (window.ends (omega arith))))

      next : First td r s.left
      next = first_tree td st.ready.listing.outline r s.left s.stands more

      abbrev others : Forest ℕ
      others = next.others

      goal_row : 1 ≤ l → Row (recipe_of ws rl) (chain asked 0)
      goal_row o = st.sought.path.rows 0 o

      rest : last + size others ≡ end
      rest = omega (arith, s.rows, ap size next.is, size_below td st.ready.listing.outline (suc r) row)

      -- the next row has a label of a kind that the recipe has not: it is struck
      pub so_struck : Foreign ws (at tl (suc r)) → So ls us ss ms (suc r)
      so_struck f =
          record {
            start = omega (arith, s.start);
            none = λ o. none_more ws rl td tl st.ready (chain asked 0) (goal_row o) first r (suc r) s.start (s.none o)
                (λ (y, a, c, h). let e : y ≡ suc r = omega arith in foreign_holds ws rl td tl st.ready (suc r) (chain asked 0) f (goal_row o) (rw e at h));
            left = beside (below td (suc r)) others;
            stands = stands_skip td r (suc r) (below td (suc r)) others (rw next.is at s.stands);
            rows = omega (arith, s.rows, ap size next.is, size_beside (below td (suc r)) others);
            done = s.done;
            whole = λ x r₁.
                sym (beside_same ws rl td tl st.ready s.done s.left (beside (below td (suc r)) others)
                (λ y h. ap (λ (g : Forest ℕ). corner_of ws rl tl g y) next.is ∙ foreign_struck ws rl td tl st.ready (suc r) (below td (suc r)) others f y h) x r₁)
                ∙ s.whole x r₁;
            ends = s.ends;
            told = λ y a c. told_struck y a c (dec_le y r);
            kept = kept_wide ls (suc first) r (suc first) (suc r) ms (omega arith) (omega arith) s.kept;
          }
        where
          told_struck : (y : ℕ) → first < y → y ≤ suc r → Dec (y ≤ r) → Told Fit (recipe_of ws rl) td asked l ms y
          told_struck y a c (yes i) = s.told y a i
          told_struck y a c (no i) = let e : y ≡ suc r = omega arith in foreign_tells ws rl td tl st.ready asked l ms y (rw e f)

      -- the row sought is found in the next tree: then in the forest
      pub so_found : {t : ℕ} {vs ts os : List ℕ} → Found ws rl td tl us ms l r last t vs ts os
          → Found ws rl td tl asked ls l first end t vs ts os
      so_found {t} {vs} {ts} {os} f =
          let j = inside_ends td (suc r) t row f.found.low f.found.high in
          record {
            some = f.some;
            found = found_more ws rl td tl st.ready (chain asked 0) (goal_row f.some) first r last s.start (s.none f.some) t end (omega (arith, rest)) fits_end j
                (rw (kept_path 0 f.some) at f.found);
            words = f.words;
            logged = record {
              keep = λ i m. f.logged.keep i m ∙ kept_path i m;
              told = λ y a c. told_same Fit (recipe_of ws rl) td asked us l os y kept_path (f.logged.told y a c);
              kept = kept_both ls (suc first) (last_row td t) ms os
                  (kept_wide ls (suc first) r (suc first) (last_row td t) ms (omega arith) (omega (arith, f.found.low)) s.kept)
                  (kept_wide ms (suc r) (last_row td t) (suc first) (last_row td t) os (omega (arith, s.start)) (omega arith) f.logged.kept);
            };
          }

      -- the next tree joins
      pub so_more : {e : ℕ} {vs ts os : List ℕ} → e ≡ last
          → Through ws rl td tl us ss ms base q (λ i. with_tree ws rl td tl r (chain us i) (get_or ss (base + i) 0)) l r last vs ts os
          → So ls vs ts os e
      so_more {e} {vs} {ts} {os} z v =
          let c = v.ends in
          rw z
          record {
            start = omega (arith, s.start);
            none = λ o. none_more ws rl td tl st.ready (chain asked 0) (goal_row o) first r last s.start (s.none o) (rw (kept_path 0 o) at (v.none o));
            left = others;
            stands = next.stands;
            rows = rest;
            done = beside s.done (tree_at td r);
            whole = λ x r₁.
                ap (λ (g : Forest ℕ). corner_of ws rl tl g x) (beside_assoc s.done (tree_at td r) others ∙ ap (beside s.done) (sym next.is)) ∙ s.whole x r₁;
            ends = record {
              chains = c.chains;
              keep = λ i n. c.keep i n ∙ s.ends.keep i n;
              words = c.words;
              before = λ j n. c.before j n ∙ s.ends.before j n;
              corners = λ i n.
                  c.corners i n
                  ∙ ap₂ (λ (x a : ℕ). with_tree ws rl td tl r x a) (s.ends.keep i n) (s.ends.corners i n)
                  ∙ sym (corner_join (same_label rl tl) (recipe_of ws rl) st.ready.outline (chain asked i) s.done (tree_at td r) (st.begins.chains.rows i n));
              path = c.path ∙ s.ends.path;
            };
            told = λ y a c. told_next y a c (dec_le y r);
            kept = kept_both ls (suc first) last ms os (kept_wide ls (suc first) r (suc first) last ms (omega arith) (omega arith) s.kept)
                (kept_wide ms (suc r) last (suc first) last os (omega (arith, s.start)) (omega arith) v.kept);
          }
        where
          told_next : (y : ℕ) → first < y → y ≤ last → Dec (y ≤ r) → Told Fit (recipe_of ws rl) td asked l os y
          told_next y a c (yes i) = λ j o m. rw (v.kept.stays y (λ x z. omega arith)) (s.told y a i j o m)
          told_next y a c (no i) = told_same Fit (recipe_of ws rl) td asked us l os y kept_path (v.told y (omega arith) c)
