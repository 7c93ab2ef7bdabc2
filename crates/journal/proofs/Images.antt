-- Strikes and embeddings: the rows that strikes leave are an embedding, and the strikes of all rows outside an embedding's image leave the recipe.
-- Assumes nothing.
use mathlib.Core.Path.{◌≡◌, refl, sym, ap, ap₂, subst, ◌∙◌}
use mathlib.Core.Bool.{Bool, true, false, ◌&&◌, not}
use mathlib.Core.List.{List, [], ◌∷◌, map}
use Prim.Native.Nat.{ℕ, zero, suc, ◌+◌, ◌-◌, ◌≤◌, ◌<◌}
use native.Mathlib.Omega.{arith}
use lib.ListN.{length, get_or}
use lib.Seq.{ext_get_or}
use Rattle.rows.specs.Rows.{at, Row, depth, Outline, is_ancestor, tally}
use Rattle.rows.specs.Forest.{grow, numbers, forest}
use Rattle.rows.specs.Embedding.{SameLabel, Embeds, Embedding, Included}
use Rattle.rows.proofs.AtLaws.{at_row}
use Rattle.rows.proofs.Order.{Later, in_tree, past_tree, later}
use Rattle.rows.proofs.Tests.{same_test, ancestor_test, tally_same}
use Rattle.rows.proofs.Ancestors.{depth_ancestors}
use Rattle.rows.proofs.Flat.{length_depths, length_carried, grow_flat, outline_flat}
use Rattle.rows.proofs.Inclusion.{embeds_same, included_iff}
use Rattle.journal.specs.Session.{replay, left, rows_left, Named}
use Rattle.journal.specs.Kept.{pick, mem, then_named, Distinct}
use Rattle.journal.proofs.Picks.{Rises, rises_numbers, pick_same, mem_pick, mem_numbers, pick_mem, tally_among}
use Rattle.journal.proofs.Keep.{keep}
use Rattle.journal.proofs.Series.{keeps, left_named, left_carried}
use Rattle.journal.proofs.Lies.{keep_lies, lies_rows}

-- strikes leave rows of the table: those rows, place by place, are an embedding of the table left
module _ (td : List ℕ) (ot : Outline td) (st : List ℕ) (v : Named (length td) st) where
  abbrev ws : List ℕ
  ws = rows_left (length td) st

  same_count : length (rows_left (length td) st) ≡ length (replay td st)
  same_count =
      let h = keeps td ot st v in
      let f = keep h.0 (forest td) in
      ap length h.1.rows_kept ∙ length_carried (keep h.0 (forest td)) ∙ sym (ap length h.1.depths_kept ∙ length_depths f 0)

  pub outline_left : Outline (replay td st)
  outline_left = let h = keeps td ot st v in subst Outline (sym h.1.depths_kept) (outline_flat (keep h.0 (forest td)))

  own_rows : Included (λ u t. at (rows_left (length td) st) u ≡ t) (replay td st) td
  own_rows =
      let h = keeps td ot st v in
      let f = keep h.0 (forest td) in
      let z : length (replay td st) - 0 ≡ length (rows_left (length td) st) = omega (arith, same_count) in
      let g : grow (replay td st) (rows_left (length td) st) 0 ≡ keep h.0 (forest td) =
      ap₂ (λ (x y : List ℕ). grow x y 0) h.1.depths_kept h.1.rows_kept ∙ grow_flat (keep h.0 (forest td)) in
      (included_iff (λ u t. at (rows_left (length td) st) u ≡ t) (replay td st) td outline_left ot).1
      (rw z
      (lies_rows (λ u t. at (rows_left (length td) st) u ≡ t) (replay td st) (rows_left (length td) st)
      (rw g (keep_lies h.0 (forest td))) (λ i o. refl)))

  own_embeds : Embeds (λ u t. at (rows_left (length td) st) u ≡ t) (replay td st) td (Row (replay td st)) (at (rows_left (length td) st))
  own_embeds =
      let i = own_rows in
      embeds_same (λ u t. at (rows_left (length td) st) u ≡ t) (replay td st) td (Row (replay td st)) (at (rows_left (length td) st)) (at i.0)
      (λ u h. i.1.embeds.fits u h) i.1.embeds

  -- if strikes leave a table whose rows are fitted place by place, the rows left are an embedding of it
  pub strikes_embed : (Fit : ℕ → ℕ → Type 0) → ((u : ℕ) → Row (replay td st) u → Fit u (at (rows_left (length td) st) u))
      → Embedding Fit (replay td st) td (rows_left (length td) st)
  strikes_embed Fit fits =
      record {
        count = same_count;
        embeds = record {
          lands = own_embeds.lands;
          fits = fits;
          once = own_embeds.once;
          ancestor = own_embeds.ancestor;
          left = own_embeds.left;
        };
      }

-- an embedding's images rise
module _ (Fit : ℕ → ℕ → Type 0) (rd td m : List ℕ) (od : Outline rd) (e : Embedding Fit rd td m) where
  image_row : (i : ℕ) → i < length m → Row rd (suc i)
  image_row i h = (omega arith, omega (arith, e.count))

  image_later : (i j : ℕ) → i < j → j < length m → get_or m i 0 < get_or m j 0
  image_later i j o h = go (later rd od (suc i) (suc j) (image_row i (omega arith)) (image_row j h) (omega arith))
    where
      go : Later rd od (suc i) (suc j) → get_or m i 0 < get_or m j 0
      go (in_tree a) = omega (arith, (e.embeds.ancestor (suc i) (suc j) (image_row i (omega arith)) (image_row j h)).0 a)
      go (past_tree a) = omega (arith, (e.embeds.left (suc i) (suc j) (image_row i (omega arith)) (image_row j h)).0 a)

  rises_of : (lo : ℕ) (xs : List ℕ) (hi : ℕ) → lo ≤ hi → ((i : ℕ) → i < length xs → (lo < get_or xs i 0) × (get_or xs i 0 ≤ hi))
      → ((i j : ℕ) → i < j → j < length xs → get_or xs i 0 < get_or xs j 0) → Rises lo xs hi
  rises_of lo [] hi l b r = l
  rises_of lo (x ∷ xs) hi l b r = (
    (b 0 (omega arith)).0,
    rises_of x xs hi (b 0 (omega arith)).1
        (λ i h. (r 0 (suc i) (omega arith) (omega arith), (b (suc i) (omega arith)).1)) (λ i j o h. r (suc i) (suc j) (omega arith) (omega arith)),
  )

  pub image_rises : Rises 0 m (length td)
  image_rises = rises_of 0 m (length td) (omega arith) (λ i h. let l = e.embeds.lands (suc i) (image_row i h) in (omega arith, l.1)) image_later

  -- the depth of a recipe row is the number of images that are ancestors of its own
  pub image_depth : (v : ℕ) → Row rd v → depth rd v ≡ tally (λ u. mem u m && is_ancestor td u (at m v)) (length td)
  image_depth v r =
      sym (depth_ancestors rd od v r)
      ∙ tally_same (λ w. is_ancestor rd w v) (λ w. is_ancestor td (at m w) (at m v)) (length rd) (λ w a b. over w (a, b))
      ∙ ap (tally (λ w. is_ancestor td (at m w) (at m v))) (sym e.count)
      ∙ sym (tally_among (λ u. is_ancestor td u (at m v)) (length td) m image_rises)
    where
      over : (w : ℕ) → Row rd w → is_ancestor rd w v ≡ is_ancestor td (at m w) (at m v)
      over w s =
          let i = e.embeds.ancestor w v s r in
          same_test (is_ancestor rd w v) (is_ancestor td (at m w) (at m v))
          (λ t. (ancestor_test td (at m w) (at m v)).1 (i.0 ((ancestor_test rd w v).0 t)))
          (λ t. (ancestor_test rd w v).1 (i.1 ((ancestor_test td (at m w) (at m v)).0 t)))

-- so each row left has the number of its kept ancestors as depth
pub kept_depth : (td st : List ℕ) → Outline td → Named (length td) st → (v : ℕ) → Row (replay td st) v
    → depth (replay td st) v ≡ tally (λ u. mem u (rows_left (length td) st) && is_ancestor td u (at (rows_left (length td) st) v)) (length td)
kept_depth td st ot n v r =
    image_depth (λ u t. at (rows_left (length td) st) u ≡ t) (replay td st) td (rows_left (length td) st) (outline_left td ot st n)
    (strikes_embed td ot st n (λ u t. at (rows_left (length td) st) u ≡ t) (λ u h. refl)) v r

-- a set of rows struck in any order, each named by the number it has then: the kept rows are left, with the number of their kept ancestors as depth
pub set_struck : (td os : List ℕ) → Outline td → Distinct (length td) os
    → (rows_left (length td) (then_named (length td) os) ≡ pick (λ u. not (mem u os)) (numbers 1 (length td)))
    × ((v : ℕ) → Row (replay td (then_named (length td) os)) v
    → depth (replay td (then_named (length td) os)) v
    ≡ tally (λ u. not (mem u os) && is_ancestor td u (at (rows_left (length td) (then_named (length td) os)) v)) (length td))
set_struck td os ot d =
    let l = left_named (length td) os d in
    let st = then_named (length td) os in (
      l.1,
      λ v r.
          kept_depth td st ot l.0 v r
          ∙ tally_same (λ u. mem u (rows_left (length td) st) && is_ancestor td u (at (rows_left (length td) st) v))
          (λ u. not (mem u os) && is_ancestor td u (at (rows_left (length td) st) v)) (length td)
          (λ u a b.
          ap (λ (x : Bool). x && is_ancestor td u (at (rows_left (length td) (then_named (length td) os)) v))
          (ap (mem u) l.1
          ∙ mem_pick (λ w. not (mem w os)) u (numbers 1 (length td))
          ∙ ap (λ (x : Bool). x && not (mem u os)) (mem_numbers u 0 (length td) a (omega arith)))),
    )

-- strikes of all rows outside an embedding's image, in any order, each named by the number it has then
module _ (Fit : ℕ → ℕ → Type 0) (rd td m : List ℕ) (od : Outline rd) (ot : Outline td) (e : Embedding Fit rd td m) (os : List ℕ)
    (d : Distinct (length td) os) (outside : (u : ℕ) → Row td u → mem u os ≡ not (mem u m)) where
  abbrev st : List ℕ
  st = then_named (length td) os

  pub outside_named : Named (length td) (then_named (length td) os)
  outside_named = (left_named (length td) os d).0

  -- the row left at place v is the image of recipe row v
  pub image_left : rows_left (length td) (then_named (length td) os) ≡ m
  image_left =
      let z : 0 + length td ≡ length td = omega arith in
      (left_named (length td) os d).1
      ∙ pick_same (λ u. not (mem u os)) (λ u. mem u m) 0 (numbers 1 (length td)) (length td) (rw z at (rises_numbers 0 (length td)))
      (λ u a b. ap not (outside u (a, b)) ∙ twice (mem u m))
      ∙ pick_mem 0 (length td) m (rw z (image_rises Fit rd td m od e))
    where
      twice : (b : Bool) → not (not b) ≡ b
      twice true = refl
      twice false = refl

  -- and what is left is the recipe
  pub recipe_left : replay td (then_named (length td) os) ≡ rd
  recipe_left =
      ext_get_or 0 (replay td st) rd (sym (same_count td ot st outside_named) ∙ ap length image_left ∙ e.count) (λ i h. row (suc i) (omega arith, h))
    where
      row : (v : ℕ) → Row (replay td st) v → depth (replay td st) v ≡ depth rd v
      row v r =
          kept_depth td st ot outside_named v r
          ∙ ap (λ (l : List ℕ). tally (λ u. mem u l && is_ancestor td u (at l v)) (length td)) image_left
          ∙ sym (image_depth Fit rd td m od e v (r.0, omega (arith, r.1, same_count td ot st outside_named, ap length image_left, e.count)))

  -- with whatever the images carry
  pub carried_left : {A : Type 0} (a : A) (xs : List A) → length xs ≡ length td → left xs (then_named (length td) os) ≡ map (λ t. get_or xs (t - 1) a) m
  carried_left a xs n = left_carried a xs st ∙ ap (map (λ t. get_or xs (t - 1) a)) (ap (λ (x : ℕ). rows_left x st) n ∙ image_left)

-- where to fit is to have equal labels, the labels left are the recipe's
pub labels_left : (rd rl td tl m : List ℕ) → Outline rd → Outline td → length rl ≡ length rd → length tl ≡ length td → Embedding (SameLabel rl tl) rd td m
    → (os : List ℕ) → Distinct (length td) os → ((u : ℕ) → Row td u → mem u os ≡ not (mem u m)) → left tl (then_named (length td) os) ≡ rl
labels_left rd rl td tl m od ot a b e os d outside =
    carried_left (SameLabel rl tl) rd td m od ot e os d outside 0 tl b
    ∙ labelled m rl (e.count ∙ sym a)
    (λ i h.
    let r : Row rd (suc i) = (omega arith, omega (arith, e.count)) in
    e.embeds.fits (suc i) r ∙ at_row tl (get_or m i 0) (e.embeds.lands (suc i) r).0)
  where
    labelled : (m rl : List ℕ) → length m ≡ length rl → ((i : ℕ) → i < length m → get_or rl i 0 ≡ get_or tl (get_or m i 0 - 1) 0) → map (λ t. get_or tl (t - 1) 0) m
        ≡ rl
    labelled [] [] n h = refl
    labelled [] (y ∷ ys) n h = absurd (omega arith)
    labelled (x ∷ xs) [] n h = absurd (omega arith)
    labelled (x ∷ xs) (y ∷ ys) n h = ap₂ ◌∷◌ (sym (h 0 (omega arith))) (labelled xs ys (omega arith) (λ i o. h (suc i) (omega arith)))

-- a listing of whose rows strikes leave a recipe includes it
pub left_included : (rd rl td tl st : List ℕ) → Outline td → length tl ≡ length td → Named (length td) st → replay td st ≡ rd → left tl st ≡ rl
    → Included (SameLabel rl tl) rd td
left_included rd rl td tl st ot n v e f = rw (sym e, sym f) (rows_left (length td) st, strikes_embed td ot st v (SameLabel (left tl st) tl) fits)
  where
    mapped : (ws : List ℕ) (i : ℕ) → i < length ws → get_or (map (λ t. get_or tl (t - 1) 0) ws) i 0 ≡ get_or tl (get_or ws i 0 - 1) 0
    mapped [] i h = absurd (omega arith)
    mapped (w ∷ ws) zero h = refl
    mapped (w ∷ ws) (suc i) h = mapped ws i (omega arith)

    fits : (u : ℕ) → Row (replay td st) u → SameLabel (left tl st) tl u (at (rows_left (length td) st) u)
    fits zero r = absurd (omega arith)
    fits (suc i) r =
        ap (λ (l : List ℕ). get_or l i 0) (left_carried 0 tl st ∙ ap (λ (x : ℕ). map (λ t. get_or tl (t - 1) 0) (rows_left x st)) n)
        ∙ mapped (rows_left (length td) st) i (omega (arith, same_count td ot st v))
        ∙ sym (at_row tl (get_or (rows_left (length td) st) i 0) ((own_embeds td ot st v).lands (suc i) r).0)
