-- A series of strikes keeps the rows that it does not strike, whatever the order. Assumes nothing.
use mathlib.Core.Path.{◌≡◌, refl, sym, ap, ap₂, subst, ◌∙◌}
use mathlib.Core.Bool.{Bool, true, false, ◌&&◌, ◌||◌, not}
use mathlib.Core.List.{List, [], ◌∷◌, map, append-nil}
use Prim.Native.Nat.{ℕ, zero, suc, ◌+◌, ◌-◌, ◌≤◌, ◌<◌}
use native.Mathlib.Omega.{arith}
use lib.Dec.{eqb}
use lib.ListN.{length, get_or}
use Rattle.rows.specs.Rows.{Outline}
use Rattle.rows.specs.Forest.{size, depths, carried, numbers, forest}
use Rattle.rows.proofs.Flat.{length_carried, length_numbers, flat_forest}
use Rattle.rows.proofs.Windows.{stands_forest, size_forest}
use Rattle.journal.specs.Strike.{strike_depths, without}
use Rattle.journal.specs.Session.{replay, left, rows_left, Named}
use Rattle.journal.specs.Kept.{pick, mem, but, then_named, Distinct}
use Rattle.journal.proofs.Strikes.{length_left}
use Rattle.journal.proofs.Picks.{pick_pick, Rises, rises_numbers, rises_pick, pick_same, pick_all, mem_pick, mem_numbers, pick_mem, place_first, place_last, without_place}
use Rattle.journal.proofs.Keep.{keep, carried_keep, keep_keep, Climbs, climbs_keep, climbs_stands, keep_same, keep_all, entered, strike_keep, without_keep}

-- the rows left draw what is kept of the first forest
pub record Keeps (ds st : List ℕ) (k : ℕ → Bool) : Type 0 where
  pub depths_kept : replay ds st ≡ depths 0 (keep k (forest ds))
  pub rows_kept : rows_left (length ds) st ≡ carried (keep k (forest ds))

module _ (ds : List ℕ) (o : Outline ds) where
  climbs : Climbs 0 (forest ds) (length ds)
  climbs = let e : 0 + size (forest ds) ≡ length ds = omega (arith, size_forest ds o) in subst (Climbs 0 (forest ds)) e
      (climbs_stands ds 0 (forest ds) (stands_forest ds o))

  keeps_none : Keeps ds [] (λ u. true)
  keeps_none =
      let e : keep (λ u. true) (forest ds) ≡ forest ds = keep_all (λ u. true) 0 (forest ds) (length ds) climbs (λ u a b. refl) in
      record { depths_kept = sym (ap (depths 0) e ∙ (flat_forest ds o).0); rows_kept = sym (ap carried e ∙ (flat_forest ds o).1) }

  named_numbers : (st : List ℕ) → Named (length ds) st → length (rows_left (length ds) st) + length st ≡ length ds
  named_numbers st v =
      let n = length_numbers 1 (length ds) in length_left (numbers 1 (length ds)) st (rw n v) ∙ n

  keeps_more : (r : ℕ) (st : List ℕ) (k : ℕ → Bool) → Named (length ds) (r ∷ st) → Keeps ds st k → (l : ℕ → Bool) × Keeps ds (r ∷ st) l
  keeps_more r st k v h =
      let f = keep k (forest ds) in
      let i : suc (r - 1) ≡ r = omega (arith, v.0) in
      let n : r - 1 < size (keep k (forest ds)) =
      omega (arith, v.0, v.1, named_numbers st v.2, ap length h.rows_kept, length_carried (keep k (forest ds))) in
      let u = get_or (carried (keep k (forest ds))) (r - 1) 0 in
      let c = climbs_keep k 0 (forest ds) (length ds) climbs in
      let e = entered (keep k (forest ds)) (r - 1) n in (
        λ w. k w && but (get_or (carried (keep k (forest ds))) (r - 1) 0) w,
        record {
          depths_kept = ap₂ strike_depths h.depths_kept (sym i)
              ∙ ap (λ (l : List ℕ). strike_depths l (suc (r - 1))) (sym (append-nil (depths 0 f)))
              ∙ strike_keep 0 (length ds) 0 [] e c tt
              ∙ append-nil (depths 0 (keep (but u) f))
              ∙ ap (depths 0) (keep_keep k (but u) (forest ds));
          rows_kept = ap₂ without h.rows_kept (sym i) ∙ without_keep 0 (length ds) e c ∙ ap carried (keep_keep k (but u) (forest ds));
        },
      )

  pub keeps : (st : List ℕ) → Named (length ds) st → (k : ℕ → Bool) × Keeps ds st k
  keeps [] v = (λ u. true, keeps_none)
  keeps (r ∷ st) v = let h = keeps st v.2 in keeps_more r st h.0 v h.1

  left_picked : (st : List ℕ) (k : ℕ → Bool) → Keeps ds st k → rows_left (length ds) st ≡ pick k (numbers 1 (length ds))
  left_picked st k h = h.rows_kept ∙ carried_keep k (forest ds) ∙ ap (pick k) (flat_forest ds o).1

  left_rises : (st : List ℕ) → Named (length ds) st → Rises 0 (rows_left (length ds) st) (length ds)
  left_rises st v =
      let h = keeps st v in
      let e : 0 + length ds ≡ length ds = omega arith in
      subst (λ (l : List ℕ). Rises 0 l (length ds)) (sym (left_picked st h.0 h.1))
      (rises_pick h.0 0 (numbers 1 (length ds)) (length ds) (rw e at (rises_numbers 0 (length ds))))

  -- the rows left are kept ones of the first rows, in their order
  pub left_in_order : (st : List ℕ) → Named (length ds) st → rows_left (length ds) st ≡ pick (λ u. mem u (rows_left (length ds) st)) (numbers 1 (length ds))
  left_in_order st v =
      let e : 0 + length ds ≡ length ds = omega arith in sym (pick_mem 0 (length ds) (rows_left (length ds) st) (rw e (left_rises st v)))

  -- only the set of rows left matters: series that leave the same rows leave the same table
  pub any_order : (st su : List ℕ) → Named (length ds) st → Named (length ds) su → ((u : ℕ) → mem u (rows_left (length ds) st) ≡ mem u (rows_left (length ds) su))
      → (replay ds st ≡ replay ds su) × (rows_left (length ds) st ≡ rows_left (length ds) su)
  any_order st su v w e =
      let h = keeps st v in
      let i = keeps su w in
      let s : keep h.0 (forest ds) ≡ keep i.0 (forest ds) =
      keep_same h.0 i.0 0 (forest ds) (length ds) climbs (λ u a b. sym (is st h.0 h.1 u a b) ∙ e u ∙ is su i.0 i.1 u a b) in
      (h.1.depths_kept ∙ ap (depths 0) s ∙ sym i.1.depths_kept, h.1.rows_kept ∙ ap carried s ∙ sym i.1.rows_kept)
    where
      is : (st : List ℕ) (k : ℕ → Bool) → Keeps ds st k → (u : ℕ) → 0 < u → u ≤ length ds → mem u (rows_left (length ds) st) ≡ k u
      is st k h u a b =
          ap (mem u) (left_picked st k h)
          ∙ mem_pick k u (numbers 1 (length ds))
          ∙ ap (λ (x : Bool). x && k u) (mem_numbers u 0 (length ds) a (omega arith))

-- rows struck one by one, each named by the number that it has then: all others are left
pub left_named : (n : ℕ) (os : List ℕ) → Distinct n os → Named n (then_named n os) × (rows_left n (then_named n os) ≡ pick (λ u. not (mem u os)) (numbers 1 n))
left_named n [] d =
    let e : 0 + n ≡ n = omega arith in (tt, sym (pick_all (λ u. true) 0 (numbers 1 n) n (rw e at (rises_numbers 0 n)) (λ u a b. refl)))
left_named n (o ∷ os) d =
    let ih = left_named n os d.3 in
    let e : 0 + n ≡ n = omega arith in
    let ws = rows_left n (then_named n os) in
    let r : Rises 0 (numbers 1 n) n = rw e at (rises_numbers 0 n) in
    let c : Rises 0 (rows_left n (then_named n os)) n = subst (λ (l : List ℕ). Rises 0 l n) (sym ih.1)
    (rises_pick (λ u. not (mem u os)) 0 (numbers 1 n) n r) in
    let m : mem o (rows_left n (then_named n os)) ≡ true =
    ap (mem o) ih.1
    ∙ mem_pick (λ u. not (mem u os)) o (numbers 1 n)
    ∙ ap₂ (λ (x y : Bool). x && not y) (mem_numbers o 0 n d.0 (omega (arith, d.1))) d.2 in
    let l = length_numbers 1 n in
    let s = length_left (numbers 1 n) (then_named n os) (rw l ih.0) in (
      (place_first o ws, omega (arith, place_last o (rows_left n (then_named n os)) m), ih.0),
      without_place o 0 ws n c m
          ∙ ap (pick (but o)) ih.1
          ∙ pick_pick (λ u. not (mem u os)) (but o) (numbers 1 n)
          ∙ pick_same (λ u. not (mem u os) && but o u) (λ u. not (mem u (o ∷ os))) 0 (numbers 1 n) n r (λ u a b. both (mem u os) (eqb u o)),
    )
  where
    both : (p q : Bool) → (not p && not q) ≡ not (q || p)
    both true true = refl
    both true false = refl
    both false true = refl
    both false false = refl

-- whatever the rows carry is left with them
module _ {A : Type 0} (a : A) where
  shift : (x : A) (xs : List A) (z n : ℕ) → map (λ v. get_or (x ∷ xs) (v - 1) a) (numbers (suc (suc z)) n) ≡ map (λ v. get_or xs (v - 1) a) (numbers (suc z) n)
  shift x xs z zero = refl
  shift x xs z (suc n) =
      let e : suc (suc z) - 1 ≡ suc z = omega arith in
      let f : suc z - 1 ≡ z = omega arith in
      ap₂ ◌∷◌ (rw (e, f)) (shift x xs (suc z) n)

  all_carried : (xs : List A) → xs ≡ map (λ v. get_or xs (v - 1) a) (numbers 1 (length xs))
  all_carried [] = refl
  all_carried (x ∷ xs) = ap (λ (l : List A). x ∷ l) (all_carried xs ∙ sym (shift x xs 0 (length xs)))

  map_without : (f : ℕ → A) (ws : List ℕ) (r : ℕ) → map f (without ws r) ≡ without (map f ws) r
  map_without f ws zero = refl
  map_without f [] (suc zero) = refl
  map_without f [] (suc (suc i)) = refl
  map_without f (w ∷ ws) (suc zero) = refl
  map_without f (w ∷ ws) (suc (suc i)) = ap (λ (l : List A). f w ∷ l) (map_without f ws (suc i))

  pub left_carried : (xs : List A) (st : List ℕ) → left xs st ≡ map (λ v. get_or xs (v - 1) a) (rows_left (length xs) st)
  left_carried xs [] = all_carried xs
  left_carried xs (r ∷ st) = ap (λ (l : List A). without l r) (left_carried xs st) ∙ sym (map_without (λ v. get_or xs (v - 1) a) (rows_left (length xs) st) r)
