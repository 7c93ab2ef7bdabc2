-- What the loops over the descendants do to a list, turn by turn, and the slots that move by one place. Assumes nothing.
use mathlib.Core.Path.{◌≡◌, refl, sym, ap, ap₂, ◌∙◌}
use mathlib.Core.List.{List, [], ◌∷◌, ◌++◌}
use Prim.Native.Nat.{ℕ, zero, suc, ◌+◌, ◌-◌, ◌≤◌, ◌<◌}
use native.Mathlib.Omega.{arith}
use lib.ListN.{length, get_or, take, drop, set, length-drop}
use lib.Seq.{paste, length_paste_head, drop-cons, take-take, set_at}
use Rattle.std.proofs.lemmas.List.{get_or-take, get_or-drop}
use Rattle.std.proofs.lemmas.Slice.{between_is}
use borrow.Rule.Slice.PartMut.{put_mid}
use Rattle.journal.specs.Strike.{first_by, without, put_back}

-- rows changed in place: the n behind the first r
module _ (f : ℕ → ℕ) where
  pub length_first : (n : ℕ) (xs : List ℕ) → length (first_by f n xs) ≡ length xs
  length_first zero xs = refl
  length_first (suc n) [] = refl
  length_first (suc n) (x ∷ xs) = ap suc (length_first n xs)

  abbrev pub changed : ℕ → ℕ → List ℕ → List ℕ
  changed r n xs = take r xs ++ first_by f n (drop r xs)

  -- the loop over a part from place r on: its element i, a turn of it, and what the list is at its end
  pub changed_here : (r m i : ℕ) (xs ys : List ℕ) → i < length (take m (drop r xs)) → ys ≡ first_by f i (take m (drop r xs))
      → (i < m) × (get_or ys i 0 ≡ get_or xs (r + i) 0)
  changed_here r m i xs ys h e =
      let l = short m i (drop r xs) h in
      (l, ap (λ (l : List ℕ). get_or l i 0) e ∙ here i (take m (drop r xs)) ∙ get_or-take m (drop r xs) i 0 l ∙ get_or-drop r xs i 0)
    where
      short : (m i : ℕ) (xs : List ℕ) → i < length (take m xs) → i < m
      short zero i xs h = h
      short (suc m) i [] h = absurd (omega arith)
      short (suc m) zero (x ∷ xs) h = omega arith
      short (suc m) (suc i) (x ∷ xs) h = let l = short m i xs (omega arith) in omega arith

      here : (i : ℕ) (xs : List ℕ) → get_or (first_by f i xs) i 0 ≡ get_or xs i 0
      here zero xs = refl
      here (suc i) [] = refl
      here (suc i) (x ∷ xs) = here i xs

  pub changed_turn : (i v : ℕ) (xs ys : List ℕ) → i < length xs → ys ≡ first_by f i xs → v ≡ f (get_or ys i 0) → set ys i v ≡ first_by f (i + 1) xs
  changed_turn i v xs ys h e q =
      let s : i + 1 ≡ suc i = omega arith in
      ap₂ (λ (l : List ℕ) (x : ℕ). set l i x) e (q ∙ ap (λ (l : List ℕ). f (get_or l i 0)) e) ∙ turn i xs h ∙ ap (λ (n : ℕ). first_by f n xs) (sym s)
    where
      turn : (i : ℕ) (xs : List ℕ) → i < length xs → set (first_by f i xs) i (f (get_or (first_by f i xs) i 0)) ≡ first_by f (suc i) xs
      turn i [] h = absurd (omega arith)
      turn zero (x ∷ xs) h = refl
      turn (suc i) (x ∷ xs) h = ap (λ (l : List ℕ). f x ∷ l) (turn i xs (omega arith))

  pub changed_end : (r n i : ℕ) (xs ys : List ℕ) → length (take (r + n - r) (drop r xs)) ≤ i → ys ≡ first_by f i (take (r + n - r) (drop r xs))
      → put_mid r (r + n - r) xs ys ≡ changed r n xs
  changed_end r n i xs ys h e =
      let z : r + n - r ≡ n = omega arith in
      ap (put_mid r (r + n - r) xs) e ∙ ap (λ (l : List ℕ). take r xs ++ l) (whole (r + n - r) i (drop r xs) h) ∙ ap (λ (n : ℕ). changed r n xs) z
    where
      whole : (n i : ℕ) (xs : List ℕ) → length (take n xs) ≤ i → first_by f i (take n xs) ++ drop n xs ≡ first_by f n xs
      whole zero zero xs h = refl
      whole zero (suc i) xs h = refl
      whole (suc n) zero [] h = refl
      whole (suc n) (suc i) [] h = refl
      whole (suc n) zero (x ∷ xs) h = absurd (omega arith)
      whole (suc n) (suc i) (x ∷ xs) h = ap (λ (l : List ℕ). f x ∷ l) (whole n i xs (omega arith))

-- the slots behind place r have moved up, and the last of the first n is v
pub close_end : {A : Type 0} (xs : List A) (r n : ℕ) (v : A) → 1 ≤ r → r ≤ n → n ≤ length xs
    → set (paste xs (r - 1) (drop r xs) (n - r)) (n - 1) v ≡ without (take n xs) r ++ (v ∷ drop n xs)
close_end {A} xs r n v a b h =
    let l : length (drop r xs) ≡ length xs - r = length-drop r xs in
    let m : r - 1 + (n - r) ≡ n - 1 = omega arith in
    let z : suc (r - 1) ≡ r = omega arith in
    let s : suc (n - 1) ≡ n = omega arith in
    let p : List A = take (r - 1) xs ++ take (n - r) (drop r xs) in
    let w : without (take n xs) r ≡ p =
    ap (without (take n xs)) (sym z)
    ∙ ap₂ ◌++◌ (take-take (r - 1) n xs (omega arith)) (ap (λ (x : ℕ). drop x (take n xs)) z ∙ sym (between_is xs r n)) in
    ap (λ (q : List A). set q (n - 1) v) (ap (λ (x : ℕ). p ++ drop x xs) m ∙ ap (λ (q : List A). p ++ q) (drop-cons xs (n - 1) v (omega arith)))
    ∙ set_at p (get_or xs (n - 1) v) (drop (suc (n - 1)) xs) v (n - 1) (length_paste_head xs (r - 1) (drop r xs) (n - r) (omega arith) (omega arith) ∙ m)
    ∙ ap₂ (λ (q : List A) (x : ℕ). q ++ (v ∷ drop x xs)) (sym w) s

-- the slots of the first n from place r on have moved down, and v is at place r
pub open_end : {A : Type 0} (xs : List A) (r n : ℕ) (v : A) → 1 ≤ r → r ≤ suc n → n < length xs
    → set (paste xs r (drop (r - 1) xs) (n - (r - 1))) (r - 1) v ≡ put_back (take n xs) r v ++ drop (suc n) xs
open_end {A} xs r n v a b h =
    let z : suc (r - 1) ≡ r = omega arith in
    let l : r + (n - (r - 1)) ≡ suc n = omega arith in
    let m = n - (r - 1) in
    ap₂ (λ (x y : ℕ). set ((take x xs ++ take m (drop (r - 1) xs)) ++ drop y xs) (r - 1) v) (sym z) l
    ∙ first (r - 1) xs (take m (drop (r - 1) xs)) (drop (suc n) xs) (omega arith)
    ∙ ap (λ (q : List A). q ++ drop (suc n) xs)
    (ap₂ (λ (p q : List A). p ++ (v ∷ q)) (sym (take-take (r - 1) n xs (omega arith)))
    (between_is xs (r - 1) n)
    ∙ ap (λ (x : ℕ). put_back (take n xs) x v) z)
  where
    first : (i : ℕ) (xs s t : List A) → i < length xs → set ((take (suc i) xs ++ s) ++ t) i v ≡ (take i xs ++ (v ∷ s)) ++ t
    first i [] s t h = absurd (omega arith)
    first zero (x ∷ xs) s t h = refl
    first (suc i) (x ∷ xs) s t h = ap (λ (l : List A). x ∷ l) (first i xs s t (omega arith))
