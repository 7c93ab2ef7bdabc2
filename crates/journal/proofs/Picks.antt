-- The entries of a list that pass a test, and rows by their places in a list. Assumes nothing.
use mathlib.Core.Path.{◌≡◌, refl, sym, ap, ap₂, subst₂, ◌∙◌}
use mathlib.Core.Bool.{Bool, true, false, ◌&&◌, ◌||◌, not}
use mathlib.Core.List.{List, [], ◌∷◌, ◌++◌}
use Prim.Native.Nat.{ℕ, zero, suc, ◌+◌, ◌≤◌, ◌<◌}
use native.Mathlib.Omega.{arith}
use native.Mathlib.Decide.{dec_lt}
use lib.Dec.{eqb}
use lib.ListN.{length, get_or}
use borrow.Author.Tests.{eqb-true, eqb-false, eq-eqb, ne_eqb}
use Rattle.rows.specs.Rows.{at, counted, tally}
use Rattle.rows.specs.Forest.{numbers}
use Rattle.rows.proofs.Tests.{tally_same}
use Rattle.rows.proofs.Flat.{length_numbers}
use Rattle.journal.specs.Strike.{without}
use Rattle.journal.specs.Kept.{pick, more, mem, but, place_of}

pub pick_append : (k : ℕ → Bool) (xs ys : List ℕ) → pick k (xs ++ ys) ≡ pick k xs ++ pick k ys
pick_append k [] ys = refl
pick_append k (x ∷ xs) ys = ap (more (k x) x) (pick_append k xs ys) ∙ more_append (k x)
  where
    more_append : (b : Bool) → more b x (pick k xs ++ pick k ys) ≡ more b x (pick k xs) ++ pick k ys
    more_append true = refl
    more_append false = refl

pub pick_pick : (k l : ℕ → Bool) (xs : List ℕ) → pick l (pick k xs) ≡ pick (λ u. k u && l u) xs
pick_pick k l [] = refl
pick_pick k l (x ∷ xs) = go (k x) (pick_pick k l xs)
  where
    go : (b : Bool) → pick l (pick k xs) ≡ pick (λ u. k u && l u) xs → pick l (more b x (pick k xs)) ≡ more (b && l x) x (pick (λ u. k u && l u) xs)
    go true ih = ap (more (l x) x) ih
    go false ih = ih

-- entries that rise, above lo and up to hi
abbrev pub Rises : ℕ → List ℕ → ℕ → Type 0
Rises lo [] hi = lo ≤ hi
Rises lo (x ∷ xs) hi = (lo < x) × Rises x xs hi

pub rises_le : (lo : ℕ) (xs : List ℕ) (hi : ℕ) → Rises lo xs hi → lo ≤ hi
rises_le lo [] hi r = r
rises_le lo (x ∷ xs) hi r = omega (arith, rises_le x xs hi r.1)

pub rises_lower : (lo m : ℕ) (xs : List ℕ) (hi : ℕ) → m ≤ lo → Rises lo xs hi → Rises m xs hi
rises_lower lo m [] hi l r = omega arith
rises_lower lo m (x ∷ xs) hi l r = (omega arith, r.1)

pub rises_numbers : (z n : ℕ) → Rises z (numbers (suc z) n) (z + n)
rises_numbers z zero = omega arith
rises_numbers z (suc n) = let e : z + suc n ≡ suc z + n = omega arith in (omega arith, rw e (rises_numbers (suc z) n))

pub rises_pick : (k : ℕ → Bool) (lo : ℕ) (xs : List ℕ) (hi : ℕ) → Rises lo xs hi → Rises lo (pick k xs) hi
rises_pick k lo [] hi r = r
rises_pick k lo (x ∷ xs) hi r = go (k x) (rises_pick k x xs hi r.1)
  where
    go : (b : Bool) → Rises x (pick k xs) hi → Rises lo (more b x (pick k xs)) hi
    go true ih = (r.0, ih)
    go false ih = rises_lower x lo (pick k xs) hi (omega arith) ih

-- tests that agree on the entries
pub pick_same : (k l : ℕ → Bool) (lo : ℕ) (xs : List ℕ) (hi : ℕ) → Rises lo xs hi → ((u : ℕ) → lo < u → u ≤ hi → k u ≡ l u) → pick k xs ≡ pick l xs
pick_same k l lo [] hi r e = refl
pick_same k l lo (x ∷ xs) hi r e =
    ap₂ (λ (b : Bool) (y : List ℕ). more b x y) (e x r.0 (rises_le x xs hi r.1)) (pick_same k l x xs hi r.1 (λ u a b. e u (omega arith) b))

pub pick_all : (k : ℕ → Bool) (lo : ℕ) (xs : List ℕ) (hi : ℕ) → Rises lo xs hi → ((u : ℕ) → lo < u → u ≤ hi → k u ≡ true) → pick k xs ≡ xs
pick_all k lo [] hi r e = refl
pick_all k lo (x ∷ xs) hi r e =
    ap₂ (λ (b : Bool) (y : List ℕ). more b x y) (e x r.0 (rises_le x xs hi r.1)) (pick_all k x xs hi r.1 (λ u a b. e u (omega arith) b))

-- membership
pub mem_low : (u lo : ℕ) (xs : List ℕ) (hi : ℕ) → Rises lo xs hi → u ≤ lo → mem u xs ≡ false
mem_low u lo [] hi r h = refl
mem_low u lo (x ∷ xs) hi r h = rw (ne_eqb u x (λ e. omega arith)) (mem_low u x xs hi r.1 (omega arith))

pub mem_pick : (k : ℕ → Bool) (u : ℕ) (xs : List ℕ) → mem u (pick k xs) ≡ (mem u xs && k u)
mem_pick k u [] = refl
mem_pick k u (x ∷ xs) = go (k x) refl (eqb u x) refl (mem_pick k u xs)
  where
    none : (b c : Bool) → c ≡ false → (b && c) ≡ false
    none true c e = e
    none false c e = refl

    go : (b : Bool) → k x ≡ b → (c : Bool) → eqb u x ≡ c → mem u (pick k xs) ≡ (mem u xs && k u)
        → mem u (more b x (pick k xs)) ≡ ((c || mem u xs) && k u)
    go true p true q ih = let e : u ≡ x = eqb-true u x q in rw q (sym p ∙ ap k (sym e))
    go true p false q ih = rw q ih
    go false p true q ih = let e : u ≡ x = eqb-true u x q in let f : k u ≡ false = ap k e ∙ p in ih ∙ none (mem u xs) (k u) f ∙ sym f
    go false p false q ih = ih

pub mem_numbers : (u z n : ℕ) → z < u → u ≤ z + n → mem u (numbers (suc z) n) ≡ true
mem_numbers u z zero a b = absurd (omega arith)
mem_numbers u z (suc n) a b = go (dec_lt (suc z) u) (mem_numbers u (suc z) n)
  where
    or_true : (b c : Bool) → c ≡ true → (b || c) ≡ true
    or_true true c e = refl
    or_true false c e = e

    go : Dec (suc z < u) → (suc z < u → u ≤ suc z + n → mem u (numbers (suc (suc z)) n) ≡ true) → (eqb u (suc z) || mem u (numbers (suc (suc z)) n)) ≡ true
    go (yes h) ih = or_true (eqb u (suc z)) _ (ih h (omega arith))
    go (no h) ih = rw (eq-eqb u (suc z) (omega arith))

-- rising entries are just those of the numbers that are among them
pub pick_mem : (z n : ℕ) (xs : List ℕ) → Rises z xs (z + n) → pick (λ u. mem u xs) (numbers (suc z) n) ≡ xs
pick_mem z zero [] r = refl
pick_mem z zero (x ∷ xs) r = absurd (omega (arith, rises_le x xs (z + 0) r.1))
pick_mem z (suc n) [] r = pick_mem (suc z) n [] (omega arith)
pick_mem z (suc n) (x ∷ xs) r = go (dec_lt (suc z) x) (pick_mem (suc z) n)
  where
    e : z + suc n ≡ suc z + n
    e = omega arith

    go : Dec (suc z < x) → ((ys : List ℕ) → Rises (suc z) ys (suc z + n) → pick (λ u. mem u ys) (numbers (suc (suc z)) n) ≡ ys)
        → pick (λ u. mem u (x ∷ xs)) (suc z ∷ numbers (suc (suc z)) n) ≡ x ∷ xs
    go (yes h) ih =
        let f : mem (suc z) (x ∷ xs) ≡ false = mem_low (suc z) (suc z) (x ∷ xs) (z + suc n) (h, r.1) (omega arith) in
        ap (λ (b : Bool). more b (suc z) (pick (λ u. mem u (x ∷ xs)) (numbers (suc (suc z)) n))) f ∙ ih (x ∷ xs) (h, rw e at r.1)
    go (no h) ih =
        let x-is : suc z ≡ x = omega arith in
        let f : mem (suc z) (x ∷ xs) ≡ true = rw (eq-eqb (suc z) x x-is) in
        let i : Rises (suc z) xs (suc z + n) = subst₂ (λ (a b : ℕ). Rises a xs b) (sym x-is) e r.1 in
        ap (λ (b : Bool). more b (suc z) (pick (λ u. mem u (x ∷ xs)) (numbers (suc (suc z)) n))) f
        ∙ ap₂ ◌∷◌ x-is
        (pick_same (λ u. mem u (x ∷ xs)) (λ u. mem u xs) (suc z) (numbers (suc (suc z)) n) (suc z + n) (rises_numbers (suc z) n)
        (λ u a b. ap (λ (c : Bool). c || mem u xs) (ne_eqb u x (λ q. omega arith)))
        ∙ ih xs i)

-- the place of an entry
place_here : (u x : ℕ) (xs : List ℕ) → eqb u x ≡ true → place_of u (x ∷ xs) ≡ 1
place_here u x xs e = rw (e, place_of)

place_later : (u x : ℕ) (xs : List ℕ) → eqb u x ≡ false → place_of u (x ∷ xs) ≡ suc (place_of u xs)
place_later u x xs e = rw (e, place_of)

pub place_first : (u : ℕ) (xs : List ℕ) → 1 ≤ place_of u xs
place_first u [] = omega arith
place_first u (x ∷ xs) = go (eqb u x) refl
  where
    go : (b : Bool) → eqb u x ≡ b → 1 ≤ place_of u (x ∷ xs)
    go true e = omega (arith, place_here u x xs e)
    go false e = omega (arith, place_later u x xs e)

pub place_last : (u : ℕ) (xs : List ℕ) → mem u xs ≡ true → place_of u xs ≤ length xs
place_last u [] m = let z : ◌≡◌ {A = ℕ} 0 1 = cc in absurd (omega arith)
place_last u (x ∷ xs) m = go (eqb u x) refl (place_last u xs)
  where
    go : (b : Bool) → eqb u x ≡ b → (mem u xs ≡ true → place_of u xs ≤ length xs) → place_of u (x ∷ xs) ≤ suc (length xs)
    go true e ih = omega (arith, place_here u x xs e)
    go false e ih = omega (arith, place_later u x xs e, ih (rw e at m))

without_later : (x : ℕ) (xs : List ℕ) (r : ℕ) → 1 ≤ r → without (x ∷ xs) (suc r) ≡ x ∷ without xs r
without_later x xs zero h = absurd (omega arith)
without_later x xs (suc i) h = refl

-- without an entry, by its place
pub without_place : (u lo : ℕ) (xs : List ℕ) (hi : ℕ) → Rises lo xs hi → mem u xs ≡ true → without xs (place_of u xs) ≡ pick (but u) xs
without_place u lo [] hi r m = let z : ◌≡◌ {A = ℕ} 0 1 = cc in absurd (omega arith)
without_place u lo (x ∷ xs) hi r m = go (eqb u x) refl (without_place u x xs hi r.1)
  where
    go : (b : Bool) → eqb u x ≡ b → (mem u xs ≡ true → without xs (place_of u xs) ≡ pick (but u) xs) → without (x ∷ xs) (place_of u (x ∷ xs)) ≡ pick (but u)
        (x ∷ xs)
    go true e ih =
        let s : u ≡ x = eqb-true u x e in
        ap (without (x ∷ xs)) (place_here u x xs e)
        ∙ sym (pick_all (but u) x xs hi r.1 (λ w a b. ap not (ne_eqb w u (λ q. omega arith))))
        ∙ ap (λ (b : Bool). more b x (pick (but u) xs)) (sym (ap not (eq-eqb x u (sym s))))
    go false e ih =
        ap (without (x ∷ xs)) (place_later u x xs e)
        ∙ without_later x xs (place_of u xs) (place_first u xs)
        ∙ ap (λ (l : List ℕ). x ∷ l) (ih (rw e at m))
        ∙ ap (λ (b : Bool). more b x (pick (but u) xs)) (sym (ap not (ne_eqb x u (λ q. eqb-false u x e (sym q)))))

-- tallies by lists: how many entries pass a test
abbrev amount : (ℕ → Bool) → List ℕ → ℕ
amount p [] = 0
amount p (x ∷ xs) = counted (p x) (amount p xs)

amount_pick : (k p : ℕ → Bool) (xs : List ℕ) → amount (λ u. k u && p u) xs ≡ amount p (pick k xs)
amount_pick k p [] = refl
amount_pick k p (x ∷ xs) = go (k x) (amount_pick k p xs)
  where
    go : (b : Bool) → amount (λ u. k u && p u) xs ≡ amount p (pick k xs) → counted (b && p x) (amount (λ u. k u && p u) xs) ≡ amount p (more b x (pick k xs))
    go true ih = ap (counted (p x)) ih
    go false ih = ih

tally_first : (q : ℕ → Bool) (n : ℕ) → tally q (suc n) ≡ counted (q 1) (tally (λ w. q (suc w)) n)
tally_first q zero = refl
tally_first q (suc n) = ap (counted (q (suc (suc n)))) (tally_first q n) ∙ swap (q (suc (suc n))) (q 1) (tally (λ w. q (suc w)) n)
  where
    swap : (a b : Bool) (n : ℕ) → counted a (counted b n) ≡ counted b (counted a n)
    swap true true n = refl
    swap true false n = refl
    swap false b n = refl

amount_tally : (p : ℕ → Bool) (xs : List ℕ) → amount p xs ≡ tally (λ w. p (at xs w)) (length xs)
amount_tally p [] = refl
amount_tally p (x ∷ xs) =
    ap (counted (p x)) (amount_tally p xs ∙ tally_same (λ w. p (at xs w)) (λ w. p (at (x ∷ xs) (suc w))) (length xs) (λ w a b. ap p (later w a)))
    ∙ sym (tally_first (λ w. p (at (x ∷ xs) w)) (length xs))
  where
    later : (w : ℕ) → 1 ≤ w → at xs w ≡ at (x ∷ xs) (suc w)
    later zero h = absurd (omega arith)
    later (suc i) h = refl

pub at_numbers : (z n w : ℕ) → 1 ≤ w → w ≤ n → at (numbers (suc z) n) w ≡ z + w
at_numbers z n zero a b = absurd (omega arith)
at_numbers z n (suc i) a b = go z n i b
  where
    go : (z n i : ℕ) → i < n → get_or (numbers (suc z) n) i 0 ≡ z + suc i
    go z zero i h = absurd (omega arith)
    go z (suc n) zero h = omega arith
    go z (suc n) (suc i) h = go (suc z) n i (omega arith) ∙ omega arith

-- of the rows 1 to n, those among rising entries that pass a test are as many as the entries that do
pub tally_among : (p : ℕ → Bool) (n : ℕ) (xs : List ℕ) → Rises 0 xs n → tally (λ u. mem u xs && p u) n ≡ tally (λ w. p (at xs w)) (length xs)
tally_among p n xs r =
    let e : 0 + n ≡ n = omega arith in
    tally_same (λ u. mem u xs && p u) (λ w. mem (at (numbers 1 n) w) xs && p (at (numbers 1 n) w)) n
    (λ w a b. ap (λ (u : ℕ). mem u xs && p u) (sym (at_numbers 0 n w a b ∙ omega arith)))
    ∙ ap (tally (λ w. mem (at (numbers 1 n) w) xs && p (at (numbers 1 n) w))) (sym (length_numbers 1 n))
    ∙ sym (amount_tally (λ u. mem u xs && p u) (numbers 1 n))
    ∙ amount_pick (λ u. mem u xs) p (numbers 1 n)
    ∙ ap (amount p) (pick_mem 0 n xs (rw e r))
    ∙ amount_tally p xs
