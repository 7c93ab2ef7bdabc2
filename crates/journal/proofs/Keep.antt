-- A strike removes one entry of the forest that a table draws: what was below it stands beside the rest. Assumes nothing.
use mathlib.Core.Path.{◌≡◌, refl, sym, ap, ap₂, subst₂, ◌∙◌}
use mathlib.Core.Bool.{Bool, true, false, ◌&&◌, not}
use mathlib.Core.List.{List, [], ◌∷◌, ◌++◌, append_assoc}
use Prim.Native.Nat.{ℕ, zero, suc, ◌+◌, ◌-◌, ◌≤◌, ◌<◌}
use native.Mathlib.Nat.{zero-add}
use native.Mathlib.Omega.{arith}
use native.Mathlib.Decide.{dec_lt}
use lib.ListN.{length, get_or, get_or-append}
use lib.Seq.{get_or-append-add}
use borrow.Author.Tests.{eq-eqb, ne_eqb}
use Rattle.rows.specs.Rows.{deeper}
use Rattle.rows.specs.Forest.{Forest, nil, cons, size, beside, depths, carried}
use Rattle.rows.proofs.Deeper.{deeper_lt, deeper_ge}
use Rattle.rows.proofs.Flat.{beside_assoc, length_depths, length_carried, Ends, ends_suc, ends_beside}
use Rattle.rows.specs.Stands.{Stands}
use Rattle.journal.specs.Strike.{lower, strike_depths, without}
use Rattle.journal.specs.Kept.{pick, more, but}
use Rattle.journal.proofs.Picks.{pick_append}

-- a row stays above its kept descendants, or leaves them to the row above it
abbrev pub put : Bool → ℕ → Forest ℕ → Forest ℕ → Forest ℕ
put true a f g = cons a f g
put false a f g = beside f g

-- the entries whose number passes a test
abbrev pub keep : (ℕ → Bool) → Forest ℕ → Forest ℕ
keep k nil = nil
keep k (cons a f g) = put (k a) a (keep k f) (keep k g)

module _ {A : Type 0} where
  pub depths_beside : (f g : Forest A) (d : ℕ) → depths d (beside f g) ≡ depths d f ++ depths d g
  depths_beside nil g d = refl
  depths_beside (cons a f r) g d = rw (depths_beside r g d, append_assoc)

  pub carried_beside : (f g : Forest A) → carried (beside f g) ≡ carried f ++ carried g
  carried_beside nil g = refl
  carried_beside (cons a f r) g = rw (carried_beside r g, append_assoc)

pub carried_keep : (k : ℕ → Bool) (f : Forest ℕ) → carried (keep k f) ≡ pick k (carried f)
carried_keep k nil = refl
carried_keep k (cons a f g) = go (k a) (ap₂ ◌++◌ (carried_keep k f) (carried_keep k g) ∙ sym (pick_append k (carried f) (carried g)))
  where
    go : (b : Bool) → carried (keep k f) ++ carried (keep k g) ≡ pick k (carried f ++ carried g)
        → carried (put b a (keep k f) (keep k g)) ≡ more b a (pick k (carried f ++ carried g))
    go true e = ap (λ (l : List ℕ). a ∷ l) e
    go false e = carried_beside (keep k f) (keep k g) ∙ e

keep_beside : (k : ℕ → Bool) (f g : Forest ℕ) → keep k (beside f g) ≡ beside (keep k f) (keep k g)
keep_beside k nil g = refl
keep_beside k (cons a f r) g = ap (put (k a) a (keep k f)) (keep_beside k r g) ∙ go (k a)
  where
    go : (b : Bool) → put b a (keep k f) (beside (keep k r) (keep k g)) ≡ beside (put b a (keep k f) (keep k r)) (keep k g)
    go true = refl
    go false = sym (beside_assoc (keep k f) (keep k r) (keep k g))

pub keep_keep : (k l : ℕ → Bool) (f : Forest ℕ) → keep l (keep k f) ≡ keep (λ u. k u && l u) f
keep_keep k l nil = refl
keep_keep k l (cons a f g) = go (k a) (keep_keep k l f) (keep_keep k l g)
  where
    go : (b : Bool) → keep l (keep k f) ≡ keep (λ u. k u && l u) f → keep l (keep k g) ≡ keep (λ u. k u && l u) g
        → keep l (put b a (keep k f) (keep k g)) ≡ put (b && l a) a (keep (λ u. k u && l u) f) (keep (λ u. k u && l u) g)
    go true x y = ap₂ (put (l a) a) x y
    go false x y = keep_beside l (keep k f) (keep k g) ∙ ap₂ beside x y

-- entries that rise in preorder, above lo and up to hi
abbrev pub Climbs : ℕ → Forest ℕ → ℕ → Type 0
Climbs lo nil hi = lo ≤ hi
Climbs lo (cons a f g) hi = (lo < a) × ((mid : ℕ) × (Climbs a f mid × Climbs mid g hi))

climbs_le : (lo : ℕ) (f : Forest ℕ) (hi : ℕ) → Climbs lo f hi → lo ≤ hi
climbs_le lo nil hi c = c
climbs_le lo (cons a f g) hi c = omega (arith, climbs_le a f c.1.0 c.1.1.0, climbs_le c.1.0 g hi c.1.1.1)

climbs_lower : (lo m : ℕ) (f : Forest ℕ) (hi : ℕ) → m ≤ lo → Climbs lo f hi → Climbs m f hi
climbs_lower lo m nil hi l c = omega arith
climbs_lower lo m (cons a f g) hi l c = (omega arith, c.1)

climbs_beside : (lo mid : ℕ) (f g : Forest ℕ) (hi : ℕ) → Climbs lo f mid → Climbs mid g hi → Climbs lo (beside f g) hi
climbs_beside lo mid nil g hi c d = climbs_lower mid lo g hi c d
climbs_beside lo mid (cons a f r) g hi c d = (c.0, (c.1.0, (c.1.1.0, climbs_beside c.1.0 mid r g hi c.1.1.1 d)))

pub climbs_keep : (k : ℕ → Bool) (lo : ℕ) (f : Forest ℕ) (hi : ℕ) → Climbs lo f hi → Climbs lo (keep k f) hi
climbs_keep k lo nil hi c = c
climbs_keep k lo (cons a f g) hi c = go (k a) (climbs_keep k a f c.1.0 c.1.1.0) (climbs_keep k c.1.0 g hi c.1.1.1)
  where
    go : (b : Bool) → Climbs a (keep k f) c.1.0 → Climbs c.1.0 (keep k g) hi → Climbs lo (put b a (keep k f) (keep k g)) hi
    go true x y = (c.0, (c.1.0, (x, y)))
    go false x y = climbs_lower a lo (beside (keep k f) (keep k g)) hi (omega arith) (climbs_beside a c.1.0 (keep k f) (keep k g) hi x y)

pub climbs_stands : (ds : List ℕ) (z : ℕ) (f : Forest ℕ) → Stands ds z f → Climbs z f (z + size f)
climbs_stands ds z nil s = omega arith
climbs_stands ds z (cons a f g) s =
    let e : suc z + size f ≡ suc (z + size f) = omega arith in
    let o : z + suc (size f + size g) ≡ suc (z + size f) + size g = omega arith in
    let x = climbs_stands ds (suc z) f s.3 in
    let y = climbs_stands ds (suc (z + size f)) g s.4 in
    (omega (arith, s.0), (suc (z + size f), (subst₂ (λ (u w : ℕ). Climbs u f w) (sym s.0) e x, rw o y)))

pub keep_same : (k l : ℕ → Bool) (lo : ℕ) (f : Forest ℕ) (hi : ℕ) → Climbs lo f hi → ((u : ℕ) → lo < u → u ≤ hi → k u ≡ l u) → keep k f ≡ keep l f
keep_same k l lo nil hi c e = refl
keep_same k l lo (cons a f g) hi c e =
    let m = climbs_le c.1.0 g hi c.1.1.1 in
    let n = climbs_le a f c.1.0 c.1.1.0 in
    same (e a c.0 (omega arith)) (keep_same k l a f c.1.0 c.1.1.0 (λ u x y. e u (omega arith) (omega arith)))
    (keep_same k l c.1.0 g hi c.1.1.1 (λ u x y. e u (omega arith) y))
  where
    same : k a ≡ l a → keep k f ≡ keep l f → keep k g ≡ keep l g → put (k a) a (keep k f) (keep k g) ≡ put (l a) a (keep l f) (keep l g)
    same p q r = cc

keep_every : (f : Forest ℕ) → keep (λ u. true) f ≡ f
keep_every nil = refl
keep_every (cons a f g) = ap₂ (cons a) (keep_every f) (keep_every g)

pub keep_all : (k : ℕ → Bool) (lo : ℕ) (f : Forest ℕ) (hi : ℕ) → Climbs lo f hi → ((u : ℕ) → lo < u → u ≤ hi → k u ≡ true) → keep k f ≡ f
keep_all k lo f hi c e = keep_same k (λ u. true) lo f hi c e ∙ keep_every f

-- u is the entry behind i others
pub data Entered : ℕ → ℕ → Forest ℕ → Type 0 where
  top : {a : ℕ} {f g : Forest ℕ} → Entered 0 a (cons a f g)
  inn : {a i u : ℕ} {f g : Forest ℕ} → Entered i u f → Entered (suc i) u (cons a f g)
  aft : {a i u : ℕ} {f g : Forest ℕ} → Entered i u g → Entered (suc (size f + i)) u (cons a f g)

pub entered : (f : Forest ℕ) (i : ℕ) → i < size f → Entered i (get_or (carried f) i 0) f
entered nil i h = absurd (omega arith)
entered (cons a f g) zero h = top
entered (cons a f g) (suc i) h = go (dec_lt i (size f)) (entered f i) (entered g (i - size f))
  where
    n : length (carried f) ≡ size f
    n = length_carried f

    go : Dec (i < size f) → (i < size f → Entered i (get_or (carried f) i 0) f) → (i - size f < size g → Entered (i - size f) (get_or (carried g) (i - size f) 0) g)
        → Entered (suc i) (get_or (carried f ++ carried g) i 0) (cons a f g)
    go (yes u) x y = rw (get_or-append (carried f) (carried g) 0 i (omega (arith, n))) (inn (x u))
    go (no u) x y =
        let e : size f + (i - size f) ≡ i = omega arith in
        let v : get_or (carried g) (i - size f) 0 ≡ get_or (carried f ++ carried g) i 0 =
        sym (get_or-append-add (carried f) (carried g) (i - size f) 0) ∙ ap (λ (x : ℕ). get_or (carried f ++ carried g) x 0) (omega (arith, n)) in
        subst₂ (λ (j w : ℕ). Entered j w (cons a f g)) (ap suc e) v (aft (y (omega arith)))

entered_range : {i u : ℕ} {f : Forest ℕ} (lo hi : ℕ) → Entered i u f → Climbs lo f hi → (lo < u) × (u ≤ hi)
entered_range lo hi (top {a} {f} {g}) c = (c.0, omega (arith, climbs_le a f c.1.0 c.1.1.0, climbs_le c.1.0 g hi c.1.1.1))
entered_range lo hi (inn {a} {i} {u} {f} {g} e) c =
    let r = entered_range a c.1.0 e c.1.1.0 in (omega arith, omega (arith, climbs_le c.1.0 g hi c.1.1.1))
entered_range lo hi (aft {a} {i} {u} {f} {g} e) c =
    let r = entered_range c.1.0 hi e c.1.1.1 in (omega (arith, climbs_le a f c.1.0 c.1.1.0), r.1)

-- all entries but u
but_other : (u w : ℕ) → (w ≡ u → ⊥) → but u w ≡ true
but_other u w h = ap not (ne_eqb w u h)

module _ (a : ℕ) (f g : Forest ℕ) (lo hi : ℕ) (c : Climbs lo (cons a f g) hi) where
  mid_low : a ≤ c.1.0
  mid_low = climbs_le a f c.1.0 c.1.1.0

  but_top : keep (but a) (cons a f g) ≡ beside f g
  but_top =
      ap (λ (b : Bool). put b a (keep (but a) f) (keep (but a) g)) (ap not (eq-eqb a a refl))
      ∙ ap₂ beside (keep_all (but a) a f c.1.0 c.1.1.0 (λ w x y. but_other a w (λ e. omega arith)))
      (keep_all (but a) c.1.0 g hi c.1.1.1 (λ w x y. but_other a w (λ e. omega (arith, mid_low))))

  but_inn : (i u : ℕ) → Entered i u f → keep (but u) (cons a f g) ≡ cons a (keep (but u) f) g
  but_inn i u e =
      let r = entered_range a c.1.0 e c.1.1.0 in
      ap (λ (b : Bool). put b a (keep (but u) f) (keep (but u) g)) (but_other u a (λ q. omega arith))
      ∙ ap (cons a (keep (but u) f)) (keep_all (but u) c.1.0 g hi c.1.1.1 (λ w x y. but_other u w (λ q. omega arith)))

  but_aft : (i u : ℕ) → Entered i u g → keep (but u) (cons a f g) ≡ cons a f (keep (but u) g)
  but_aft i u e =
      let r = entered_range c.1.0 hi e c.1.1.1 in
      ap (λ (b : Bool). put b a (keep (but u) f) (keep (but u) g)) (but_other u a (λ q. omega (arith, mid_low)))
      ∙ ap (λ (x : Forest ℕ). cons a x (keep (but u) g)) (keep_all (but u) a f c.1.0 c.1.1.0 (λ w x y. but_other u w (λ q. omega arith)))

-- the rows of a forest at a larger depth: they are deeper, and sink to the depth above
deeper_on : (f : Forest ℕ) (d e : ℕ) (ys : List ℕ) → d < e → deeper d (depths e f ++ ys) ≡ size f + deeper d ys
deeper_on nil d e ys h = sym (zero-add (deeper d ys))
deeper_on (cons a f g) d e ys h =
    deeper_lt d e ((depths (suc e) f ++ depths e g) ++ ys) h
    ∙ ap (λ (l : List ℕ). suc (deeper d l)) (append_assoc (depths (suc e) f) (depths e g) ys)
    ∙ ap suc (deeper_on f d (suc e) (depths e g ++ ys) (omega arith) ∙ ap (λ (x : ℕ). size f + x) (deeper_on g d e ys h))
    ∙ omega arith

deeper_ends : (d : ℕ) (ys : List ℕ) → Ends (suc d) ys → deeper d ys ≡ 0
deeper_ends d [] h = refl
deeper_ends d (e ∷ ys) h = deeper_ge d e ys (omega arith)

lower_on : (f : Forest ℕ) (d n : ℕ) (ys : List ℕ) → lower (size f + n) (depths (suc d) f ++ ys) ≡ depths d f ++ lower n ys
lower_on nil d n ys = rw zero-add
lower_on (cons a f g) d n ys =
    let s : suc (size f + size g) + n ≡ suc (size f + (size g + n)) = omega arith in
    let z : suc d - 1 ≡ d = omega arith in
    rw (s, append_assoc, append_assoc, z, lower_on f (suc d) (size g + n) (depths (suc d) g ++ ys), lower_on g d n ys)

strike_past : (xs ys : List ℕ) (i : ℕ) → strike_depths (xs ++ ys) (suc (length xs + i)) ≡ xs ++ strike_depths ys (suc i)
strike_past [] ys i = rw zero-add
strike_past (x ∷ xs) ys i = let e : suc (length xs) + i ≡ suc (length xs + i) = omega arith in rw e (ap (λ (l : List ℕ). x ∷ l) (strike_past xs ys i))

-- a strike removes one entry: of the depths ..
pub strike_keep : {i u : ℕ} {f : Forest ℕ} (lo hi d : ℕ) (ys : List ℕ) → Entered i u f → Climbs lo f hi → Ends (suc d) ys
    → strike_depths (depths d f ++ ys) (suc i) ≡ depths d (keep (but u) f) ++ ys
strike_keep lo hi d ys (top {a} {f} {g}) c e =
    let k : Ends (suc d) (depths d g ++ ys) = ends_beside g d (suc d) ys (omega arith) e in
    ap (λ (l : List ℕ). lower (deeper d l) l) (append_assoc (depths (suc d) f) (depths d g) ys)
    ∙ ap (λ (x : ℕ). lower x (depths (suc d) f ++ (depths d g ++ ys)))
    (deeper_on f d (suc d) (depths d g ++ ys) (omega arith) ∙ ap (λ (x : ℕ). size f + x) (deeper_ends d (depths d g ++ ys) k))
    ∙ lower_on f d 0 (depths d g ++ ys)
    ∙ sym (append_assoc (depths d f) (depths d g) ys)
    ∙ ap (λ (l : List ℕ). l ++ ys) (sym (ap (depths d) (but_top a f g lo hi c) ∙ depths_beside f g d))
strike_keep lo hi d ys (inn {a} {i} {u} {f} {g} w) c e =
    let k : Ends (suc (suc d)) (depths d g ++ ys) = ends_suc (suc d) (depths d g ++ ys) (ends_beside g d (suc d) ys (omega arith) e) in
    ap (λ (l : List ℕ). d ∷ strike_depths l (suc i)) (append_assoc (depths (suc d) f) (depths d g) ys)
    ∙ ap (λ (l : List ℕ). d ∷ l) (strike_keep a c.1.0 (suc d) (depths d g ++ ys) w c.1.1.0 k ∙ sym
    (append_assoc (depths (suc d) (keep (but u) f)) (depths d g) ys))
    ∙ ap (λ (x : Forest ℕ). depths d x ++ ys) (sym (but_inn a f g lo hi c i u w))
strike_keep lo hi d ys (aft {a} {i} {u} {f} {g} w) c e =
    ap₂ (λ (l : List ℕ) (x : ℕ). d ∷ strike_depths l (suc (x + i))) (append_assoc (depths (suc d) f) (depths d g) ys) (sym (length_depths f (suc d)))
    ∙ ap (λ (l : List ℕ). d ∷ l)
    (strike_past (depths (suc d) f) (depths d g ++ ys) i
    ∙ ap (λ (l : List ℕ). depths (suc d) f ++ l) (strike_keep c.1.0 hi d ys w c.1.1.1 e)
    ∙ sym (append_assoc (depths (suc d) f) (depths d (keep (but u) g)) ys))
    ∙ ap (λ (x : Forest ℕ). depths d x ++ ys) (sym (but_aft a f g lo hi c i u w))

-- .. and of what the rows carry
without_in : (xs ys : List ℕ) (i : ℕ) → i < length xs → without (xs ++ ys) (suc i) ≡ without xs (suc i) ++ ys
without_in [] ys i h = absurd (omega arith)
without_in (x ∷ xs) ys zero h = refl
without_in (x ∷ xs) ys (suc i) h = ap (λ (l : List ℕ). x ∷ l) (without_in xs ys i (omega arith))

without_past : (xs ys : List ℕ) (i : ℕ) → without (xs ++ ys) (suc (length xs + i)) ≡ xs ++ without ys (suc i)
without_past [] ys i = rw zero-add
without_past (x ∷ xs) ys i = let e : suc (length xs) + i ≡ suc (length xs + i) = omega arith in rw e (ap (λ (l : List ℕ). x ∷ l) (without_past xs ys i))

entered_size : {i u : ℕ} {f : Forest ℕ} → Entered i u f → i < size f
entered_size top = omega arith
entered_size (inn e) = omega (arith, entered_size e)
entered_size (aft e) = omega (arith, entered_size e)

pub without_keep : {i u : ℕ} {f : Forest ℕ} (lo hi : ℕ) → Entered i u f → Climbs lo f hi → without (carried f) (suc i) ≡ carried (keep (but u) f)
without_keep lo hi (top {a} {f} {g}) c = sym (ap carried (but_top a f g lo hi c) ∙ carried_beside f g)
without_keep lo hi (inn {a} {i} {u} {f} {g} w) c =
    ap (λ (l : List ℕ). a ∷ l)
    (without_in (carried f) (carried g) i (omega (arith, length_carried f, entered_size w)) ∙ ap (λ (l : List ℕ). l ++ carried g)
    (without_keep a c.1.0 w c.1.1.0))
    ∙ ap carried (sym (but_inn a f g lo hi c i u w))
without_keep lo hi (aft {a} {i} {u} {f} {g} w) c =
    ap (λ (x : ℕ). a ∷ without (carried f ++ carried g) (suc (x + i))) (sym (length_carried f))
    ∙ ap (λ (l : List ℕ). a ∷ l)
    (without_past (carried f) (carried g) i ∙ ap (λ (l : List ℕ). carried f ++ l) (without_keep c.1.0 hi w c.1.1.1))
    ∙ ap carried (sym (but_aft a f g lo hi c i u w))
