-- A table whose depths draw a forest is the flattening of just that forest. Assumes nothing.
use mathlib.Core.Path.{◌≡◌, refl, sym, ap₂, ◌∙◌}
use mathlib.Core.Bool.{true, false}
use mathlib.Core.Logic.{◌↔◌}
use mathlib.Core.List.{List, [], ◌∷◌, ◌++◌, append_assoc, append-nil}
use Prim.Native.Nat.{ℕ, zero, suc, ◌+◌, ◌-◌, ◌≤◌, ◌<◌}
use native.Mathlib.Omega.{arith}
use lib.Dec.{ltb}
use lib.ListN.{length, get_or, length-append}
use borrow.Author.Tests.{lt-ltb, le-ltb, eq-eqb, ne_eqb}
use Rattle.rows.specs.Rows.{Row, depth, Outline}
use Rattle.rows.specs.Forest.{Forest, nil, cons, size, beside, depths, carried, grow, numbers, forest}
use Rattle.rows.proofs.Order.{Compared, less, same, more, compared}

-- an outline by recursion: the first depth is at most most, each later one at most one more than the one before
abbrev pub Steps : ℕ → List ℕ → Type 0
Steps most [] = Unit {0}
Steps most (d ∷ ds) = (d ≤ most) × Steps (suc d) ds

steps_from : (d : ℕ) (ds : List ℕ) → ((i : ℕ) → i < length ds → get_or (d ∷ ds) (suc i) 0 ≤ suc (get_or (d ∷ ds) i 0)) → Steps (suc d) ds
steps_from d [] k = tt
steps_from d (e ∷ ds) k = (k 0 (omega arith), steps_from e ds (λ i h. k (suc i) (omega arith)))

pub outline_steps : (ds : List ℕ) → Outline ds → Steps 0 ds
outline_steps [] k = tt
outline_steps (d ∷ ds) k = (omega (arith, k.first (omega arith)), steps_from d ds (λ i h. k.step (suc i) (omega arith) (omega arith)))

steps_at : (most : ℕ) (ds : List ℕ) (i : ℕ) → Steps most ds → suc i < length ds → get_or ds (suc i) 0 ≤ suc (get_or ds i 0)
steps_at most [] i k h = absurd (omega arith)
steps_at most (d ∷ []) i k h = absurd (omega arith)
steps_at most (d ∷ e ∷ ds) zero k h = k.1.0
steps_at most (d ∷ e ∷ ds) (suc i) k h = steps_at (suc d) (e ∷ ds) i k.1 (omega arith)

pub steps_outline : (ds : List ℕ) → Steps 0 ds → Outline ds
steps_outline ds k = record { first = first ds k; step = λ v r s. step v r s }
  where
    first : (ds : List ℕ) → Steps 0 ds → Row ds 1 → depth ds 1 ≡ 0
    first [] k r = absurd (omega arith)
    first (d ∷ ds) k r = omega arith

    step : (v : ℕ) → Row ds v → Row ds (suc v) → depth ds (suc v) ≤ suc (depth ds v)
    step zero r s = absurd (omega arith)
    step (suc i) r s = steps_at 0 ds i k (omega arith)

module _ {A : Type 0} where
  pub beside_nil : (f : Forest A) → beside f nil ≡ f
  beside_nil nil = refl
  beside_nil (cons a f g) = rw (beside_nil g)

  pub beside_assoc : (f g h : Forest A) → beside (beside f g) h ≡ beside f (beside g h)
  beside_assoc nil g h = refl
  beside_assoc (cons a f r) g h = rw (beside_assoc r g h)

  pub size_beside : (f g : Forest A) → size (beside f g) ≡ size f + size g
  size_beside nil g = omega arith
  size_beside (cons a f r) g = omega (arith, size_beside r g)

  pub length_depths : (f : Forest A) (d : ℕ) → length (depths d f) ≡ size f
  length_depths nil d = refl
  length_depths (cons a f g) d = rw (length-append, length_depths f (suc d), length_depths g d)

  pub length_carried : (f : Forest A) → length (carried f) ≡ size f
  length_carried nil = refl
  length_carried (cons a f g) = rw (length-append, length_carried f, length_carried g)

  -- the steps of grow
  module _ (a : A) (ds : List ℕ) (ws : List A) where
    pub grow_lt : (e d : ℕ) → e < d → grow (e ∷ ds) (a ∷ ws) d ≡ nil
    grow_lt e d h = rw (lt-ltb e d h, grow)

    pub grow_eq : (d : ℕ) → grow (d ∷ ds) (a ∷ ws) d ≡ cons a (grow ds ws (suc d)) (grow ds ws d)
    grow_eq d = rw (le-ltb d d (omega arith), eq-eqb d d refl, grow)

    pub grow_gt : (e d : ℕ) → d < e → grow (e ∷ ds) (a ∷ ws) d ≡ grow ds ws d
    grow_gt e d h = rw (le-ltb e d (omega arith), ne_eqb e d (omega arith), grow)

-- ds ends every run of trees of depth d: it is empty, or begins with a shallower row
abbrev pub Ends : ℕ → List ℕ → Type 0
Ends d [] = Unit {0}
Ends d (e ∷ ds) = e < d

pub ends_suc : (d : ℕ) (ds : List ℕ) → Ends d ds → Ends (suc d) ds
ends_suc d [] h = tt
ends_suc d (e ∷ ds) h = omega arith

module _ {A : Type 0} where
  pub ends_beside : (g : Forest A) (d e : ℕ) (ds : List ℕ) → d < e → Ends e ds → Ends e (depths d g ++ ds)
  ends_beside nil d e ds l h = h
  ends_beside (cons a f g) d e ds l h = l

  ends_grow : (d : ℕ) (ds : List ℕ) (ws : List A) → Ends d ds → grow ds ws d ≡ nil
  ends_grow d [] ws h = refl
  ends_grow d (e ∷ ds) [] h = refl
  ends_grow d (e ∷ ds) (a ∷ ws) h = grow_lt a ds ws e d h

  -- the rows of a forest at a larger depth are passed over
  passes : (f : Forest A) (d e : ℕ) (ds : List ℕ) (ws : List A) → d < e → grow (depths e f ++ ds) (carried f ++ ws) d ≡ grow ds ws d
  passes nil d e ds ws h = refl
  passes (cons a f g) d e ds ws h =
      rw (grow_gt, append_assoc, append_assoc, passes f d (suc e) _ _ (omega arith), passes g d e ds ws h)

  grow_on : (f : Forest A) (d : ℕ) (ds : List ℕ) (ws : List A) → Ends (suc d) ds
      → grow (depths d f ++ ds) (carried f ++ ws) d ≡ beside f (grow ds ws d)
  grow_on nil d ds ws h = refl
  grow_on (cons a f g) d ds ws h =
      let k : Ends (suc d) (depths d g ++ ds) = ends_beside g d (suc d) ds (omega arith) h in
      rw (
        grow_eq,
        append_assoc,
        append_assoc,
        grow_on f (suc d) (depths d g ++ ds) (carried g ++ ws) (ends_suc (suc d) (depths d g ++ ds) k),
        passes f d (suc d) _ _ (omega arith),
        grow_on g d ds ws h,
        ends_grow (suc d) _ _ k,
        beside_nil,
      )

  -- a forest grows from its own rows ..
  pub grow_flat : (f : Forest A) → grow (depths 0 f) (carried f) 0 ≡ f
  grow_flat f = rw (append-nil, append-nil, beside_nil) at (grow_on f 0 [] [] tt)

-- what stands beside the rows from the first that is shallower than d on
abbrev past : {B : Type 0} → ℕ → List ℕ → List B → List B
past d [] xs = xs
past d (e ∷ ds) [] = []
past d (e ∷ ds) (x ∷ xs) = elim (ltb e d) [ true ↦ x ∷ xs | false ↦ past d ds xs ]

module _ {B : Type 0} (d e : ℕ) (ds : List ℕ) (x : B) (xs : List B) where
  past_lt : e < d → past d (e ∷ ds) (x ∷ xs) ≡ x ∷ xs
  past_lt h = rw (lt-ltb e d h, past)

  past_ge : d ≤ e → past d (e ∷ ds) (x ∷ xs) ≡ past d ds xs
  past_ge h = rw (le-ltb e d h, past)

module _ {B : Type 0} where
  past_all : (c : ℕ) (ds : List ℕ) (xs : List B) → Steps c ds → past (suc c) ds xs ≡ xs
  past_all c [] xs h = refl
  past_all c (e ∷ ds) [] h = refl
  past_all c (e ∷ ds) (x ∷ xs) h = past_lt (suc c) e ds x xs (omega arith)

  past_none : (ds : List ℕ) (xs : List B) → length ds ≡ length xs → past 0 ds xs ≡ []
  past_none [] [] n = refl
  past_none [] (x ∷ xs) n = absurd (omega arith)
  past_none (e ∷ ds) [] n = refl
  past_none (e ∷ ds) (x ∷ xs) n = past_ge 0 e ds x xs (omega arith) ∙ past_none ds xs (omega arith)

module _ {A : Type 0} where
  -- the rows up to the first that is shallower than d, but for the deeper ones at the front, are those of the forest
  record Flat (d : ℕ) (ds : List ℕ) (ws : List A) : Type 0 where
    deep : depths d (grow ds ws d) ++ past d ds ds ≡ past (suc d) ds ds
    held : carried (grow ds ws d) ++ past d ds ws ≡ past (suc d) ds ws

  flat_eq : (d : ℕ) (a : A) (ds : List ℕ) (ws : List A) → Steps (suc d) ds → Flat d ds ws → Flat (suc d) ds ws → Flat d (d ∷ ds) (a ∷ ws)
  flat_eq d a ds ws h x y =
      record {
        deep = rw (
          grow_eq a ds ws d,
          past_ge d d ds d ds (omega arith),
          past_lt (suc d) d ds d ds (omega arith),
          append_assoc (depths (suc d) (grow ds ws (suc d))) (depths d (grow ds ws d)) (past d ds ds),
          x.deep,
          y.deep,
          past_all (suc d) ds ds h,
        );
        held = rw (
          grow_eq a ds ws d,
          past_ge d d ds a ws (omega arith),
          past_lt (suc d) d ds a ws (omega arith),
          append_assoc (carried (grow ds ws (suc d))) (carried (grow ds ws d)) (past d ds ws),
          x.held,
          y.held,
          past_all (suc d) ds ws h,
        );
      }

  flat : (ds : List ℕ) (ws : List A) (d c : ℕ) → length ds ≡ length ws → Steps c ds → Flat d ds ws
  flat [] ws d c n h = record { deep = refl; held = refl }
  flat (e ∷ ds) [] d c n h = absurd (omega arith)
  flat (e ∷ ds) (a ∷ ws) d c n h = go (compared e d) (flat ds ws d (suc e) (omega arith) h.1) (flat ds ws (suc d) (suc e) (omega arith) h.1)
    where
      go : Compared e d → Flat d ds ws → Flat (suc d) ds ws → Flat d (e ∷ ds) (a ∷ ws)
      go (less o) x y =
          record {
            deep = rw (grow_lt a ds ws e d o, past_lt d e ds e ds o, past_lt (suc d) e ds e ds (omega arith));
            held = rw (grow_lt a ds ws e d o, past_lt d e ds a ws o, past_lt (suc d) e ds a ws (omega arith));
          }
      go (same o) x y = rw o (flat_eq d a ds ws (rw o at h.1) x y)
      go (more o) x y =
          record {
            deep = rw (grow_gt a ds ws e d o, past_ge d e ds e ds (omega arith), past_ge (suc d) e ds e ds (omega arith)) x.deep;
            held = rw (grow_gt a ds ws e d o, past_ge d e ds a ws (omega arith), past_ge (suc d) e ds a ws (omega arith)) x.held;
          }

  -- .. and an outline's rows are those of the forest that they draw
  pub flat_grow : (ds : List ℕ) (ws : List A) → Outline ds → length ds ≡ length ws
      → (depths 0 (grow ds ws 0) ≡ ds) × (carried (grow ds ws 0) ≡ ws)
  flat_grow ds ws k n =
      let s = outline_steps ds k in
      let r = flat ds ws 0 0 n s in (
        (rw (past_none ds ds refl, append-nil) at r.deep) ∙ past_all 0 ds ds s,
        (rw (past_none ds ws n, append-nil) at r.held) ∙ past_all 0 ds ws s,
      )

  -- the rows of a forest make an outline
  steps_on : (f : Forest A) (d c : ℕ) (ds : List ℕ) → d ≤ c → ((b : ℕ) → d ≤ b → Steps b ds) → Steps c (depths d f ++ ds)
  steps_on nil d c ds l h = h c l
  steps_on (cons a f g) d c ds l h =
      (l, rw (append_assoc (depths (suc d) f) (depths d g) ds) (steps_on f (suc d) (suc d) (depths d g ++ ds) (omega arith) (λ b o. steps_on g d b ds (omega arith) h)))

  pub outline_flat : (f : Forest A) → Outline (depths 0 f)
  outline_flat f = steps_outline (depths 0 f) (rw append-nil at (steps_on f 0 0 [] (omega arith) (λ b o. tt)))

  -- so a table is the flattening of exactly one forest
  pub one_forest : (ds : List ℕ) (ws : List A) → Outline ds → length ds ≡ length ws → (f : Forest A)
      → ((depths 0 f ≡ ds) × (carried f ≡ ws)) ↔ (f ≡ grow ds ws 0)
  one_forest ds ws k n f = (λ e. sym (grow_flat f) ∙ ap₂ (λ (x : List ℕ) (y : List A). grow x y 0) e.0 e.1, λ e. rw e (flat_grow ds ws k n))

pub length_numbers : (v n : ℕ) → length (numbers v n) ≡ n
length_numbers v zero = refl
length_numbers v (suc n) = rw (length_numbers (suc v) n)

-- the rows' own forest
pub flat_forest : (ds : List ℕ) → Outline ds → (depths 0 (forest ds) ≡ ds) × (carried (forest ds) ≡ numbers 1 (length ds))
flat_forest ds k =
    let e : length ds - 0 ≡ length ds = omega arith in rw e (flat_grow ds (numbers 1 (length ds)) k (sym (length_numbers 1 (length ds))))
