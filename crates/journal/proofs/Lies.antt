-- What is kept of a forest lies in it, and so does every forest of its shape whose entries fit. Assumes nothing.
use mathlib.Core.Path.{◌≡◌, refl}
use mathlib.Core.Bool.{Bool, true, false}
use mathlib.Core.List.{List, [], ◌∷◌}
use Prim.Native.Nat.{ℕ, suc, ◌+◌, ◌<◌}
use native.Mathlib.Nat.{zero-add}
use native.Mathlib.Omega.{arith}
use lib.ListN.{length, get_or}
use Rattle.rows.specs.Forest.{Forest, nil, cons, beside, grow, numbers}
use Rattle.rows.specs.Embedding.{LiesIn, done, pair, skip}
use Rattle.rows.proofs.Order.{Compared, less, same, more, compared}
use Rattle.rows.proofs.Flat.{beside_assoc, grow_lt, grow_eq, grow_gt}
use Rattle.journal.proofs.Keep.{put, keep}

abbrev Same : ℕ → ℕ → Type 0
Same a b = a ≡ b

lies_behind : {q g : Forest ℕ} (f : Forest ℕ) → LiesIn Same q g → LiesIn Same q (beside f g)
lies_behind nil i = i
lies_behind (cons b f r) i = skip (lies_behind f (lies_behind r i))

lies_beside : {p q f h : Forest ℕ} → LiesIn Same p f → LiesIn Same q h → LiesIn Same (beside p q) (beside f h)
lies_beside {f} done j = lies_behind f j
lies_beside (pair e x y) j = pair e x (lies_beside y j)
lies_beside {h} (skip {b} {p} {f} {g} x) j = skip (rw (beside_assoc f g h) at (lies_beside x j))

pub keep_lies : (k : ℕ → Bool) (f : Forest ℕ) → LiesIn Same (keep k f) f
keep_lies k nil = done
keep_lies k (cons a f g) = go (k a) (keep_lies k f) (keep_lies k g)
  where
    go : (b : Bool) → LiesIn Same (keep k f) f → LiesIn Same (keep k g) g → LiesIn Same (put b a (keep k f) (keep k g)) (cons a f g)
    go true x y = pair refl x y
    go false x y = skip (lies_beside x y)

-- forests of one shape, whose entries stand in a relation
module _ (R : ℕ → ℕ → Type 0) where
  data Alike : Forest ℕ → Forest ℕ → Type 0 where
    none : Alike nil nil
    both : {a b : ℕ} {f g p q : Forest ℕ} → R a b → Alike f p → Alike g q → Alike (cons a f g) (cons b p q)

  lies_alike : {p q f : Forest ℕ} → LiesIn Same q f → Alike p q → LiesIn R p f
  lies_alike done none = done
  lies_alike (pair e i j) (both r x y) = pair (rw e at r) (lies_alike i x) (lies_alike j y)
  lies_alike (skip i) x = skip (lies_alike i x)

  abbrev Each : List ℕ → List ℕ → Type 0
  Each [] [] = Unit {0}
  Each [] (w ∷ ws) = ⊥
  Each (v ∷ vs) [] = ⊥
  Each (v ∷ vs) (w ∷ ws) = R v w × Each vs ws

  each_numbers : (z : ℕ) (ws : List ℕ) → ((i : ℕ) → i < length ws → R (suc (z + i)) (get_or ws i 0)) → Each (numbers (suc z) (length ws)) ws
  each_numbers z [] h = tt
  each_numbers z (w ∷ ws) h =
      let e : suc (z + 0) ≡ suc z = omega arith in (
        rw e at (h 0 (omega arith)),
        each_numbers (suc z) ws
            (λ i l. let o : suc (z + suc i) ≡ suc (suc z + i) = omega arith in rw o at (h (suc i) (omega arith))),
      )

  alike_grow : (ds vs ws : List ℕ) (d : ℕ) → Each vs ws → Alike (grow ds vs d) (grow ds ws d)
  alike_grow [] vs ws d e = none
  alike_grow (x ∷ ds) [] [] d e = none
  alike_grow (x ∷ ds) [] (w ∷ ws) d e = absurd e
  alike_grow (x ∷ ds) (v ∷ vs) [] d e = absurd e
  alike_grow (x ∷ ds) (v ∷ vs) (w ∷ ws) d e = go (compared x d) (alike_grow ds vs ws (suc d) e.1) (alike_grow ds vs ws d e.1)
    where
      go : Compared x d → Alike (grow ds vs (suc d)) (grow ds ws (suc d)) → Alike (grow ds vs d) (grow ds ws d) → Alike (grow (x ∷ ds) (v ∷ vs) d)
          (grow (x ∷ ds) (w ∷ ws) d)
      go (less o) i j = rw (grow_lt v ds vs x d o, grow_lt w ds ws x d o) none
      go (same o) i j = rw (o, grow_eq v ds vs d, grow_eq w ds ws d) (both e.0 i j)
      go (more o) i j = rw (grow_gt v ds vs x d o, grow_gt w ds ws x d o) j

  -- a table whose rows fit, place by place, the entries of a forest that lies in f
  pub lies_rows : {f : Forest ℕ} (ds ws : List ℕ) → LiesIn Same (grow ds ws 0) f → ((i : ℕ) → i < length ws → R (suc i) (get_or ws i 0))
      → LiesIn R (grow ds (numbers 1 (length ws)) 0) f
  lies_rows ds ws l h = lies_alike l (alike_grow ds (numbers 1 (length ws)) ws 0 (each_numbers 0 ws (λ i o. rw zero-add (h i o))))
