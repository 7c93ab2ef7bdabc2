-- What stands in a table, side by side and without its first root; of each size there is one forest. Assumes nothing.
use mathlib.Core.Path.{◌≡◌, refl, sym, ap, ap₂, ◌∙◌}
use mathlib.Core.List.{List}
use Prim.Native.Nat.{ℕ, suc, ◌+◌}
use native.Mathlib.Omega.{arith}
use Rattle.rows.specs.Forest.{Forest, nil, cons, size, beside}
use Rattle.rows.specs.Stands.{Stands}

pub stands_beside : (ds : List ℕ) (z : ℕ) (f g : Forest ℕ) → Stands ds z f → Stands ds (z + size f) g → Stands ds z (beside f g)
stands_beside ds z nil g k l = let e : z + 0 ≡ z = omega arith in rw e at l
stands_beside ds z (cons a f r) g k l =
    let e : z + suc (size f + size r) ≡ suc (z + size f) + size r = omega arith in
    (k.0, k.1, k.2, k.3, stands_beside ds (suc (z + size f)) r g k.4 (rw e at l))

-- without the first root, what was below it stands beside the rest
pub stands_skip : (ds : List ℕ) (z b : ℕ) (f g : Forest ℕ) → Stands ds z (cons b f g) → Stands ds (suc z) (beside f g)
stands_skip ds z b f g k = let e : suc (z + size f) ≡ suc z + size f = omega arith in stands_beside ds (suc z) f g k.3 (rw e at k.4)

-- behind a row there stands one forest of a size
pub stands_same : (ds : List ℕ) (z : ℕ) (f g : Forest ℕ) → Stands ds z f → Stands ds z g → size f ≡ size g → f ≡ g
stands_same ds z nil nil k l e = refl
stands_same ds z nil (cons b h r) k l e = absurd (omega arith)
stands_same ds z (cons a f g) nil k l e = absurd (omega arith)
stands_same ds z (cons a f g) (cons b h r) k l e =
    let n : size h ≡ size f = sym l.2 ∙ k.2 in
    ap (λ (c : ℕ). cons c f g) (k.0 ∙ sym l.0)
    ∙ ap₂ (cons b) (stands_same ds (suc z) f h k.3 l.3 (sym n)) (stands_same ds (suc (z + size f)) g r k.4 (rw n at l.4) (omega (arith, n)))
