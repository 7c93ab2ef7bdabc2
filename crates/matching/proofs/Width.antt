-- The recipe read back from its shape. Assumes nothing.
use mathlib.Core.Path.{◌≡◌, refl, sym, ap, ◌∙◌}
use mathlib.Core.List.{List}
use Prim.Native.Nat.{ℕ, zero, suc, ◌+◌, ◌<◌}
use native.Mathlib.Omega.{arith}
use lib.ListN.{length, get_or}
use lib.Seq.{ext_get_or}
use Rattle.matching.specs.Shape.{word, Shape}
use Rattle.matching.specs.Room.{depth_words, recipe_of}

-- the depth words of a shape are its recipe
pub length_words : (ws : List ℕ) (v n : ℕ) → length (depth_words ws v n) ≡ n
length_words ws v zero = refl
length_words ws v (suc n) = ap suc (length_words ws (suc v) n)

at_words : (ws : List ℕ) (v n i : ℕ) → i < n → get_or (depth_words ws v n) i 0 ≡ word 3 ws (v + i)
at_words ws v zero i h = absurd (omega arith)
at_words ws v (suc n) zero h = let e : v + 0 ≡ v = omega arith in rw e
at_words ws v (suc n) (suc i) h = let e : v + suc i ≡ suc v + i = omega arith in rw e (at_words ws (suc v) n i (omega arith))

pub recipe_of_lem : (rd ws rl : List ℕ) → Shape rd ws → length rd ≡ length rl → recipe_of ws rl ≡ rd
recipe_of_lem rd ws rl k n =
    ext_get_or 0 (recipe_of ws rl) rd (length_words ws 1 (length rl) ∙ sym n) (λ i h.
    let l : i < length rl = omega (arith, length_words ws 1 (length rl)) in
    let e : 1 + i ≡ suc i = omega arith in
    at_words ws 1 (length rl) i l ∙ ap (word 3 ws) e ∙ k.depths (suc i) (omega arith))
