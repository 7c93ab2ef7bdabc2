-- The kinds of the recipe's labels: how they are noted. Assumes nothing.
use mathlib.Core.Path.{◌≡◌}
use mathlib.Core.List.{List}
use Prim.Native.Nat.{ℕ, suc, ◌/◌, ◌%◌, ◌≤◌}
use native.Mathlib.Omega.{arith}
use native.Mathlib.Decide.{dec_le, ℕ_discrete}
use lib.Bits.{bit_and, bit_or}
use lib.ListN.{length, get_or, set, length-set}
use lib.Pow.{pow_pos}
use lib.Seq.{get_or-set_same, get_or-set_other}
use Rattle.rows.specs.Rows.{at}
use Rattle.matching.specs.declared.shape.Node.{Node}
use Rattle.matching.specs.Shape.{words, kind_bit, Clear, Noted, Kinds}
use Rattle.matching.proofs.Bits.{and_grows, and_set}
use Rattle.matching.proofs.ShapeWords.{kind_of}

-- the words with the kind of label a noted
abbrev pub note : List ℕ → ℕ → List ℕ
note ks a = set ks (a % 128) (bit_or (get_or ks (a % 128) 0) (kind_bit a))

module _ (ks : List ℕ) (a : ℕ) (size : length ks ≡ 128) where
  same : get_or (note ks a) (a % 128) 0 ≡ bit_or (get_or ks (a % 128) 0) (kind_bit a)
  same = get_or-set_same ks (a % 128) _ 0 (omega arith)

  -- it is noted then,
  noted : Clear (note ks a) a → ⊥
  noted f = omega (arith, rw same at f, and_set (get_or ks (a % 128) 0) (kind_bit a), pow_pos (a / 128 % 16))

  -- and no other kind is lost
  grows : (j n : ℕ) → Dec (j ≡ a % 128) → bit_and (get_or ks j 0) n ≤ bit_and (get_or (note ks a) j 0) n
  grows j n (yes q) = rw (q, same) (and_grows (get_or ks (a % 128) 0) (kind_bit a) n)
  grows j n (no q) = rw (get_or-set_other ks (a % 128) j _ 0 q) (omega arith)

  kept : (b : ℕ) → Clear (note ks a) b → Clear ks b
  kept b f = omega (arith, grows (b % 128) (kind_bit b) (ℕ_discrete (b % 128) (a % 128)))

pub noted_none : (rl ks : List ℕ) → length ks ≡ 128 → Noted rl ks 0
noted_none rl ks n = record { size = n; kinds = λ v a b. absurd (omega arith) }

pub noted_one : (rl ks : List ℕ) (i : ℕ) → Noted rl ks i → Noted rl (note ks (at rl (suc i))) (suc i)
noted_one rl ks i k = record { size = simp length-set k.size; kinds = λ v o l f. go v o l f (dec_le v i) }
  where
    a : ℕ
    a = at rl (suc i)

    go : (v : ℕ) → 1 ≤ v → v ≤ suc i → Clear (note ks a) (at rl v) → Dec (v ≤ i) → ⊥
    go v o l f (yes h) = k.kinds v o h (kept ks a k.size (at rl v) f)
    go v o l f (no h) = let e : v ≡ suc i = omega arith in noted ks a k.size (rw e at f)

-- so they are noted in the shape
pub kinds_noted : (rl : List ℕ) (rs : List Node) (ks : List ℕ) → length rs ≡ 257 → Noted rl ks (length rl) → Kinds rl (words rs ks)
kinds_noted rl rs ks h k v a b f = k.kinds v a b (rw (kind_of rs ks (at rl v) h) at f)
