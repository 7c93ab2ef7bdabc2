-- The log's six bits: what is read of one row, and that a write for one row changes that row's alone. Rows that get the place of no row. Assumes nothing.
use mathlib.Core.Path.{◌≡◌, refl, sym, ap, ◌∙◌}
use mathlib.Core.List.{List}
use Prim.Native.Nat.{ℕ, suc, ◌+◌, ◌-◌, ◌*◌, ◌/◌, ◌%◌, ◌≤◌, ◌<◌}
use native.Mathlib.Omega.{arith}
use native.Mathlib.Decide.{dec_le, ℕ_discrete}
use lib.ListN.{length, get_or, set, length-set}
use lib.Seq.{get_or-set_same}
use borrow.Author.Tests.{le-leb, lt-leb}
use Rattle.rows.specs.Limits.{listing_rows}
use Rattle.rows.specs.Rows.{at}
use Rattle.matching.specs.Path.{log_bytes, logged, topped, Put, Blank}
use Rattle.matching.proofs.PathLaws.{kept_none}
use Rattle.matching.proofs.Placing.{at_other}

-- six bits of one byte are those of the first rows, the upper two of three bytes those of the others
pub logged_lower : (ls : List ℕ) (t : ℕ) → t ≤ log_bytes → logged ls t ≡ at ls t % 64
unfolding logged
logged_lower ls t h = rw (le-leb t log_bytes h, logged)

pub logged_upper : (ls : List ℕ) (t : ℕ) → log_bytes < t → t ≤ listing_rows → logged ls t ≡ at ls (t - 3072) / 64 + 4 * (at ls (t - 2048) / 64) + 16 * (at ls (t - 1024) / 64)
unfolding logged
logged_upper ls t h l = rw (lt-leb t log_bytes h, le-leb t listing_rows l, logged)

logged_beyond : (ls : List ℕ) (t : ℕ) → listing_rows < t → logged ls t ≡ 0
unfolding logged
logged_beyond ls t l = let h : log_bytes < t = omega arith in rw (lt-leb t log_bytes h, lt-leb t listing_rows l, logged)

-- so the log has the same of a row if these bits are the same
same_bits : (ls ms : List ℕ) (y : ℕ) → (y ≤ log_bytes → at ms y % 64 ≡ at ls y % 64)
    → (log_bytes < y → y ≤ listing_rows → (at ms (y - 3072) / 64 ≡ at ls (y - 3072) / 64) × (at ms (y - 2048) / 64 ≡ at ls (y - 2048) / 64) × (at ms (y - 1024) / 64 ≡ at ls (y - 1024) / 64))
    → logged ms y ≡ logged ls y
same_bits ls ms y one three = go (dec_le y log_bytes) (dec_le y listing_rows)
  where
    go : Dec (y ≤ log_bytes) → Dec (y ≤ listing_rows) → logged ms y ≡ logged ls y
    go (yes h) l = logged_lower ms y h ∙ one h ∙ sym (logged_lower ls y h)
    go (no h) (yes l) =
        let b = three (omega arith) l in
        logged_upper ms y (omega arith) l ∙ rw (b.0, b.1, b.2) refl ∙ sym (logged_upper ls y (omega arith) l)
    go (no h) (no l) = logged_beyond ms y (omega arith) ∙ sym (logged_beyond ls y (omega arith))

-- the upper bits of one byte have changed, and no other bits
module _ (ls : List ℕ) (i x : ℕ) (h : i < length ls) where
  byte : at (topped ls i x) (suc i) ≡ 64 * x + get_or ls i 0 % 64
  byte = get_or-set_same ls i (64 * x + get_or ls i 0 % 64) 0 h

  topped_lower : (u : ℕ) → at (topped ls i x) u % 64 ≡ at ls u % 64
  topped_lower u = go (ℕ_discrete u (suc i))
    where
      go : Dec (u ≡ suc i) → at (topped ls i x) u % 64 ≡ at ls u % 64
      go (yes e) = rw e (ap (λ (n : ℕ). n % 64) byte ∙ omega arith)
      go (no e) = ap (λ (n : ℕ). n % 64) (at_other ls i (64 * x + get_or ls i 0 % 64) u e)

  topped_here : at (topped ls i x) (suc i) / 64 ≡ x
  topped_here = ap (λ (n : ℕ). n / 64) byte ∙ omega arith

  topped_other : (u : ℕ) → (u ≡ suc i → ⊥) → at (topped ls i x) u / 64 ≡ at ls u / 64
  topped_other u e = ap (λ (n : ℕ). n / 64) (at_other ls i (64 * x + get_or ls i 0 % 64) u e)

module _ (ls : List ℕ) (n : length ls ≡ log_bytes) (place k : ℕ) (low : place < 64) where
  -- nothing is written, ..
  pub put_none : (first : ℕ) → k ≡ 0 → Put ls first place k ls
  put_none first h = record { size = n; here = λ o. absurd (omega arith); others = λ y o. refl }

  -- .. or a write is for one of the first rows, ..
  pub put_lower : (first : ℕ) → first < log_bytes → (b : ℕ) → b ≡ 64 * (get_or ls first 0 / 64) + place → Put ls first place k (set ls first b)
  put_lower first h b e =
      record {
        size = length-set ls first b ∙ n;
        here = λ o. logged_lower ms (suc first) (omega arith) ∙ ap (λ (x : ℕ). x % 64) written ∙ omega (arith, e);
        others = λ y o. same_bits ls ms y (λ h. ap (λ (n : ℕ). n % 64) (at_other ls first b y o)) (λ h l. (upper (y - 3072), upper (y - 2048), upper (y - 1024)));
      }
    where
      ms : List ℕ
      ms = set ls first b

      written : at ms (suc first) ≡ b
      written = get_or-set_same ls first b 0 (omega arith)

      upper : (u : ℕ) → at ms u / 64 ≡ at ls u / 64
      upper u = go (ℕ_discrete u (suc first))
        where
          go : Dec (u ≡ suc first) → at ms u / 64 ≡ at ls u / 64
          go (yes i) = rw i (ap (λ (x : ℕ). x / 64) written ∙ omega (arith, e))
          go (no i) = ap (λ (x : ℕ). x / 64) (at_other ls first b u i)

  -- .. or for one of the others
  module _ (first : ℕ) (h : log_bytes ≤ first) (l : first < listing_rows) where
    abbrev ms₁ : List ℕ
    ms₁ = topped ls (first - 3072) (place % 4)

    abbrev ms₂ : List ℕ
    ms₂ = topped ms₁ (first - 2048) (place / 4 % 4)

    abbrev ms₃ : List ℕ
    ms₃ = topped ms₂ (first - 1024) (place / 16)

    size₁ : length ms₁ ≡ log_bytes
    size₁ = length-set ls (first - 3072) _ ∙ n

    size₂ : length ms₂ ≡ log_bytes
    size₂ = length-set ms₁ (first - 2048) _ ∙ size₁

    in₁ : first - 3072 < length ls
    in₁ = omega arith

    in₂ : first - 2048 < length ms₁
    in₂ = omega (arith, size₁)

    in₃ : first - 1024 < length ms₂
    in₃ = omega (arith, size₂)

    other : (u : ℕ) → (u ≡ suc (first - 3072) → ⊥) → (u ≡ suc (first - 2048) → ⊥) → (u ≡ suc (first - 1024) → ⊥) → at ms₃ u / 64 ≡ at ls u / 64
    other u a b c =
        topped_other ms₂ (first - 1024) (place / 16) in₃ u c ∙ topped_other ms₁ (first - 2048) (place / 4 % 4) in₂ u b
        ∙ topped_other ls (first - 3072) (place % 4) in₁ u a

    pub put_upper : Put ls first place k ms₃
    put_upper =
        record {
          size = length-set ms₂ (first - 1024) _ ∙ size₂;
          here = λ o. logged_upper ms₃ (suc first) (omega arith) (omega arith) ∙ rw (slot₁, slot₂, slot₃, bits₁, bits₂, bits₃) (omega arith);
          others = λ y o. same_bits ls ms₃ y
              (λ h. topped_lower ms₂ (first - 1024) (place / 16) in₃ y ∙ topped_lower ms₁ (first - 2048) (place / 4 % 4) in₂ y
              ∙ topped_lower ls (first - 3072) (place % 4) in₁ y)
              (λ m i. (
                other (y - 3072) (λ e. o (omega arith)) (λ e. omega arith) (λ e. omega arith),
                other (y - 2048) (λ e. omega arith) (λ e. o (omega arith)) (λ e. omega arith),
                other (y - 1024) (λ e. omega arith) (λ e. omega arith) (λ e. o (omega arith)),
              ));
        }
      where
        slot₁ : suc first - 3072 ≡ suc (first - 3072)
        slot₁ = omega arith

        slot₂ : suc first - 2048 ≡ suc (first - 2048)
        slot₂ = omega arith

        slot₃ : suc first - 1024 ≡ suc (first - 1024)
        slot₃ = omega arith

        bits₁ : at ms₃ (suc (first - 3072)) / 64 ≡ place % 4
        bits₁ =
            topped_other ms₂ (first - 1024) (place / 16) in₃ (suc (first - 3072)) (λ e. omega arith)
            ∙ topped_other ms₁ (first - 2048) (place / 4 % 4) in₂ (suc (first - 3072)) (λ e. omega arith)
            ∙ topped_here ls (first - 3072) (place % 4) in₁

        bits₂ : at ms₃ (suc (first - 2048)) / 64 ≡ place / 4 % 4
        bits₂ =
            topped_other ms₂ (first - 1024) (place / 16) in₃ (suc (first - 2048)) (λ e. omega arith) ∙ topped_here ms₁ (first - 2048) (place / 4 % 4) in₂

        bits₃ : at ms₃ (suc (first - 1024)) / 64 ≡ place / 16
        bits₃ = topped_here ms₂ (first - 1024) (place / 16) in₃

-- no row has got the place of no row yet, ..
pub blank_none : (ls : List ℕ) (first k : ℕ) → length ls ≡ log_bytes → Blank ls first first k ls
blank_none ls first k n = record { none = λ o y a b. absurd (omega arith); kept = kept_none ls (suc first) first n }
