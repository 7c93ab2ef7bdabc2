-- Runs of numbers of one width in bytes: slots that a loop fills from them, and bytes that a loop puts them into. Assumes nothing.
use Rattle.std.proofs.Common.{◌≡◌, ℕ, zero, suc, ◌+◌, ◌*◌, ◌/◌, ◌<◌, ◌≤◌, List, [], ◌∷◌, ◌++◌, length, get_or, drop, set, sym, refl, ap, ◌∙◌, append_assoc, mul-zero, mul-suc, add-one, arith, length-append, drop_of_length-le, drop-cons, drop-drop}
use lib.Seq.{set_at, sets}
use Rattle.parcels.specs.Numbers.{le, number, fields, numbers}
use Rattle.parcels.proofs.LittleEndian.{numbers_length, sets_append}

-- a number of w bytes has w bytes
pub le_length : (w x : ℕ) → length (le w x) ≡ w
unfolding le
le_length zero x = refl
le_length (suc w) x = ap suc (le_length w (x / 256))

-- so many numbers of w bytes have w times as many bytes
pub fields_length : (w : ℕ) (xs : List ℕ) → length (fields w xs) ≡ w * length xs
unfolding fields
fields_length w [] = sym (mul-zero w)
fields_length w (x ∷ xs) = omega (arith, length-append (le w x) (fields w xs), le_length w x, fields_length w xs, mul-suc w (length xs))

-- one number more is the number after those
snoc : (w i : ℕ) (bytes : List ℕ) → numbers w (suc i) bytes ≡ numbers w i bytes ++ (number w (drop (w * i) bytes) ∷ [])
unfolding numbers
snoc w zero bytes = rw mul-zero
snoc w (suc i) bytes =
    let e : w + w * i ≡ w * suc i = omega (arith, mul-suc w i) in
    let d : drop (w * i) (drop w bytes) ≡ drop (w * suc i) bytes = drop-drop (w * i) w bytes ∙ ap (λ (k : ℕ). drop k bytes) e in
    ap (λ (r : List ℕ). number w bytes ∷ r) (snoc w i (drop w bytes) ∙ rw d)

module _ (w : ℕ) (bytes : List ℕ) (at : ℕ) (slots : List ℕ) where
  -- no slot is filled yet
  pub fill_none : slots ≡ numbers w 0 (drop at bytes) ++ drop 0 slots
  unfolding numbers
  fill_none = refl

  -- one turn of a filling loop: slot i gets the number after those that fill the slots before it
  pub fill_more : (now : List ℕ) (i x : ℕ) → i < length slots → now ≡ numbers w i (drop at bytes) ++ drop i slots
      → x ≡ number w (drop (at + w * i) bytes) → set now i x ≡ numbers w (i + 1) (drop at bytes) ++ drop (i + 1) slots
  fill_more now i x h e f =
      let ns = numbers w i (drop at bytes) in
      let d : drop (w * i) (drop at bytes) ≡ drop (at + w * i) bytes = drop-drop (w * i) at bytes in
      rw (e, drop-cons slots i 0, add-one i, snoc w i (drop at bytes), d, ← f)
      (set_at ns (get_or slots i 0) (drop (suc i) slots) x i (numbers_length w i (drop at bytes)) ∙ sym (append_assoc ns (x ∷ []) (drop (suc i) slots)))

module _ (w : ℕ) (xs : List ℕ) (at i : ℕ) where
  -- one turn of a putting loop: the number at i goes after those before it
  pub put_turn : {whole : List ℕ} (bytes next : List ℕ) → i < length xs → next ≡ sets bytes (at + w * i) (le w (get_or xs i 0))
      → sets bytes (at + w * i) (fields w (drop i xs)) ≡ whole → sets next (at + w * (i + 1)) (fields w (drop (i + 1) xs)) ≡ whole
  unfolding fields
  put_turn bytes next h e inv =
      let k : at + w * i + length (le w (get_or xs i 0)) ≡ at + w * suc i = omega (arith, le_length w (get_or xs i 0), mul-suc w i) in
      let s = sets_append (le w (get_or xs i 0)) (fields w (drop (suc i) xs)) bytes (at + w * i) in
      let inv' = rw (drop-cons xs i 0) at inv in
      rw (add-one i, e) (sym (rw k at s) ∙ inv')

  -- its end: no number is left
  pub put_stop : {whole : List ℕ} (bytes : List ℕ) → length xs ≤ i → sets bytes (at + w * i) (fields w (drop i xs)) ≡ whole → bytes ≡ whole
  unfolding fields
  put_stop bytes h inv = rw drop_of_length-le at inv
