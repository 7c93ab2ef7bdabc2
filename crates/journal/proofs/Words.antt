-- The words of the entries in the journal slice. Assumes nothing.
use mathlib.Core.Path.{◌≡◌, sym, ap, ap₂, ◌∙◌}
use mathlib.Core.List.{List, ◌++◌, append_assoc}
use Prim.Native.Nat.{ℕ, ◌+◌, ◌*◌, ◌≤◌, ◌<◌}
use native.Mathlib.Omega.{arith}
use lib.ListN.{length, get_or, take, drop, length-append, length-drop}
use lib.Seq.{length-take-le, take_at, drop_at, get_or-take, get_or-append-add}
use Rattle.journal.specs.Entry.{Entry, entry_words, words, entry_at, written}

module _ (js : List ℕ) (k : ℕ) (ws : List ℕ) (n : length ws ≡ entry_words) (h : k * entry_words + entry_words ≤ length js) where
  front : length (take (k * entry_words) js) ≡ k * entry_words
  front = length-take-le (k * entry_words) js (omega arith)

  pub length_written : length (written js k ws) ≡ length js
  length_written =
      length-append (take (k * entry_words) js) (ws ++ drop (k * entry_words + entry_words) js)
      ∙ omega (arith, front, length-append ws (drop (k * entry_words + entry_words) js), length-drop (k * entry_words + entry_words) js)

  -- the entries before stay, with the entry behind them
  pub before_written : take (k * entry_words) (written js k ws) ≡ take (k * entry_words) js
  before_written = take_at (take (k * entry_words) js) (ws ++ drop (k * entry_words + entry_words) js) (k * entry_words) front

  pub take_written : take (k * entry_words + entry_words) (written js k ws) ≡ take (k * entry_words) js ++ ws
  take_written =
      ap (take (k * entry_words + entry_words)) (sym (append_assoc (take (k * entry_words) js) ws (drop (k * entry_words + entry_words) js)))
      ∙ take_at (take (k * entry_words) js ++ ws) (drop (k * entry_words + entry_words) js) (k * entry_words + entry_words)
      (length-append (take (k * entry_words) js) ws ∙ omega (arith, front))

  -- words written over others
  pub written_again : (vs : List ℕ) → written (written js k ws) k vs ≡ written js k vs
  written_again vs =
      let e : length (take (k * entry_words) js ++ ws) ≡ k * entry_words + entry_words = length-append (take (k * entry_words) js) ws ∙ omega (arith, front) in
      ap₂ (λ (p q : List ℕ). p ++ (vs ++ q)) before_written
      (ap (drop (k * entry_words + entry_words)) (sym (append_assoc (take (k * entry_words) js) ws (drop (k * entry_words + entry_words) js)))
      ∙ drop_at (take (k * entry_words) js ++ ws) (drop (k * entry_words + entry_words) js) (k * entry_words + entry_words) e)

-- the entry that stands behind others
pub entry_read : (js older : List ℕ) (k : ℕ) (e : Entry) → length older ≡ k * entry_words → take (k * entry_words + entry_words) js ≡ older ++ words e
    → entry_at js k ≡ e
entry_read js older k e n t =
    let a : get_or js (k * entry_words + 1) 0 ≡ e.label = word 1 (omega arith) in
    let b : get_or js (k * entry_words + 2) 0 ≡ e.depth = word 2 (omega arith) in
    let c : get_or js (k * entry_words + 3) 0 ≡ e.below = word 3 (omega arith) in
    rw (word_first, a, b, c)
  where
    word : (i : ℕ) → i < 4 → get_or js (k * entry_words + i) 0 ≡ get_or (words e) i 0
    word i h =
        sym (get_or-take (k * entry_words + entry_words) js (k * entry_words + i) 0 (omega arith))
        ∙ ap (λ (l : List ℕ). get_or l (k * entry_words + i) 0) t
        ∙ ap (λ (x : ℕ). get_or (older ++ words e) (x + i) 0) (sym n)
        ∙ get_or-append-add older (words e) i 0

    word_first : get_or js (k * entry_words) 0 ≡ e.row
    word_first = let z : k * entry_words ≡ k * entry_words + 0 = omega arith in ap (λ (x : ℕ). get_or js x 0) z ∙ word 0 (omega arith)
