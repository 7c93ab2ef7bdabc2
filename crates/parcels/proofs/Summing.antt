-- The sums of what is left of a list of words. Assumes nothing.
use Rattle.std.proofs.Common.{◌≡◌, ℕ, ◌+◌, ◌<◌, ◌≤◌, List, [], ◌∷◌, ◌++◌, length, get_or, drop, sym, refl, add-one, drop_of_length-le, drop-cons}
use Rattle.parcels.specs.declared.sums.Sums.{Sums}
use Rattle.parcels.specs.Sums.{none, added, added_all}
use Rattle.parcels.specs.Parcel.{words}

module _ (words : List ℕ) (i : ℕ) where
  next_word : (sums : Sums) → i < length words → added_all sums (drop i words) ≡ added_all (added sums (get_or words i 0)) (drop (i + 1) words)
  unfolding added_all
  next_word sums h = rw (drop-cons words i 0, add-one i)

  -- one turn of a summing loop: the word at i joins the sums so far
  pub turn : {whole : Sums} (sums next : Sums) (word : ℕ) → i < length words → get_or words i 0 ≡ word → next ≡ added sums word
      → added_all sums (drop i words) ≡ whole → added_all next (drop (i + 1) words) ≡ whole
  turn sums next word h e f inv = cc (next_word sums h)

  -- its end: no word is left
  pub stop : {whole : Sums} (sums : Sums) → length words ≤ i → added_all sums (drop i words) ≡ whole → sums ≡ whole
  unfolding added_all
  stop sums h inv = rw drop_of_length-le at inv

-- the words of one list and then of another
added_append : (sums : Sums) (xs ys : List ℕ) → added_all sums (xs ++ ys) ≡ added_all (added_all sums xs) ys
unfolding added_all
added_append sums [] ys = refl
added_append sums (x ∷ xs) ys = added_append (added sums x) xs ys

-- the sums over a table's words are those of its count, then its labels, then its depths
pub table_sums : (n : ℕ) (labels depths : List ℕ) → added_all (added_all (added none n) labels) depths ≡ added_all none (words n labels depths)
unfolding added_all
table_sums n labels depths = sym (added_append (added none n) labels depths)
