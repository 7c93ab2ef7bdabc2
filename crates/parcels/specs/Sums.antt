-- Document 01, "The parcel": "The first sum adds up the words ..; the second adds up the first sum's value after each word.
-- Both sums run modulo 4,294,967,296 and start at 0." Over word lists of any length. Assumes nothing.
use Rattle.std.specs.Prelude.{ℕ, ◌+◌, ◌%◌, ◌^◌, List, [], ◌∷◌}
use Rattle.parcels.specs.declared.sums.Sums.{Sums}

-- both start at 0
unfoldable pub none : Sums
none = record { first = 0; second = 0 }

-- one word more
unfoldable pub added : Sums → ℕ → Sums
added sums word =
    record { first = (sums.first + word) % 2 ^ 32; second = (sums.second + (sums.first + word) % 2 ^ 32) % 2 ^ 32 }

-- all words of a list, in its order
unfoldable pub added_all : Sums → List ℕ → Sums
added_all sums [] = sums
added_all sums (word ∷ words) = added_all (added sums word) words
