-- What lent slices hold: numbers within their width. The theorems about parcels are over such tables and inputs. Assumes nothing.
use Rattle.std.specs.Prelude.{◌≡◌, ℕ, ◌^◌, ◌<◌, List, [], ◌∷◌, length}

-- every number of a list is below a bound
abbrev pub Below : ℕ → List ℕ → Type 0
Below bound [] = Unit
Below bound (x ∷ xs) = (x < bound) × Below bound xs

-- an input is a list of bytes
abbrev pub Bytes : List ℕ → Type 0
Bytes bytes = Below 256 bytes

-- a table: as many 16-bit depths as 32-bit labels
pub record Table (depths labels : List ℕ) : Type 0 where
  pub same : length depths ≡ length labels
  pub depths_fit : Below (256 ^ 2) depths
  pub labels_fit : Below (256 ^ 4) labels
