-- Bytes put into a lent buffer. Assumes nothing.
use Rattle.std.specs.Prelude.{◌≡◌, List, ℕ, ◌++◌, length, drop}

-- the bytes stand at the front of the buffer afterwards, all later ones stay, and n counts them
pub record Put (before bytes after : List ℕ) (n : ℕ) : Type 0 where
  pub stored : after ≡ bytes ++ drop (length bytes) before
  pub count : n ≡ length bytes
