-- Document 01's limits, each named once. Assumes nothing.
use Rattle.std.specs.Prelude.{ℕ}

-- a recipe has at most this many rows
abbrev pub recipe_rows : ℕ
recipe_rows = 256

-- a listing has at most this many rows
abbrev pub listing_rows : ℕ
listing_rows = 4096

-- no depth exceeds this one
abbrev pub deepest : ℕ
deepest = 63
