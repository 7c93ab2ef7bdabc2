-- Document 01, "Program and C entry": the line of an input, and the C entry's answer with every byte of the buffer afterwards. Assumes nothing.
use Rattle.std.specs.Prelude.{◌≡◌, Bool, true, false, List, [], ◌∷◌, ◌++◌, ℕ, ◌≤◌, ltb, length, take, drop, Result, Ok, Err}
use Rattle.host.specs.Line.{line, included_word, absent_word, refused_word}
use Rattle.host.specs.Refusals.{said_number, said_place}
use Rattle.host.specs.Outcome.{Said}
use Rattle.host.specs.declared.outcome.Outcome.{Outcome}
use Rattle.host.specs.declared.outcome.Outcome.TheVariants.{Included, Absent}
use Rattle.host.specs.declared.outcome.Refusal.{Refusal}

-- an outcome's line: `included` with corner width, corner row and the images in recipe order; `absent` with corner width and corner
-- row; `refused` with number and place
abbrev pub line_of : Result Outcome Refusal → List ℕ → List ℕ
line_of (Ok (Included corner n)) map = line included_word (corner.width ∷ corner.row ∷ take n map)
line_of (Ok (Absent corner)) map = line absent_word (corner.width ∷ corner.row ∷ [])
line_of (Err refusal) map = line refused_word (said_number refusal ∷ said_place refusal ∷ [])

-- the line of an input
pub record LineIs (input bytes : List ℕ) : Type 0 where
  pub outcome : Result Outcome Refusal
  pub map : List ℕ
  pub said : Said input outcome map
  pub line : bytes ≡ line_of outcome map

-- the fewest bytes that an answer buffer has: as many as the longest line
abbrev pub answer_bytes : ℕ
answer_bytes = 1295

-- an outcome can be shown: its line fits the buffer, and the map has its images
abbrev pub images_of : Result Outcome Refusal → ℕ
images_of (Ok (Included corner n)) = n
images_of (Ok (Absent corner)) = 0
images_of (Err refusal) = 0

pub record Shown (outcome : Result Outcome Refusal) (map buffer : List ℕ) : Type 0 where
  pub fits : length (line_of outcome map) ≤ length buffer
  pub images : images_of outcome ≤ length map

-- a buffer with room for it holds the line of an input in its first bytes, all later ones as they were; the answer is the line's length
pub record Answered (input before : List ℕ) (r : ℕ) (after : List ℕ) : Type 0 where
  pub bytes : List ℕ
  pub line : LineIs input bytes
  pub count : r ≡ length bytes
  pub stored : after ≡ bytes ++ drop (length bytes) before

-- the C entry: 0 and no byte changed where the buffer is too short, number 19, which is tested first; else the line
abbrev pub Entered : Bool → List ℕ → List ℕ → ℕ → List ℕ → Type 0
Entered true input before r after = (r ≡ 0) × (after ≡ before)
Entered false input before r after = Answered input before r after

pub record Entry (input before : List ℕ) (r : ℕ) (after : List ℕ) : Type 0 where
  pub by_room : Entered (ltb (length before) answer_bytes) input before r after
