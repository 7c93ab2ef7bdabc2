-- Document 01, "Marked examples": E1 to E10 and S1 to S3 as one table, and what an example says of the calls. Assumes nothing.
use Rattle.std.specs.Prelude.{◌≡◌, Ok, List, [], ◌∷◌, ◌++◌, ◌↔◌, ℕ, ◌≤◌, length, drop}
use Prim.Native.Char.{code}
use Prim.Native.String as text
use Rattle.matching.specs.declared.Answer.TheVariants.{Included, Absent}
use Rattle.matching.specs.Answer.{Answers}
use Rattle.journal.specs.Lent.{Lent, lent}
use Rattle.journal.specs.Refusals as journal
use Rattle.journal.specs.Session.{Call, strike_row, undo_last}
use Rattle.journal.specs.Outcome.{Outcome, Meets, MeetsStrike, MeetsUndo}
use Rattle.host.specs.Host.{answer_bytes, Entry}
use Rattle.parcels.specs.Parcel.{parcel_of}
use Rattle.promises.specs.Calls.{Inclusion}
use Rattle.matching.specs.declared.Answer.{Answer}

-- an example: the depths and labels of a recipe and of a listing, the answer, the images that it writes, and the line; or what is
-- lent, a call, its answer, and what it leaves
pub data Example : Type 0 where
  asks : List ℕ → List ℕ → List ℕ → List ℕ → Answer → List ℕ → text.String → Example
  edits : Lent → Call → journal.Answer → Lent → Example

-- the bytes of a text
abbrev pub bytes : text.String → List ℕ
bytes text.[] = []
bytes (text.◌∷◌ c s) = code c ∷ bytes s

-- a slice with something written in front, later slots as they were
abbrev pub over : List ℕ → List ℕ → List ℕ
over new old = new ++ drop (length new) old

-- a recipe's parcel followed by a listing's
abbrev pub input : List ℕ → List ℕ → List ℕ → List ℕ → List ℕ
input rd rl td tl = parcel_of rd rl ++ parcel_of td tl

-- an outcome of `include`, on any map slice long enough, meets its contract just if it is the answer a with the images in front of
-- the old slots
abbrev pub IncludeGives : List ℕ → List ℕ → List ℕ → List ℕ → Answer → List ℕ → Type 0
IncludeGives rd rl td tl a images =
    (m : List ℕ) → length rd ≤ length m → (r : Inclusion) (n : List ℕ) → Answers rd rl td tl m r n ↔ ((r ≡ Ok a) × (n ≡ over images m))

-- an outcome of the C entry, on any buffer large enough, meets its contract just if it is the line xs in front of the old bytes
abbrev pub EntryGives : List ℕ → List ℕ → Type 0
EntryGives read xs =
    (m : List ℕ) → answer_bytes ≤ length m → (r : ℕ) (n : List ℕ) → Entry read m r n ↔ ((r ≡ length xs) × (n ≡ over xs m))

-- what an example says: `include` and, on the two parcels, the C entry give just that; an outcome meets the contract of `strike` or
-- `undo` just if it is that answer and leaves that
abbrev pub Says : Example → Type 0
Says (asks rd rl td tl a images line) = IncludeGives rd rl td tl a images × EntryGives (input rd rl td tl) (bytes line)
Says (edits s (strike_row r) a t) = (o : Outcome) → MeetsStrike s r o ↔ Meets o a t
Says (edits s undo_last a t) = (o : Outcome) → MeetsUndo s o ↔ Meets o a t

-- every row of a table
infixr 67 ◌&◌
pub data Every (P : Example → Type 0) : List Example → Type 0 where
  end : Every P []
  ◌&◌ : {x : Example} {xs : List Example} → P x → Every P xs → Every P (x ∷ xs)

-- a yes and a no with a corner's width and row
abbrev pub included : ℕ → ℕ → Answer
included w v = Included (record { width = w; row = v })

abbrev pub absent : ℕ → ℕ → Answer
absent w v = Absent (record { width = w; row = v })

-- the new counts
abbrev pub done : ℕ → ℕ → journal.Answer
done rows entries = Ok (record { rows = rows; entries = entries })

-- 10(30(20)), with room for one entry; and what S1 leaves
abbrev pub chain : Lent
chain = lent (0 ∷ 1 ∷ 2 ∷ []) (10 ∷ 30 ∷ 20 ∷ []) 3 (0 ∷ 0 ∷ 0 ∷ 0 ∷ []) 0

abbrev pub shorter : Lent
shorter = lent (0 ∷ 1 ∷ 0 ∷ []) (10 ∷ 20 ∷ 0 ∷ []) 2 (2 ∷ 30 ∷ 1 ∷ 1 ∷ []) 1

-- the table, E1 to E10 and S1 to S3
abbrev pub examples : List Example
examples =
    -- E1: 10(20) in 10(30(20))
    asks (0 ∷ 1 ∷ []) (10 ∷ 20 ∷ []) (0 ∷ 1 ∷ 2 ∷ []) (10 ∷ 30 ∷ 20 ∷ []) (included 1 0) (1 ∷ 3 ∷ []) "included 1 0 1 3\n"
    -- E2: 10(20) in 10(20)
    ∷ asks (0 ∷ 1 ∷ []) (10 ∷ 20 ∷ []) (0 ∷ 1 ∷ []) (10 ∷ 20 ∷ []) (included 1 0) (1 ∷ 2 ∷ []) "included 1 0 1 2\n"
    -- E3: 10(20 30) in 10(30 20)
    ∷ asks (0 ∷ 1 ∷ 1 ∷ []) (10 ∷ 20 ∷ 30 ∷ []) (0 ∷ 1 ∷ 1 ∷ []) (10 ∷ 30 ∷ 20 ∷ []) (absent 1 1) [] "absent 1 1\n"
    -- E4: 10 in nothing
    ∷ asks (0 ∷ []) (10 ∷ []) [] [] (absent 0 1) [] "absent 0 1\n"
    -- E5: 10(20) in 10(20 10(20))
    ∷ asks (0 ∷ 1 ∷ []) (10 ∷ 20 ∷ []) (0 ∷ 1 ∷ 1 ∷ 2 ∷ []) (10 ∷ 20 ∷ 10 ∷ 20 ∷ []) (included 1 0) (3 ∷ 4 ∷ []) "included 1 0 3 4\n"
    -- E6: the forest 10, 20 in 10(20)
    ∷ asks (0 ∷ 0 ∷ []) (10 ∷ 20 ∷ []) (0 ∷ 1 ∷ []) (10 ∷ 20 ∷ []) (absent 1 0) [] "absent 1 0\n"
    -- E7: 10(10) in 10(10(10))
    ∷ asks (0 ∷ 1 ∷ []) (10 ∷ 10 ∷ []) (0 ∷ 1 ∷ 2 ∷ []) (10 ∷ 10 ∷ 10 ∷ []) (included 1 0) (2 ∷ 3 ∷ []) "included 1 0 2 3\n"
    -- E8: 10(20(30) 40) in 10(20(40) 30)
    ∷ asks (0 ∷ 1 ∷ 2 ∷ 1 ∷ []) (10 ∷ 20 ∷ 30 ∷ 40 ∷ []) (0 ∷ 1 ∷ 2 ∷ 1 ∷ []) (10 ∷ 20 ∷ 40 ∷ 30 ∷ []) (absent 1 2) [] "absent 1 2\n"
    -- E9: 10(20 20) in 10(20(20))
    ∷ asks (0 ∷ 1 ∷ 1 ∷ []) (10 ∷ 20 ∷ 20 ∷ []) (0 ∷ 1 ∷ 2 ∷ []) (10 ∷ 20 ∷ 20 ∷ []) (absent 1 1) [] "absent 1 1\n"
    -- E10: 10(20) in 20
    ∷ asks (0 ∷ 1 ∷ []) (10 ∷ 20 ∷ []) (0 ∷ []) (20 ∷ []) (absent 1 1) [] "absent 1 1\n"
    -- S1: strike row 2 of 10(30(20))
    ∷ edits chain (strike_row 2) (done 2 1) shorter
    -- S2: strike row 1 instead
    ∷ edits chain (strike_row 1) (done 2 1) (lent (0 ∷ 1 ∷ 0 ∷ []) (30 ∷ 20 ∷ 0 ∷ []) 2 (1 ∷ 10 ∷ 0 ∷ 2 ∷ []) 1)
    -- S3: undo after S1
    ∷ edits shorter undo_last (done 3 0) chain
    ∷ []
