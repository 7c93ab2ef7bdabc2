-- Document 01, "Numbers of refusal": the number and the place of what is said of an input. Assumes nothing.
use Rattle.std.specs.Prelude.{ℕ}
use Rattle.parcels.specs.Refusals.{number_of, place_of}
use Rattle.matching.specs.Refusals.{refusal_number, refusal_place}
use Rattle.host.specs.declared.outcome.Refusal.{Refusal}
use Rattle.host.specs.declared.outcome.Refusal.TheVariants.{Parcel, BytesAfter, Tables}

abbrev pub said_number : Refusal → ℕ
said_number (Parcel x) = number_of x
said_number (BytesAfter place) = 15
said_number (Tables x) = refusal_number x

abbrev pub said_place : Refusal → ℕ
said_place (Parcel x) = place_of x
said_place (BytesAfter place) = place
said_place (Tables x) = refusal_place x
