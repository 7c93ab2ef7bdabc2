-- The laws that the proofs cite.
pub mod LittleEndian
pub mod Summing
pub mod Runs
pub mod Sections
pub mod Writing
pub mod Judging
pub mod Accepting
pub mod RoundTrip
pub mod ReadsBack
pub mod OneParcel
pub mod OneOutcome
pub mod Worked
