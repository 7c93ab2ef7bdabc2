-- The laws that the proofs cite.
pub mod Digits
pub mod Putting
pub mod Reading
pub mod Places
pub mod Corners
pub mod Longest
pub mod OneLine
pub mod LongInput
