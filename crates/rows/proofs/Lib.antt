-- The laws about the definitions, for this crate's proofs and for other crates.
pub mod Ancestors
pub mod AtLaws
pub mod CheckLaws
pub mod Deeper
pub mod Depths
pub mod DescendantLaws
pub mod FirstBad
pub mod Flat
pub mod Inclusion
pub mod Order
pub mod Stands
pub mod Tests
pub mod Windows
