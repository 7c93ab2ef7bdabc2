-- What the contracts of `matching` cite. The first six files speak document 01's words, the others say what the code does on its way.
pub mod Answer
pub mod Corner
pub mod EarliestClose
pub mod Family
pub mod Refusals
pub mod Judge
pub mod Asked
pub mod CornerRow
pub mod Engine
pub mod Images
pub mod Linked
pub mod Path
pub mod Placing
pub mod Room
pub mod Shape
pub mod Window
