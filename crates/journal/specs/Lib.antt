-- What the contracts of `journal` cite. Each file is a part of document 01.
pub mod Strike
pub mod Entry
pub mod Lent
pub mod Refusals
pub mod Session
pub mod Kept
pub mod Outcome
