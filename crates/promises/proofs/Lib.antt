-- The proofs of the demands and of the marked examples.
pub mod ByTable
pub mod TableRows
pub mod ReadRows
pub mod DemandOne
pub mod DemandTwo
pub mod DemandThree
pub mod OneOutcome
pub mod Examples
