-- The laws about the contract of `inclusion_bench`.
pub mod OneOutcome
