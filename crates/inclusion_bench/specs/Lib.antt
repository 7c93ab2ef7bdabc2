-- What the contract of `inclusion_bench` cites.
pub mod Code
