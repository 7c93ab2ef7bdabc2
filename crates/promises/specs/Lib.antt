-- The user's demands, each as one statement over what a caller sees of the public calls. Read Calls and Table first, then the demands.
pub mod Calls
pub mod Table
pub mod DemandOne
pub mod DemandTwo
pub mod DemandThree
pub mod OneOutcome
pub mod Examples
