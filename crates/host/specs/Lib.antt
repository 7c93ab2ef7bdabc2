-- What the contracts of `host` cite. Each file is a part of document 01.
pub mod Line
pub mod Put
pub mod Refusals
pub mod Table
pub mod Outcome
pub mod Host
