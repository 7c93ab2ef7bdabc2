-- What the contracts of `rows` cite. Each file is a part of document 01.
pub mod Limits
pub mod Rows
pub mod FirstBad
pub mod Forest
pub mod Stands
pub mod Embedding
