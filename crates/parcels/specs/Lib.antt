-- What the contracts of `parcels` cite. Each file is a part of document 01.
pub mod Asked
pub mod Numbers
pub mod Sums
pub mod Table
pub mod Parcel
pub mod Refusals
pub mod Read
pub mod Write
