-- What the contracts of `parcel_bench` cite.
pub mod Places
