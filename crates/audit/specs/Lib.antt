-- The definitions that the contracts of `audit` cite, beside those of a sound rack in `model`.
pub mod Tally
pub mod Parts
pub mod Bits
