-- The definitions that the contracts of `changes` cite.
pub mod Sounded
pub mod Working
