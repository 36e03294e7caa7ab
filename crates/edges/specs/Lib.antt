-- The definitions that the contracts of `edges` cite.
pub mod Steps
