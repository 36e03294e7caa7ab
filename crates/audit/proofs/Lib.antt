-- The laws that the proofs of `audit` rest on.
pub mod Each
pub mod Words
pub mod Tally
pub mod Walk
pub mod Linked
pub mod Phi
pub mod Limited
pub mod Enrolled
pub mod Whole
