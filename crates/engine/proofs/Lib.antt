-- What the proofs of the calls lean on, and demand 3 of any series of changes.
pub mod Numbers
pub mod Changing
pub mod Series
