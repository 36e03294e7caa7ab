-- What the proofs of the changes lean on.
pub mod Begun
pub mod Numbers
pub mod Chains
pub mod Wholes
pub mod Trials
pub mod Answered
