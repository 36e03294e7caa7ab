-- What the proofs of the edges lean on.
pub mod Joined
pub mod Changed
pub mod Undone
pub mod Shifted
pub mod Stages
pub mod EdgeSteps
pub mod Adding
pub mod Dropping
pub mod Search
