-- Laws of numbers and fixed texts, for the proofs of this crate and of those that read and print lines.
pub mod Decimals
pub mod Standing
pub mod Begun
pub mod Over
pub mod Fours
pub mod Writers
pub mod Texts
pub mod Lengths
pub mod Answers
