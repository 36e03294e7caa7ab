-- The definitions that the contracts of `engine` cite, beside the calls of `model`, and series of its calls.
pub mod Answers
pub mod Series
