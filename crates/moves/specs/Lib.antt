-- The definitions that the contracts of `moves` cite, beside the moves of `model`.
pub mod Proper
pub mod Counts
pub mod Handing
