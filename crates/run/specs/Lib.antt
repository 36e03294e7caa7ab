-- The definitions that the contracts of `run` cite, and demand 3 of a run.
pub mod Recording
pub mod RunDemand
