-- Laws of a run: the pairs' lines, a turn of the loop over the changes, the whole, its one outcome, and demand 3 of it.
pub mod Pairs
pub mod Turns
pub mod Whole
pub mod Once
pub mod RunDemand
