-- The lines of a record by their figures, where `model` gives them by a state, and what is written piece by piece.
pub mod Line
pub mod Pen
