-- What the reading of a whole trace must answer and keep.
pub mod Check
