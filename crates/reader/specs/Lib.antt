-- Where a reader stands after a line, and where the line's words are put.
pub mod Place
