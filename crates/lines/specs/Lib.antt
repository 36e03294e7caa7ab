-- What the readers of lines must answer.
pub mod Pieces
pub mod Clauses
