-- Texts that are read piece by piece, and the lines of a trace.
pub mod Pieces
pub mod Laws
pub mod Words
