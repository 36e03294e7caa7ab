-- The laws of the rack's fields that callers cite: rows as parts of the bytes, and images of fields.
pub mod Rows
pub mod Pieces
pub mod Tables
pub mod Bits
pub mod Images
pub mod Apart
pub mod Cleared
pub mod Said
pub mod Spans
pub mod Walks
pub mod Reached
pub mod Powers
