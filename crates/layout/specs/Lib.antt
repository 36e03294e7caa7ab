-- The definitions that the contracts of `layout` cite, beside the reading of the bytes in `model`.
pub mod Setters
pub mod Rows
pub mod Walks
