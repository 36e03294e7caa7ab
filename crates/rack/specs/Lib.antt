-- What a reading of the standard input may answer, and what a writing that failed did.
pub mod Input
pub mod Output
