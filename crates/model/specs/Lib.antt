-- The definitions that a reader must believe: document 01, and the requests of document 02 that have landed, part by part, in the order in which
-- they lean on each other.
pub mod Lists
pub mod Counting
pub mod Parts
pub mod Shape
pub mod State
pub mod Bytes
pub mod Sound
pub mod Valid
pub mod Words
pub mod Moves
pub mod Change
pub mod Calls
pub mod Ledger
pub mod Text
pub mod Trace
pub mod Record
pub mod Run
