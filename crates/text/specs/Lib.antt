-- What stands at a position of a text, what a writer wrote, and how much room it needs: the definitions that the contracts of the text crates cite.
pub mod Number
pub mod Literal
pub mod Reading
pub mod Writing
pub mod Rooms
