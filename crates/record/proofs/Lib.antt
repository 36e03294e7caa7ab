-- Laws of the lines of a record, and of the pen that writes them.
pub mod Laws
pub mod Pens
