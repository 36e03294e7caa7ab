-- What the proofs of the runs lean on.
pub mod Steps
pub mod News
pub mod Kept
pub mod Requeuing
pub mod Holding
pub mod Live
pub mod Entries
pub mod Written
pub mod Turns
pub mod Scans
pub mod Takes
pub mod Picking
pub mod SettleLoop
