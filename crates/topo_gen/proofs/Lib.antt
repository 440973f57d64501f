pub mod Counts
pub mod Drawing
pub mod Entries
pub mod UpTo
