pub mod Rows
pub mod Growth
pub mod Held
pub mod Validity
pub mod Traces
pub mod Counts
pub mod Groups
