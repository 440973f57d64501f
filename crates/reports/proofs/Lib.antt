pub mod Paths
pub mod Listing
