pub mod Lists
pub mod Ranks
pub mod Placed
pub mod Plans
pub mod Mending
pub mod Staying
pub mod Prelude
