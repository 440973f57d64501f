pub mod Policy
pub mod Plain
pub mod Ranking
pub mod Prelude
