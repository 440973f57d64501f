pub mod Judging
pub mod Leaving
pub mod Known
pub mod Found
pub mod Prelude
