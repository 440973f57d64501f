pub mod Sources
pub mod Command
pub mod Words
pub mod Jobs
pub mod Asking
pub mod Files
pub mod Texts
pub mod Prelude
