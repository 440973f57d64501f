pub mod Counted
pub mod Falling
pub mod Nested
