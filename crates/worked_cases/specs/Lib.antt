pub mod Narrows
pub mod NarrowLaws
pub mod Settled
