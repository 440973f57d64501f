pub mod Kinds
pub mod KindLaws
pub mod Stances
pub mod Names
pub mod Prelude
