pub mod Judgement
pub mod Searching
