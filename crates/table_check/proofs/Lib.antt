pub mod Behind
mod BestNear
pub mod RowMaps
pub mod Sought
pub mod Numbered
pub mod PathNumbers
pub mod Lines
pub mod Walking
pub mod Sectioning
pub mod Leakers
pub mod Freely
pub mod Listed
pub mod ReadRows
pub mod ReadSections
pub mod AcceptedRounds
pub mod PrintedRounds
pub mod OneVerdict
