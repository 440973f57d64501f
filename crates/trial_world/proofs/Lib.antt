mod PartPlans
pub mod Subsets
mod KindBooks
mod LoneAses
mod NextHops
mod Routings
pub mod TrialWorlds
mod RowCounts
pub mod TrialNumbers
mod Watched
mod TrialTables
mod PlainKinds
mod KindsByPlace
mod FirstSeeds
mod SentBy
mod TreeCounts
mod TreeLists
mod TreeSteps
mod TrialTrees
mod Renewed
mod Keeping
mod TouchedAround
pub mod Following
mod Lines
mod Begun
