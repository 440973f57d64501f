pub mod RegionLemmas
pub mod HoldLemmas
pub mod ConsLemmas
pub mod ReleaseLemmas
pub mod GrowLemmas
pub mod Needed
pub mod Counts
pub mod PushLemmas
