pub mod Uses
pub mod Lists
pub mod Numbers
pub mod Chosen
pub mod Givers
mod BestOffers
pub mod Unread
pub mod Room
pub mod RoundLemmas
pub mod RowLemmas
pub mod DenseLemmas
pub mod Filling
pub mod Counted
pub mod Leads
pub mod NoLoops
pub mod Naming
