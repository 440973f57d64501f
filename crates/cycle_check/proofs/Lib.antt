pub mod Places
mod Descents
mod Turning
mod Falling
pub mod Listing
mod Tallies
mod Stages
mod Regions
mod Ways
mod Carrying
mod Filling
mod Told
pub mod Closings
pub mod Reaching
pub mod Reversing
pub mod Wanting
pub mod Ending
