pub mod PlaceLemmas
mod Kept
