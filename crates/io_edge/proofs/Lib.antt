pub mod Keeping
pub mod Appending
pub mod FileLemmas
pub mod RoomLemmas
