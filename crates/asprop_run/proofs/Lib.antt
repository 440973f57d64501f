pub mod Answering
pub mod RefusalPieces
pub mod Ending
pub mod Arguments
pub mod StatusLemmas
pub mod StatusRows
pub mod Named
pub mod OneSettling
pub mod Settled
pub mod Acting
pub mod Populated
pub mod Insides
pub mod Copies
mod Delivered
mod Checked
mod PrintedRight
mod Sweeps
pub mod Facts
pub mod OneText
