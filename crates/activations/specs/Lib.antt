pub mod Pieces
pub mod Files
pub mod Named
pub mod Settling
pub mod Laws
pub mod Prelude
