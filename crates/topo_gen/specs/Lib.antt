pub mod Drawn
pub mod Scenarios
pub mod Lines
pub mod Rising
