pub mod Sweeps
pub mod Laws
pub mod Fixed
pub mod Tables
pub mod Trials
pub mod Trees
