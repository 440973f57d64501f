mod Greedy
mod Marks
mod Counting
mod Runs
mod AfterTurns
mod Placing
mod Heights
mod Words
pub mod Sound
mod Said
