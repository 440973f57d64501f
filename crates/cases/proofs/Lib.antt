mod Pushes
mod Writing
