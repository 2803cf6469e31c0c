pub mod Digit
pub mod Complete
pub mod Sound
pub mod Parts
pub mod Turns
pub mod Writes
pub mod Lengths
