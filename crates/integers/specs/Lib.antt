pub mod Words
pub mod Bitwise
pub mod Shifts
pub mod Laws
pub mod Safe
pub mod Digits
pub mod Examples
