pub mod Operators
pub mod Reading
pub mod Rows
pub mod Texts
