pub mod Bytes
pub mod Escapes
pub mod Numerals
