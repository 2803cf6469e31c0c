pub mod Capped
pub mod Spaces
pub mod Texts
